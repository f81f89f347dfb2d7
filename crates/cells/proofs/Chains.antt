-- What a chain of free cells gives at its head, and what is left of it once the head is taken. Assumes nothing.
use Rattle.std.proofs.Common.{◌≡◌, ℕ, zero, suc, ◌-◌, ◌<◌, ◌≤◌, Bool, true, false, cond, ◌≢◌, List, ◌∷◌, length, get_or, set, sym, refl, ap, ◌∙◌, subst, ⊎_elim, arith, length-set, get_or-set_other, get_or-set_same}
use Rattle.std.proofs.lemmas.Bool.{cases_lt, cases_eq}
use Rattle.std.proofs.lemmas.List.{get_or_past}
use Rattle.std.proofs.lemmas.List.Sums.{sum_by-set}
use Rattle.cells.specs.Cells.{blank, body, link, marked, is_free}
use Rattle.cells.specs.Chain.{Absent, chain, Linked, free_cells, Sound, Extends, Taken}
use Rattle.cells.specs.declared.cell.Cell.{Cell}
use Rattle.cells.specs.declared.cell.FreeList.{FreeList}

module _ {I T : Type 0} where
  pub record Head (h : List (Cell I T)) (n p : ℕ) : Type 0 where
    pub within : p < length h
    pub free : is_free (body h p) ≡ true
    pub apart : Absent p (chain h (n - 1) (link h p))
    pub rest : Linked h (n - 1) (link h p)

  head : (h : List (Cell I T)) (n p : ℕ) → 0 < n → Linked h n p → Head h n p
  head h zero p some linked = absurd (omega arith)
  head h (suc n) p some linked =
      let e : suc n - 1 ≡ n = omega arith in
      record { within = linked.0; free = linked.1.0; apart = rw e linked.1.1.0; rest = rw e linked.1.1.1 }

  pub first : (h : List (Cell I T)) (free : FreeList) → 0 < free.count → Sound h free → Head h free.count free.first
  first h free some sound = head h free.count free.first some sound.linked

  -- a write off the chain leaves it
  pub kept_chain : (h : List (Cell I T)) (n p q : ℕ) (c : Cell I T) → Absent q (chain h n p) → Linked h n p → (chain (set h q c) n p ≡ chain h n p) × Linked (set h q c) n p
  kept_chain h zero p q c apart linked = (refl, tt)
  kept_chain h (suc n) p q c apart linked =
      let same : get_or (set h q c) p blank ≡ get_or h p blank = get_or-set_other h q p c blank apart.0 in
      let ih = kept_chain h n (link h p) q c apart.1 linked.1.1.1 in
      let long : length (set h q c) ≡ length h = length-set _ _ _ in
      let to : link (set h q c) p ≡ link h p = ap (λ (x : Cell I T). x.link) same in
      let in-it : body (set h q c) p ≡ body h p = ap (λ (x : Cell I T). x.body) same in
      let list : chain (set h q c) n (link (set h q c) p) ≡ chain h n (link h p) = ap (chain (set h q c) n) to ∙ ih.0 in
      (ap (λ r. p ∷ r) list, (rw long linked.0, (ap is_free in-it ∙ linked.1.0, (subst (Absent p) (sym list) linked.1.1.0, subst (Linked (set h q c) n) (sym to) ih.1))))

  extends_set : (h : List (Cell I T)) (q : ℕ) (c : Cell I T) → is_free (body h q) ≡ true → Extends h (set h q c)
  extends_set h q c free = record {
    long = length-set _ _ _;
    kept = λ p used.
        let ne : p ≢ q = λ e. let z : ◌≡◌ {A = Bool} true false = sym free ∙ ap (λ x. is_free (body h x)) (sym e) ∙ used in let y : ◌≡◌ {A = ℕ} 0 1 = cc in omega arith in
        ap (λ (x : Cell I T). x.body) (get_or-set_other h q p c blank ne);
  }

  -- a free cell that is taken is one free cell less
  fewer : (h : List (Cell I T)) (q : ℕ) (c : Cell I T) → q < length h → is_free (body h q) ≡ true → is_free c.body ≡ false → suc (free_cells (set h q c)) ≡ free_cells h
  fewer h q c within was is =
      let e = sum_by-set (λ (x : Cell I T). cond (is_free x.body) 1 0) h q c blank within in
      omega (arith, rw (was, is) at e)

  -- an unmarked cell that is written leaves no mark
  bare_set : (h : List (Cell I T)) (q : ℕ) (c : Cell I T) → c.marked ≡ false → ((p : ℕ) → marked h p ≡ false) → (p : ℕ) → marked (set h q c) p ≡ false
  bare_set h q c bare none p =
      ⊎_elim (λ (e : p ≡ q). ⊎_elim (λ (l : q < length h). ap (marked (set h q c)) e ∙ ap (λ (x : Cell I T). x.marked) (get_or-set_same h q c blank l) ∙ bare) (λ (l : length h ≤ q). ap (λ (x : Cell I T). x.marked) (get_or_past (set h q c) p blank (omega (arith, length-set h q c)))) (cases_lt q (length h))) (λ (ne : p ≢ q). ap (λ (x : Cell I T). x.marked) (get_or-set_other h q p c blank ne) ∙ none p) (cases_eq p q)

  pub taken : (h : List (Cell I T)) (free free' : FreeList) (c : Cell I T) → is_free c.body ≡ false → c.marked ≡ false → 0 < free.count → Sound h free → free'.first ≡ link h free.first → free'.count ≡ free.count - 1 → Taken h (set h free.first c) free.first c.body × Sound (set h free.first c) free'
  taken h free free' c used bare some sound e n =
      let hd = head h free.count free.first some sound.linked in
      let rest = kept_chain h (free.count - 1) (link h free.first) free.first c hd.apart hd.rest in
      let less = fewer h free.first c hd.within hd.free used in (
        record {
          was = hd.free;
          grown = record { extends = extends_set h free.first c hd.free; spent = omega (arith, less) };
          holds = ap (λ (x : Cell I T). x.body) (get_or-set_same h free.first c blank hd.within);
        },
        record { linked = rw (e, n) rest.1; all = omega (arith, less, sound.all); unmarked = bare_set h free.first c bare sound.unmarked },
      )
