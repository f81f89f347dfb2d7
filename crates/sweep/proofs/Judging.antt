-- The judging of the cells, from the last to the first. Assumes nothing.
use Rattle.std.proofs.Common.{◌≡◌, ℕ, ◌+◌, ◌-◌, ◌<◌, ◌≤◌, true, false, cond, ◌≢◌, List, [], ◌∷◌, length, get_or, set, drop, sym, refl, ap, ◌∙◌, subst, inl, inr, ⊎_elim, arith, length-set, get_or-set_other, get_or-set_same, add-one}
use Rattle.std.proofs.lemmas.Bool.{cases_eq}
use Rattle.std.proofs.lemmas.List.{drop-set}
use Rattle.std.proofs.lemmas.List.Sums.{sum_by-cons}
use Rattle.cells.specs.Cells.{blank, body, link, marked, is_free}
use Rattle.cells.specs.Chain.{Absent, chain, Linked, free_cells}
use Rattle.cells.specs.declared.cell.Cell.{Cell}
use Rattle.cells.specs.declared.cell.Body.TheVariants.{Free}
use Rattle.cells.specs.declared.cell.FreeList.{FreeList}
use Rattle.cells.proofs.Chains.{kept_chain}
use Rattle.sweep.specs.Marks.{In}
use Rattle.sweep.specs.Frees.{Judged, kept, freed, Judging}
use Rattle.sweep.proofs.Marking.{off_chain}

pub absent : (ps : List ℕ) (q : ℕ) → (In ps q → ⊥) → Absent q ps
absent [] q off = tt
absent (p ∷ ps) q off = (λ e. off (inl e), absent ps q (λ i. off (inr i)))

module _ {I T : Type 0} where
  -- a free cell that is not on the chain goes in front of it
  module _ (h : List (Cell I T)) (q : ℕ) (c : Cell I T) (n p : ℕ) (within : q < length h) (next : c.link ≡ p) (off : In (chain h n p) q → ⊥) where
    there : get_or (set h q c) q blank ≡ c
    there = get_or-set_same h q c blank within

    to : link (set h q c) q ≡ p
    to = ap (λ (x : Cell I T). x.link) there ∙ next

    in_front : chain (set h q c) (n + 1) q ≡ q ∷ chain h n p
    in_front = rw add-one (ap (λ r. q ∷ r) (ap (chain (set h q c) n) to ∙ off_chain h n p q c off))

    push : is_free c.body ≡ true → Linked h n p → Linked (set h q c) (n + 1) q
    push free linked =
        let k = kept_chain h n p q c (absent (chain h n p) q off) linked in
        let list : chain (set h q c) n (link (set h q c) q) ≡ chain h n p = ap (chain (set h q c) n) to ∙ k.0 in
        rw add-one (
          rw length-set within,
          (ap (λ (x : Cell I T). is_free x.body) there ∙ free, (subst (Absent q) (sym list) (absent (chain h n p) q off), subst (Linked (set h q c) n) (sym to) k.1)),
        )

  -- the cell i is written, and those above it were judged
  module _ (h0 : List (Cell I T)) (i : ℕ) (h : List (Cell I T)) (f : FreeList) (c : Cell I T) (within : i < length h) (j : Judging h0 (i + 1) h f) (bare : c.marked ≡ false) (is : c.body ≡ cond (marked h0 i) (body h0 i) Free) where
    here : get_or (set h i c) i blank ≡ c
    here = get_or-set_same h i c blank within

    apart : (q : ℕ) → q ≢ i → get_or (set h i c) q blank ≡ get_or h q blank
    apart q ne = get_or-set_other h i q c blank ne

    write : (f' : FreeList) → Linked (set h i c) f'.count f'.first → ((q : ℕ) → In (chain (set h i c) f'.count f'.first) q → i ≤ q) → f'.count ≡ cond (is_free c.body) 1 0 + f.count → Judging h0 i (set h i c) f'
    write f' linked above more = record {
      low = λ q l. apart q (omega arith) ∙ j.low q (omega arith);
      clear = λ q l. ⊎_elim (λ (e : q ≡ i). ap (marked (set h i c)) e ∙ ap (λ (x : Cell I T). x.marked) here ∙ bare) (λ (ne : q ≢ i). ap (λ (x : Cell I T). x.marked) (apart q ne) ∙ j.clear q (omega arith)) (cases_eq q i);
      high = λ q l. ⊎_elim
          (λ (e : q ≡ i). subst (λ x. body (set h i c) x ≡ cond (marked h0 x) (body h0 x) Free) (sym e) (ap (λ (x : Cell I T). x.body) here ∙ is))
          (λ (ne : q ≢ i). ap (λ (x : Cell I T). x.body) (apart q ne) ∙ j.high q (omega arith)) (cases_eq q i);
      linked = linked;
      above = above;
      all = ap free_cells (drop-set h i c within) ∙ sum_by-cons (λ (x : Cell I T). cond (is_free x.body) 1 0) c (drop (i + 1) h) ∙ ap (λ n. cond (is_free c.body) 1 0 + n) j.all ∙ sym more;
    }

  off_list : (h0 : List (Cell I T)) (i : ℕ) (h : List (Cell I T)) (f : FreeList) → Judging h0 (i + 1) h f → In (chain h f.count f.first) i → ⊥
  off_list h0 i h f j o = let l = j.above i o in omega arith

  judging_more : (h0 : List (Cell I T)) (i : ℕ) (h : List (Cell I T)) (f : FreeList) (h' : List (Cell I T)) (f' : FreeList) → ((p : ℕ) → marked h0 p ≡ true → is_free (body h0 p) ≡ false) → i < length h → Judging h0 (i + 1) h f → Judged h f i h' f' → Judging h0 i h' f'
  judging_more h0 i h f h' f' live within j (kept black e s) =
      let c : Cell I T = record { marked = false; link = 0; body = body h i } in
      let was = j.low i (omega arith) in
      let black0 : marked h0 i ≡ true = ap (λ (x : Cell I T). x.marked) (sym was) ∙ black in
      let used : is_free (body h i) ≡ false = ap (λ (x : Cell I T). is_free x.body) was ∙ live i black0 in
      let off = off_list h0 i h f j in
      let k = kept_chain h f.count f.first i c (absent (chain h f.count f.first) i off) j.linked in
      let none : ◌≡◌ {A = ℕ} (cond (is_free (body h i)) 1 0) 0 = ap (λ t. cond t 1 0) used in
      subst (λ x. Judging h0 i x f') (sym e) (subst (λ y. Judging h0 i (set h i c) y) (sym s)
      (write h0 i h f c within j refl (ap (λ (x : Cell I T). x.body) was ∙ sym (ap (λ t. cond t (body h0 i) Free) black0)) f
      k.1
      (λ q o. let l = j.above q (subst (λ ps. In ps q) k.0 o) in omega arith)
      (omega (arith, none))))
  judging_more h0 i h f h' f' live within j (freed white e s) =
      let c : Cell I T = record { marked = false; link = f.first; body = Free } in
      let was = j.low i (omega arith) in
      let white0 : marked h0 i ≡ false = ap (λ (x : Cell I T). x.marked) (sym was) ∙ white in
      let off = off_list h0 i h f j in
      subst (λ x. Judging h0 i x f') (sym e) (subst (λ y. Judging h0 i (set h i c) y) (sym s)
      (write h0 i h f c within j refl (sym (ap (λ t. cond t (body h0 i) Free) white0)) (record { first = i; count = f.count + 1 })
      (push h i c f.count f.first within refl off refl j.linked)
      (λ q o. ⊎_elim (λ (x : i ≡ q). omega arith) (λ x. let l = j.above q x in omega arith) (subst (λ ps. In ps q) (in_front h i c f.count f.first within refl off) o))
      (omega arith)))

  pub judging_down : (h0 : List (Cell I T)) (i : ℕ) (h : List (Cell I T)) (f : FreeList) (h' : List (Cell I T)) (f' : FreeList) → ((p : ℕ) → marked h0 p ≡ true → is_free (body h0 p) ≡ false) → 0 < i → i ≤ length h → Judging h0 i h f → Judged h f (i - 1) h' f' → Judging h0 (i - 1) h' f'
  judging_down h0 i h f h' f' live some within j d =
      let e : i ≡ i - 1 + 1 = omega arith in
      judging_more h0 (i - 1) h f h' f' live (omega arith) (subst (λ n. Judging h0 n h f) e j) d
