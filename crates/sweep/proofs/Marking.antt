-- The marking of one cell, and of some after others. Assumes nothing.
use Rattle.std.proofs.Common.{◌≡◌, ℕ, zero, suc, ◌+◌, ◌-◌, ◌<◌, ◌≤◌, true, false, not, cond, ◌≢◌, ◌⊎◌, List, [], ◌∷◌, ◌++◌, length, get_or, set, sym, refl, ap, ◌∙◌, subst, inl, inr, ⊎_elim, arith, length-set, get_or-set_other, get_or-set_same, add-one, take, take-suc, le-leb, get_or-take, append-nil}
use Rattle.std.specs.Prelude.{nat_le}
use Rattle.std.proofs.lemmas.Bool.{both_ways, cases_eq, cases_lt}
use Rattle.std.proofs.lemmas.List.{get_or_past}
use Rattle.std.proofs.lemmas.Grind.{flat_map-append}
use Rattle.std.proofs.lemmas.List.Sums.{sum_by-set}
use Rattle.cells.specs.Cells.{blank, body, link, marked}
use Rattle.cells.specs.Chain.{chain}
use Rattle.cells.specs.declared.cell.Cell.{Cell}
use Rattle.cells.specs.declared.cell.Root.{Root}
use Rattle.sweep.specs.declared.mark.WorkList.{WorkList}
use Rattle.sweep.specs.Marks.{AllNear, In, unmarked, Waits, Ready, Marks, popped, first_cell, root_cell, root_cells}
use Rattle.cells.specs.Fingers.{front_of, listed}
use Rattle.cells.specs.declared.fingers.Digit.{Digit}
use Rattle.cells.proofs.Fours.{listed_length}
use Rattle.sweep.specs.Kept.{vacant}
use Rattle.sweep.specs.declared.version.Version.{Version}
use Rattle.sweep.proofs.Members.{in_left, in_right, in_either, in_one}

module _ {I T : Type 0} where
  -- a write off the chain leaves it
  pub off_chain : (h : List (Cell I T)) (n p q : ℕ) (c : Cell I T) → (In (chain h n p) q → ⊥) → chain (set h q c) n p ≡ chain h n p
  off_chain h zero p q c off = refl
  off_chain h (suc n) p q c off =
      let same : get_or (set h q c) p blank ≡ get_or h p blank = get_or-set_other h q p c blank (λ e. off (inl e)) in
      let to : link (set h q c) p ≡ link h p = ap (λ (x : Cell I T). x.link) same in
      ap (λ r. p ∷ r) (ap (chain (set h q c) n) to ∙ off_chain h n (link h p) q c (λ i. off (inr i)))

  fewer : (h : List (Cell I T)) (q : ℕ) (c : Cell I T) → q < length h → marked h q ≡ false → c.marked ≡ true → unmarked (set h q c) + 1 ≡ unmarked h
  fewer h q c within was is =
      let e = sum_by-set (λ (x : Cell I T). cond (not x.marked) 1 0) h q c blank within in
      let one : ◌≡◌ {A = ℕ} (cond (not (marked h q)) 1 0) 1 = ap (λ t. cond (not t) 1 0) was in
      let none : ◌≡◌ {A = ℕ} (cond (not c.marked) 1 0) 0 = ap (λ t. cond (not t) 1 0) is in
      omega arith

  module _ (h : List (Cell I T)) (w : WorkList) (q : ℕ) (c : Cell I T) (r : Ready h w) (within : q < length h) (white : marked h q ≡ false) (black : c.marked ≡ true) (next : c.link ≡ w.first) (is : c.body ≡ body h q) where
    there : get_or (set h q c) q blank ≡ c
    there = get_or-set_same h q c blank within

    other : (p : ℕ) → p ≢ q → get_or (set h q c) p blank ≡ get_or h p blank
    other p ne = get_or-set_other h q p c blank ne

    bodies : (p : ℕ) → body (set h q c) p ≡ body h p
    bodies p = ⊎_elim (λ (e : p ≡ q). subst (λ x. body (set h q c) x ≡ body h x) (sym e) (ap (λ (x : Cell I T). x.body) there ∙ is)) (λ (ne : p ≢ q). ap (λ (x : Cell I T). x.body) (other p ne)) (cases_eq p q)

    here : marked (set h q c) q ≡ true
    here = ap (λ (x : Cell I T). x.marked) there ∙ black

    keeps : (p : ℕ) → marked h p ≡ true → marked (set h q c) p ≡ true
    keeps p m = ⊎_elim (λ (e : p ≡ q). ap (marked (set h q c)) e ∙ here) (λ (ne : p ≢ q). ap (λ (x : Cell I T). x.marked) (other p ne) ∙ m) (cases_eq p q)

    chained : chain (set h q c) (w.count + 1) q ≡ q ∷ chain h w.count w.first
    chained =
        let to : link (set h q c) q ≡ w.first = ap (λ (x : Cell I T). x.link) there ∙ next in
        rw add-one (ap (λ r. q ∷ r) (ap (chain (set h q c) w.count) to ∙ off_chain h w.count w.first q c (λ i. both_ways _ white (r.listed q i))))

    pub entered : Marks h w (q ∷ []) (set h q c) (record { first = q; count = w.count + 1 })
    entered = record {
      ready = record {
        few = rw length-set r.few;
        room = omega (arith, fewer h q c within white black, r.room, length-set h q c);
        listed = λ p i. ⊎_elim (λ (e : q ≡ p). ap (marked (set h q c)) (sym e) ∙ here) (λ j. keeps p (r.listed p j)) (subst (λ ps. In ps p) chained i);
      };
      long = length-set h q c;
      same = bodies;
      keeps = keeps;
      here = λ p i. ap (marked (set h q c)) (sym (in_one q p i)) ∙ here;
      fresh = λ p m. ⊎_elim (λ (e : q ≡ p). inr (inl e, subst (λ ps. In ps p) (sym chained) (inl e))) (λ (ne : q ≢ p). inl (ap (λ (x : Cell I T). x.marked) (sym (other p (λ e. ne (sym e)))) ∙ m)) (cases_eq q p);
      waiting = λ p i. subst (λ ps. In ps p) (sym chained) (inr i);
      tally = omega (arith, fewer h q c within white black);
    }

  pub nothing : (h : List (Cell I T)) (w : WorkList) → Ready h w → Marks h w [] h w
  nothing h w r = record {
    ready = r;
    long = refl;
    same = λ p. refl;
    keeps = λ p m. m;
    here = λ p i. absurd i;
    fresh = λ p m. inl m;
    waiting = λ p i. i;
    tally = refl;
  }

  -- the marking of the same cells, otherwise listed
  pub listed_as : {h h' : List (Cell I T)} {w w' : WorkList} (ps qs : List ℕ) → ps ≡ qs → Marks h w ps h' w' → Marks h w qs h' w'
  listed_as {h} {h'} {w} {w'} ps qs e u = subst (λ ps. Marks h w ps h' w') e u

  pub further : {h h' h'' : List (Cell I T)} {w w' w'' : WorkList} (ps qs : List ℕ) → Marks h w ps h' w' → Marks h' w' qs h'' w'' → Marks h w (ps ++ qs) h'' w''
  further {h} {h'} {h''} {w} {w'} {w''} ps qs u v = record {
    ready = v.ready;
    long = v.long ∙ u.long;
    same = λ p. v.same p ∙ u.same p;
    keeps = λ p m. v.keeps p (u.keeps p m);
    here = λ p i. ⊎_elim (λ j. v.keeps p (u.here p j)) (λ j. v.here p j) (in_either ps qs p i);
    fresh = λ p m. ⊎_elim (λ (a : marked h' p ≡ true). ⊎_elim inl (λ x. inr (in_left ps qs p x.0, v.waiting p x.1)) (u.fresh p a)) (λ x. inr (in_right ps qs p x.0, x.1)) (v.fresh p m);
    waiting = λ p i. v.waiting p (u.waiting p i);
    tally = v.tally ∙ u.tally;
  }

  -- the cells that a loop has come past, and the next
  pub one_more : {h h' h'' : List (Cell I T)} {w w' w'' : WorkList} (ps : List ℕ) (i : ℕ) → i < length ps → Marks h w (take i ps) h' w' → Marks h' w' (get_or ps i 0 ∷ []) h'' w'' → Marks h w (take (i + 1) ps) h'' w''
  one_more ps i l u v = rw add-one (listed_as _ _ (sym (take-suc ps i 0 l)) (further (take i ps) (get_or ps i 0 ∷ []) u v))

pub no_levels : (r : Root) → r.levels ≡ 0 → first_cell r ≡ []
no_levels r e = ap (λ t. cond t (r.at ∷ []) []) (ap (nat_le 1) e)

pub some_levels : (r : Root) → 0 < r.levels → first_cell r ≡ r.at ∷ []
some_levels r l = ap (λ t. cond t (r.at ∷ []) []) (le-leb 1 r.levels (omega arith))

module _ {I T : Type 0} where
  pub near_marked : (h : List (Cell I T)) (q : ℕ) → marked h q ≡ true → q < length h
  near_marked h q m = ⊎_elim (λ (l : q < length h). l) (λ (l : length h ≤ q). absurd (both_ways _ (ap (λ (x : Cell I T). x.marked) (get_or_past h q blank l)) m)) (cases_lt q (length h))

  first_waits : (h : List (Cell I T)) (n p : ℕ) → 0 < n → In (chain h n p) p
  first_waits h zero p l = absurd (omega arith)
  first_waits h (suc n) p l = inl refl

  rest_waits : (h : List (Cell I T)) (n p q : ℕ) → 0 < n → In (chain h (n - 1) (link h p)) q → In (chain h n p) q
  rest_waits h zero p q l i = absurd (omega arith)
  rest_waits h (suc n) p q l i = let e : suc n - 1 ≡ n = omega arith in inr (subst (λ m. In (chain h m (link h p)) q) e i)

  -- of the cells that wait, the first, and those after it
  pub waits_first : (h : List (Cell I T)) (w : WorkList) → 0 < w.count → Waits h w w.first
  waits_first h w l = first_waits h w.count w.first l

  pub within_first : (h : List (Cell I T)) (w : WorkList) → 0 < w.count → Ready h w → w.first < length h
  within_first h w l r = near_marked h w.first (r.listed w.first (waits_first h w l))

  pub waits_split : (h : List (Cell I T)) (n p q : ℕ) → In (chain h n p) q → (p ≡ q) ⊎ In (chain h (n - 1) (link h p)) q
  waits_split h zero p q i = absurd i
  waits_split h (suc n) p q (inl e) = inl e
  waits_split h (suc n) p q (inr i) = let e : suc n - 1 ≡ n = omega arith in inr (subst (λ m. In (chain h m (link h p)) q) (sym e) i)

  pub ready_popped : (h : List (Cell I T)) (w : WorkList) → 0 < w.count → Ready h w → Ready h (popped h w)
  ready_popped h w l r = record {
    few = r.few;
    room = omega (arith, r.room);
    listed = λ q i. r.listed q (rest_waits h w.count w.first q l i);
  }

slots : (n i : ℕ) (at : List ℕ) → i < n → n ≤ 4 → get_or (front_of n at) i 0 ≡ get_or at i 0
slots n zero at l f = get_or-take n _ 0 0 l
slots n (suc zero) at l f = get_or-take n _ 1 0 l
slots n (suc (suc zero)) at l f = get_or-take n _ 2 0 l
slots n (suc (suc (suc zero))) at l f = get_or-take n _ 3 0 l
slots n (suc (suc (suc (suc i)))) at l f = absurd (omega arith)

pub digit_at : (d : Digit) (i : ℕ) → i < d.count → (i < length (listed d)) × (get_or (listed d) i 0 ≡ get_or d.at i 0)
digit_at d i l = (omega (arith, listed_length d), slots d.count i d.at l d.filled.1)

pub no_fingers : (ps : List ℕ) → (1 ≤ length ps → ⊥) → ps ≡ []
no_fingers [] e = refl
no_fingers (p ∷ ps) e = absurd (e (omega arith))

-- the roots of the versions that a loop has come past, and the next
pub roots_more : (table : List Version) (i : ℕ) → i < length table → root_cells (take (i + 1) table) ≡ root_cells (take i table) ++ root_cell (get_or table i vacant)
roots_more table i l =
    rw add-one (ap root_cells (take-suc table i vacant l) ∙ flat_map-append root_cell (take i table) (get_or table i vacant ∷ []) ∙ ap (λ ps. root_cells (take i table) ++ ps) (append-nil (root_cell (get_or table i vacant))))

pub in_roots : (table : List Version) (i q : ℕ) → i < length table → In (root_cell (get_or table i vacant)) q → In (root_cells table) q
in_roots [] i q l j = absurd (omega arith)
in_roots (v ∷ table) zero q l j = in_left (root_cell v) (root_cells table) q j
in_roots (v ∷ table) (suc i) q l j = in_right (root_cell v) (root_cells table) q (in_roots table i q (omega arith) j)

pub version_near : {I T : Type 0} (h h' : List (Cell I T)) → length h' ≡ length h → (table : List Version) (i : ℕ) → i < length table → AllNear h (root_cells table) → AllNear h' (root_cell (get_or table i vacant))
version_near h h' long table i l near q j = let n = near q (in_roots table i q l j) in omega arith
