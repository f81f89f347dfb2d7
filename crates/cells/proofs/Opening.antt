-- That all cells are free once each is free and linked to the next. Assumes nothing.
use Rattle.std.proofs.Common.{◌≡◌, ℕ, zero, suc, ◌+◌, ◌<◌, ◌≤◌, false, cond, List, [], ◌∷◌, ◌++◌, length, get_or, take, set, sym, refl, ap, ◌∙◌, subst, ⊎_elim, arith}
use Rattle.std.proofs.lemmas.Bool.{cases_lt}
use Rattle.std.proofs.lemmas.List.{get_or_past, take_more_set}
use Rattle.std.proofs.lemmas.List.Sums.{sum_by-cons}
use Rattle.cells.specs.Cells.{blank, link, is_free}
use Rattle.cells.specs.Chain.{Absent, chain, Linked, free_from, free_cells, Sound}
use Rattle.cells.specs.declared.cell.Cell.{Cell}
use Rattle.cells.specs.declared.cell.Body.TheVariants.{Free}

abbrev freed : (I T : Type 0) → ℕ → Cell I T
freed I T p = record { marked = false; link = suc p; body = Free }

free_more : (I T : Type 0) (p n : ℕ) → free_from {I = I} {T = T} p (suc n) ≡ free_from p n ++ (freed I T (p + n) ∷ [])
free_more I T p zero = let e : p ≡ p + 0 = omega arith in ap (λ q. freed I T q ∷ []) e
free_more I T p (suc n) =
    let e : suc p + n ≡ p + suc n = omega arith in
    ap (λ r. freed I T p ∷ r) (free_more I T (suc p) n ∙ ap (λ q. free_from (suc p) n ++ (freed I T q ∷ [])) e)

long_from : (I T : Type 0) (p n : ℕ) → length (free_from {I = I} {T = T} p n) ≡ n
long_from I T p zero = refl
long_from I T p (suc n) = ap suc (long_from I T (suc p) n)

at_from : (I T : Type 0) (p n q : ℕ) → q < n → get_or (free_from p n) q blank ≡ freed I T (p + q)
at_from I T p zero q l = absurd (omega arith)
at_from I T p (suc n) zero l = let e : p ≡ p + 0 = omega arith in ap (freed I T) e
at_from I T p (suc n) (suc q) l = let e : suc p + q ≡ p + suc q = omega arith in at_from I T (suc p) n q (omega arith) ∙ ap (freed I T) e

count_from : (I T : Type 0) (p n : ℕ) → free_cells (free_from {I = I} {T = T} p n) ≡ n
count_from I T p zero = refl
count_from I T p (suc n) =
    sum_by-cons (λ (c : Cell I T). cond (is_free c.body) 1 0) (freed I T p) (free_from (suc p) n) ∙ omega (arith, count_from I T (suc p) n)

-- one cell more
pub freed_more : {I T : Type 0} (h : List (Cell I T)) (i : ℕ) (c : Cell I T) → i < length h → take i h ≡ free_from 0 i → c ≡ freed I T i → take (i + 1) (set h i c) ≡ free_from 0 (i + 1)
freed_more {I} {T} h i c l e is =
    let to : 0 + i ≡ i = omega arith in
    let one : suc i ≡ i + 1 = omega arith in
    take_more_set h i c l ∙ rw (e, is) (sym (ap (λ q. free_from {I = I} {T = T} 0 q) (sym one) ∙ free_more I T 0 i ∙ ap (λ q. free_from 0 i ++ (freed I T q ∷ [])) to))

pub long_free : {I T : Type 0} (h : List (Cell I T)) (n : ℕ) → h ≡ free_from 0 n → h ≡ free_from 0 (length h)
long_free {I} {T} h n e = e ∙ ap (free_from 0) (sym (ap length e ∙ long_from I T 0 n))

module _ {I T : Type 0} (h : List (Cell I T)) (n : ℕ) (e : h ≡ free_from 0 n) where
  at : (q : ℕ) → q < n → get_or h q blank ≡ freed I T q
  at q l = let to : 0 + q ≡ q = omega arith in ap (λ h. get_or h q blank) e ∙ at_from I T 0 n q l ∙ ap (freed I T) to

  apart : (m p q : ℕ) → p < q → q + m ≤ n → Absent p (chain h m q)
  apart zero p q l u = tt
  apart (suc m) p q l u =
      let i : link h q ≡ suc q = ap (λ (c : Cell I T). c.link) (at q (omega arith)) in
      (λ e. let z : ◌≡◌ {A = ℕ} q p = e in omega arith, subst (λ r. Absent p (chain h m r)) (sym i) (apart m p (suc q) (omega arith) (omega arith)))

  linked : (m p : ℕ) → p + m ≤ n → Linked h m p
  linked zero p u = tt
  linked (suc m) p u =
      let c = at p (omega arith) in
      let i : link h p ≡ suc p = ap (λ (c : Cell I T). c.link) c in
      let long : length h ≡ n = ap length e ∙ long_from I T 0 n in
      (omega (arith, long), (ap (λ (c : Cell I T). is_free c.body) c, (subst (λ r. Absent p (chain h m r)) (sym i) (apart m p (suc p) (omega arith) (omega arith)), subst (Linked h m) (sym i) (linked m (suc p) (omega arith)))))

  pub all_free : free_cells h ≡ n
  all_free = ap free_cells e ∙ count_from I T 0 n

  long : length h ≡ n
  long = ap length e ∙ long_from I T 0 n

  pub opened : Sound h (record { first = 0; count = n })
  opened = record {
    linked = linked n 0 (omega arith);
    all = all_free;
    unmarked = λ p. ⊎_elim (λ (l : p < n). ap (λ (c : Cell I T). c.marked) (at p l)) (λ (l : n ≤ p). ap (λ (c : Cell I T). c.marked) (get_or_past h p blank (omega (arith, long)))) (cases_lt p n);
  }
