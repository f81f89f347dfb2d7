-- The members of a list of numbers. Assumes nothing.
use Rattle.std.proofs.Common.{◌≡◌, ℕ, zero, suc, ◌<◌, length, get_or, arith, Bool, true, false, eqb, ◌⊎◌, List, [], ◌∷◌, ◌++◌, refl, inl, inr, ⊎_elim, eq-eqb, eqb-true}
use Rattle.std.proofs.lemmas.Bool.{or_cases, or_left, or_right}
use Rattle.std.specs.List.{flat_map}
use Rattle.sweep.specs.Kept.{among}
use Rattle.sweep.specs.Marks.{In}

pub in_left : (ps qs : List ℕ) (q : ℕ) → In ps q → In (ps ++ qs) q
in_left [] qs q i = absurd i
in_left (p ∷ ps) qs q (inl e) = inl e
in_left (p ∷ ps) qs q (inr i) = inr (in_left ps qs q i)

pub in_right : (ps qs : List ℕ) (q : ℕ) → In qs q → In (ps ++ qs) q
in_right [] qs q i = i
in_right (p ∷ ps) qs q i = inr (in_right ps qs q i)

pub in_either : (ps qs : List ℕ) (q : ℕ) → In (ps ++ qs) q → In ps q ⊎ In qs q
in_either [] qs q i = inr i
in_either (p ∷ ps) qs q (inl e) = inl (inl e)
in_either (p ∷ ps) qs q (inr i) = ⊎_elim (λ a. inl (inr a)) inr (in_either ps qs q i)

pub in_one : (p q : ℕ) → In (p ∷ []) q → p ≡ q
in_one p q (inl e) = e
in_one p q (inr i) = absurd i

-- a member of what a member gives
pub in_flat : (f : ℕ → List ℕ) (ps : List ℕ) (p q : ℕ) → In ps p → In (f p) q → In (flat_map f ps) q
in_flat f [] p q i j = absurd i
in_flat f (r ∷ ps) p q (inl e) j = in_left (f r) (flat_map f ps) q (rw e j)
in_flat f (r ∷ ps) p q (inr i) j = in_right (f r) (flat_map f ps) q (in_flat f ps p q i j)

pub from_flat : (f : ℕ → List ℕ) (ps : List ℕ) (q : ℕ) → In (flat_map f ps) q → (p : ℕ) × (In ps p × In (f p) q)
from_flat f [] q i = absurd i
from_flat f (r ∷ ps) q i = ⊎_elim (λ j. (r, (inl refl, j))) (λ j. let x = from_flat f ps q j in (x.0, (inr x.1.0, x.1.1))) (in_either (f r) (flat_map f ps) q i)

pub among_in : (ps : List ℕ) (q : ℕ) → among ps q ≡ true → In ps q
among_in [] q e = absurd (let z : ◌≡◌ {A = Bool} false true = e in cc)
among_in (p ∷ ps) q e = ⊎_elim (λ a. inl (eqb-true p q a)) (λ a. inr (among_in ps q a)) (or_cases (eqb p q) (among ps q) e)

pub in_among : (ps : List ℕ) (q : ℕ) → In ps q → among ps q ≡ true
in_among [] q i = absurd i
in_among (p ∷ ps) q (inl e) = or_left (eqb p q) (among ps q) (eq-eqb p q e)
in_among (p ∷ ps) q (inr i) = or_right (eqb p q) (among ps q) (in_among ps q i)

pub in_at : (ps : List ℕ) (i : ℕ) → i < length ps → In ps (get_or ps i 0)
in_at [] i l = absurd (omega arith)
in_at (p ∷ ps) zero l = inl refl
in_at (p ∷ ps) (suc i) l = inr (in_at ps i (omega arith))
