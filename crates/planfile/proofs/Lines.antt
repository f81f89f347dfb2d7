-- A line by its last byte and those before it. Assumes nothing.
use Rattle.std.proofs.Common.{◌≡◌, ℕ, zero, suc, ◌<◌, Bool, true, false, not, ◌&&◌, ◌||◌, eqb, List, [], ◌∷◌, length, take, refl, ap, ◌∙◌, arith}
use Rattle.std.specs.List.{list_any}
use Rattle.planfile.specs.Format.{is_empty, is_line}

by_first : (a b : Bool) → (not a && not b) ≡ not (a || b)
by_first true b = refl
by_first false b = refl

-- no newline comes before the last byte
pub line_inner : (xs : List ℕ) (k : ℕ) → length xs ≡ suc k → is_line xs ≡ not (list_any (λ b. eqb b 10) (take k xs))
line_inner [] k h = absurd (omega (arith, h))
line_inner (b ∷ []) zero h = refl
line_inner (b ∷ []) (suc k) h = absurd (omega (arith, h))
line_inner (b ∷ c ∷ more) zero h = absurd (omega (arith, h))
line_inner (b ∷ c ∷ more) (suc k) h = ap (λ l. not (eqb b 10) && l) (line_inner (c ∷ more) k (omega (arith, h))) ∙ by_first (eqb b 10) (list_any (λ x. eqb x 10) (take k (c ∷ more)))

pub line_some : (xs : List ℕ) → is_line xs ≡ true → is_empty xs ≡ false
line_some [] e = let z : ◌≡◌ {A = ℕ} 0 1 = cc in absurd (omega arith)
line_some (b ∷ more) e = refl

pub empty : (xs : List ℕ) → length xs ≡ 0 → is_empty xs ≡ true
empty [] none = refl
empty (b ∷ more) none = absurd (omega (arith, none))

pub not_empty : (xs : List ℕ) → 0 < length xs → is_empty xs ≡ false
not_empty [] some = absurd (omega arith)
not_empty (b ∷ more) some = refl
