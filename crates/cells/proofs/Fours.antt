-- The first few of four. Assumes nothing.
use Rattle.std.proofs.Common.{◌≡◌, ℕ, zero, suc, ◌+◌, ◌-◌, ◌<◌, ◌≤◌, List, [], ◌∷◌, ◌++◌, length, get_or, take, Some, None, Option, refl, arith}
use Rattle.cells.specs.Fingers.{front_of, listed, listed_some}
use Rattle.cells.specs.declared.fingers.Digit.{Digit}

pub first_more : (n a b c d e : ℕ) → n < 4 → take (n + 1) (a ∷ b ∷ c ∷ d ∷ []) ≡ a ∷ take n (b ∷ c ∷ d ∷ e ∷ [])
first_more zero a b c d e h = refl
first_more (suc zero) a b c d e h = refl
first_more (suc (suc zero)) a b c d e h = refl
first_more (suc (suc (suc zero))) a b c d e h = refl
first_more (suc (suc (suc (suc n)))) a b c d e h = absurd (omega arith)

pub first_less : (n a b c d e : ℕ) → 1 ≤ n → n ≤ 4 → take n (a ∷ b ∷ c ∷ d ∷ []) ≡ a ∷ take (n - 1) (b ∷ c ∷ d ∷ e ∷ [])
first_less zero a b c d e h l = absurd (omega arith)
first_less (suc zero) a b c d e h l = refl
first_less (suc (suc zero)) a b c d e h l = refl
first_less (suc (suc (suc zero))) a b c d e h l = refl
first_less (suc (suc (suc (suc zero)))) a b c d e h l = refl
first_less (suc (suc (suc (suc (suc n))))) a b c d e h l = absurd (omega arith)

pub first_length : (n a b c d : ℕ) → n ≤ 4 → length (take n (a ∷ b ∷ c ∷ d ∷ [])) ≡ n
first_length zero a b c d l = refl
first_length (suc zero) a b c d l = refl
first_length (suc (suc zero)) a b c d l = refl
first_length (suc (suc (suc zero))) a b c d l = refl
first_length (suc (suc (suc (suc zero)))) a b c d l = refl
first_length (suc (suc (suc (suc (suc n))))) a b c d l = absurd (omega arith)

-- the first of a digit, and those after it
pub first_rest : (n : ℕ) (at : List ℕ) → 1 ≤ n → n ≤ 4 → front_of n at ≡ get_or at 0 0 ∷ front_of (n - 1) (get_or at 1 0 ∷ get_or at 2 0 ∷ get_or at 3 0 ∷ 0 ∷ [])
first_rest n at h l = first_less n _ _ _ _ 0 h l

-- the last of a digit, and those before it
pub first_last : (n : ℕ) (at : List ℕ) → 1 ≤ n → n ≤ 4 → front_of n at ≡ front_of (n - 1) at ++ (get_or at (n - 1) 0 ∷ [])
first_last zero at h l = absurd (omega arith)
first_last (suc zero) at h l = refl
first_last (suc (suc zero)) at h l = refl
first_last (suc (suc (suc zero))) at h l = refl
first_last (suc (suc (suc (suc zero)))) at h l = refl
first_last (suc (suc (suc (suc (suc n))))) at h l = absurd (omega arith)

pub first_at : (at : List ℕ) (i n : ℕ) → i < n → n ≤ 4 → get_or at i 0 ≡ get_or (front_of n at) i 0
first_at at i zero h l = absurd (omega arith)
first_at at zero (suc n) h l = refl
first_at at (suc i) (suc zero) h l = absurd (omega arith)
first_at at (suc zero) (suc (suc n)) h l = refl
first_at at (suc (suc i)) (suc (suc zero)) h l = absurd (omega arith)
first_at at (suc (suc zero)) (suc (suc (suc n))) h l = refl
first_at at (suc (suc (suc i))) (suc (suc (suc zero))) h l = absurd (omega arith)
first_at at (suc (suc (suc zero))) (suc (suc (suc (suc n)))) h l = refl
first_at at (suc (suc (suc (suc i)))) (suc (suc (suc (suc n)))) h l = absurd (omega arith)

pub listed_length : (d : Digit) → length (listed d) ≡ d.count
listed_length d = first_length d.count _ _ _ _ d.filled.1

pub some_length : (o : Option Digit) → length (listed_some o) ≤ 4
some_length None = omega arith
some_length (Some d) = omega (arith, listed_length d, d.filled.1)
