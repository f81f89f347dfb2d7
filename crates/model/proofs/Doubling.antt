-- The most levels for so many items. Assumes nothing.
use Rattle.std.proofs.Common.{◌≡◌, ℕ, zero, suc, ◌+◌, ◌*◌, ◌^◌, ◌<◌, ◌≤◌, Bool, true, false, cond, leb, length, sym, refl, ap, ◌∙◌, ⊎_elim, mul_assoc, mul_comm, arith, pow_mono}
use Rattle.std.proofs.Math.Nat.{pow-succ'}
use Rattle.std.proofs.lemmas.Bool.{leb-true, leb-false, cases_lt}
use Rattle.model.specs.Tree.{items}
use Rattle.model.specs.Levels.{doublings, most_levels, MostIsLargest, LevelsWithin}
use Rattle.model.proofs.Bounds.{fewest_items}

double : (p e : ℕ) → 2 * p * 2 ^ e ≡ p * 2 ^ suc e
double p e = ap (λ x. x * 2 ^ e) (mul_comm 2 p) ∙ mul_assoc p 2 (2 ^ e) ∙ ap (λ x. p * x) (sym (pow-succ' 2 e))

once : (p : ℕ) → p * 2 ^ 0 ≡ p
once p = omega arith

-- all that were counted are small enough, and the next is not
record Counted (most m p d : ℕ) : Type 0 where
  low : (e : ℕ) → e < d → p * 2 ^ e ≤ m
  high : d < most → m < p * 2 ^ d
  few : d ≤ most

by_test : (most m p : ℕ) (b : Bool) → leb p m ≡ b → Counted most m (2 * p) (doublings most m (2 * p)) → Counted (suc most) m p (cond b (suc (doublings most m (2 * p))) 0)
by_test most m p true t c =
    record {
      low = low;
      high = λ h. rw (← double p (doublings most m (2 * p))) (c.high (omega arith));
      few = omega (arith, c.few);
    }
  where
    low : (e : ℕ) → e < suc (doublings most m (2 * p)) → p * 2 ^ e ≤ m
    low zero h = omega (arith, once p, leb-true p m t)
    low (suc e) h = rw (← double p e) (c.low e (omega arith))
by_test most m p false t c =
    record {
      low = λ e h. absurd (omega arith);
      high = λ h. omega (arith, once p, leb-false p m t);
      few = omega arith;
    }

counted : (most m p : ℕ) → Counted most m p (doublings most m p)
counted zero m p = record { low = λ e h. absurd (omega arith); high = λ h. absurd (omega arith); few = omega arith }
counted (suc most) m p = by_test most m p (leb p m) refl (counted most m (2 * p))

-- a power outgrows its exponent
grows : (n : ℕ) → n + 2 < 3 * 2 ^ n
grows zero = omega arith
grows (suc n) = omega (arith, grows n, pow-succ' 2 n)

past : (n : ℕ) → n + 2 < 3 * 2 ^ most_levels n
past n =
    let c = counted n (n + 2) 3 in
    ⊎_elim
    (λ (h : most_levels n < n). c.high h)
    (λ (h : n ≤ most_levels n). omega (arith, grows n, pow_mono h))
    (cases_lt (most_levels n) n)

pub most_is_largest : MostIsLargest
most_is_largest n =
    let c = counted n (n + 2) 3 in (
      λ d e. c.low d (omega (arith, e)),
      λ d h.
          ⊎_elim
          (λ (l : d < most_levels n). omega arith)
          (λ (l : most_levels n ≤ d). absurd (omega (arith, past n, pow_mono l)))
          (cases_lt d (most_levels n)),
    )

-- by the doublings on both sides
pub most_between : (n d : ℕ) → 3 * 2 ^ d ≤ n + 2 → n + 2 < 3 * 2 ^ suc d → suc d ≡ most_levels n
most_between n d low high =
    let up = (most_is_largest n).1 d low in
    let c = counted n (n + 2) 3 in
    ⊎_elim
    (λ (l : suc d < most_levels n). absurd (omega (arith, c.low (suc d) l)))
    (λ (l : most_levels n ≤ suc d). omega arith)
    (cases_lt (suc d) (most_levels n))

pub levels_within : {I T : Type 0} → LevelsWithin I T
levels_within zero t f = omega arith
levels_within (suc d) t f = (most_is_largest (length (items t))).1 d (fewest_items d t f)
