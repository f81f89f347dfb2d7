-- How many levels a tree of n items may have. Assumes nothing.
use Rattle.std.specs.Prelude.{◌≡◌, ℕ, zero, suc, ◌+◌, ◌*◌, ◌^◌, ◌≤◌, true, cond, length, nat_le}
use Rattle.model.specs.Tree.{Tree, formed, items}

-- How many of p, 2 p, 4 p and so on are at most m; the first number bounds them.
abbrev pub doublings : ℕ → ℕ → ℕ → ℕ
doublings zero m p = 0
doublings (suc most) m p = cond (nat_le p m) (suc (doublings most m (2 * p))) 0

-- The most levels for n items: the largest d with 3 · 2^(d - 1) ≤ n + 2, and 0 for none.
abbrev pub most_levels : ℕ → ℕ
most_levels n = doublings n (n + 2) 3

-- It is such a d, and no larger one is.
abbrev pub MostIsLargest : Type 0
MostIsLargest =
    (n : ℕ) → ((d : ℕ) → most_levels n ≡ suc d → 3 * 2 ^ d ≤ n + 2) × ((d : ℕ) → 3 * 2 ^ d ≤ n + 2 → suc d ≤ most_levels n)

-- A formed tree has at most that many levels.
abbrev pub LevelsWithin : Type 0 → Type 0 → Type 0
LevelsWithin I T = (d : ℕ) (t : Tree I T) → formed d 0 t ≡ true → d ≤ most_levels (length (items t))
