-- The order of labels, as a function of the list of targets alone. Assumes nothing.
use Rattle.std.specs.Prelude.{◌≡◌, ℕ, ◌+◌, ◌<◌, ◌≤◌, Bool, ◌&&◌, ◌||◌, List, [], ◌∷◌, length, take, drop, count_by, ◌==◌, nat_lt, slice_index_or}
use Rattle.kinds.specs.declared.targets.Target.{Target}
use Rattle.labels.specs.declared.Label.{Label}

-- A target that stands at position n.
abbrev pub label : ℕ → Target → Label
label n t = record { range = t.range; position = n; number = t.number }

-- Each target with its position, from n on.
abbrev pub placed : ℕ → List Target → List Label
placed n [] = []
placed n (t ∷ ts) = label n t ∷ placed (n + 1) ts

-- a comes before b: it is nearer, or as near and earlier in the list.
abbrev pub earlier : Label → Label → Bool
earlier a b = nat_lt a.range b.range || (a.range == b.range && nat_lt a.position b.position)

-- How many of the list come before x.
abbrev pub rank : List Label → Label → ℕ
rank xs x = count_by (λ y. earlier y x) xs

-- x is one of the targets: the one that stands at its position.
pub record Stands (ts : List Target) (x : Label) : Type 0 where
  pub within : x.position < length ts
  pub there : (d : Label) → slice_index_or (placed 0 ts) x.position d ≡ x

-- ls are the targets in label order: as many, each of them a target, and before the one at k come exactly k targets.
pub record Labelled (ts : List Target) (ls : List Label) : Type 0 where
  pub long : length ls ≡ length ts
  pub stands : (k : ℕ) (d : Label) → k < length ts → Stands ts (slice_index_or ls k d)
  pub ranked : (k : ℕ) (d : Label) → k < length ts → rank (placed 0 ts) (slice_index_or ls k d) ≡ k

-- What an output holds before and after.
pub record Written (ts : List Target) (before after : List Label) : Type 0 where
  -- one that is too short for the targets stays as it was
  pub refused : length before < length ts → after ≡ before
  -- in any other the targets stand first, in label order
  pub labelled : length ts ≤ length before → Labelled ts (take (length ts) after)
  -- which no other list is
  pub only : length ts ≤ length before → (ls : List Label) → Labelled ts ls → take (length ts) after ≡ ls
  -- and what stood past them stays
  pub rest : length ts ≤ length before → drop (length ts) after ≡ drop (length ts) before
