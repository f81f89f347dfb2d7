-- The list of the fingers that a digit holds. Assumes nothing.
use Rattle.std.specs.Prelude.{ℕ, cond, List, [], ◌∷◌, take, Some, None, Option, nat_le, slice_index}
use Rattle.cells.specs.declared.fingers.Fingers.{Fingers}
use Rattle.cells.specs.declared.fingers.Digit.{Digit}

-- the first n of four
abbrev pub front_of : ℕ → List ℕ → List ℕ
front_of n at = take n (slice_index at 0 ∷ slice_index at 1 ∷ slice_index at 2 ∷ slice_index at 3 ∷ [])

-- none where the count is out of range
abbrev pub held : Fingers → List ℕ
held f = cond (nat_le f.count 4) (front_of f.count f.at) []

abbrev pub listed : Digit → List ℕ
listed d = front_of d.count d.at

-- a digit, or no fingers
abbrev pub listed_some : Option Digit → List ℕ
listed_some None = []
listed_some (Some d) = listed d
