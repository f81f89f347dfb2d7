-- Text as lines: it is cut after each newline. Assumes nothing.
use Rattle.std.specs.Prelude.{ℕ, cond, List, [], ◌∷◌, ◌==◌}

-- One byte more at the front of the first line.
abbrev pub glued : ℕ → List (List ℕ) → List (List ℕ)
glued b [] = (b ∷ []) ∷ []
glued b (line ∷ more) = (b ∷ line) ∷ more

abbrev pub lines_of : List ℕ → List (List ℕ)
lines_of [] = []
lines_of (b ∷ more) = cond (b == 0x0A) ((b ∷ []) ∷ lines_of more) (glued b (lines_of more))
