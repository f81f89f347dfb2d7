-- The set of target numbers that a table holds. Assumes nothing.
use Rattle.std.specs.Prelude.{ℕ, Bool, false, slice_index_or}
use Rattle.planfile.specs.declared.numbers.Numbers.{Numbers}

-- Whether a number is among them.
abbrev pub has : Numbers → ℕ → Bool
has numbers n = slice_index_or numbers.seen n false
