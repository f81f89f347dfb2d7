-- The number of each refusal. Assumes nothing.
use Rattle.std.specs.Prelude.{ℕ}
use Rattle.labels.specs.declared.LabelFault.{LabelFault}
use Rattle.labels.specs.declared.LabelFault.TheVariants.{OutputTooShort}

abbrev pub number_of : LabelFault → ℕ
number_of OutputTooShort = 18
