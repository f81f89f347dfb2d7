-- The checks of a call, in the order in which they are made. Assumes nothing.
use Rattle.std.specs.Prelude.{Bool, cond, List, [], ◌∷◌, Some, Ok, Err, Option, Result}
use Rattle.cells.specs.declared.cell.Root.{Root}
use Rattle.sweep.specs.declared.version.Version.{Version}
use Rattle.memory.specs.declared.fault.StoreFault.{StoreFault}

abbrev pub check : Bool → StoreFault → Result Unit StoreFault
check fails fault = cond fails (Err fault) (Ok tt)

-- The refusal of the first that fails.
abbrev pub checked : List (Result Unit StoreFault) → Result Unit StoreFault
checked [] = Ok tt
checked (Ok u ∷ more) = checked more
checked (Err fault ∷ more) = Err fault

-- The record of a place: of a version, or of none.
abbrev pub recorded : Option Root → Version
recorded r = record { root = r }

-- The record of a kept version.
abbrev pub filled : Root → Version
filled r = recorded (Some r)
