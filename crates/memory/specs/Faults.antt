-- The number and the place of each refusal of a store. Assumes nothing.
use Rattle.std.specs.Prelude.{ℕ}
use Rattle.memory.specs.declared.fault.StoreFault.{StoreFault}
use Rattle.memory.specs.declared.fault.StoreFault.TheVariants.{CellsOutside, TableOutside, PlaceOutside, NoVersion, Occupied, NotAdmitted, NoItem, TooMany, FewCells}

abbrev pub number_of : StoreFault → ℕ
number_of CellsOutside = 1
number_of TableOutside = 2
number_of (PlaceOutside a) = 8
number_of (NoVersion a) = 9
number_of (Occupied a) = 10
number_of (NotAdmitted a) = 11
number_of (NoItem a) = 12
number_of TooMany = 19
number_of (FewCells p) = 20

abbrev pub place_of : StoreFault → ℕ
place_of CellsOutside = 1
place_of TableOutside = 2
place_of (PlaceOutside a) = a
place_of (NoVersion a) = a
place_of (Occupied a) = a
place_of (NotAdmitted a) = a
place_of (NoItem a) = a
place_of TooMany = 0
place_of (FewCells p) = p
