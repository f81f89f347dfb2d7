-- Rows of fingers. Assumes nothing.
use Rattle.std.specs.Prelude.{ℕ, List, ◌++◌}
use Rattle.cells.specs.Fingers.{listed_some}
use Rattle.joins.specs.declared.row.Row.{Row}

abbrev pub in_row : Row → List ℕ
in_row r = listed_some r.first ++ (listed_some r.second ++ listed_some r.third)
