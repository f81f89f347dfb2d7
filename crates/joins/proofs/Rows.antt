-- Rows of fingers. Assumes nothing.
use Rattle.std.proofs.Common.{◌≤◌, ◌++◌, length, arith, length-append}
use Rattle.cells.specs.Fingers.{listed_some}
use Rattle.cells.proofs.Fours.{some_length}
use Rattle.joins.specs.Rows.{in_row}
use Rattle.joins.specs.declared.row.Row.{Row}

pub row_length : (r : Row) → length (in_row r) ≤ 12
row_length r = omega (arith, length-append (listed_some r.first) (listed_some r.second ++ listed_some r.third), length-append (listed_some r.second) (listed_some r.third), some_length r.first, some_length r.second, some_length r.third)
