use Rattle.std.proofs.Common.{length}
use Rattle.joins.specs.Rows.{in_row}
use Rattle.joins.proofs.group.+group_row.Given as goal

abbrev pub decreases-group_row : goal.decreases-group_row
decreases-group_row g l = length (in_row l.row)
