use Rattle.std.proofs.Common.{◌+◌, ◌*◌, length}
use Rattle.cells.specs.Fingers.{listed_some}
use Rattle.joins.proofs.append.+pushing.Given as goal

abbrev pub decreases-push_run : goal.decreases-push_run
decreases-push_run g l = 2 * length (listed_some l.run)

abbrev pub decreases-push_after : goal.decreases-push_after
decreases-push_after g l = 2 * length (listed_some l.others) + 1
