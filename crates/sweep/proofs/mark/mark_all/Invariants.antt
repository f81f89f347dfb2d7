use Rattle.std.proofs.Common.{◌+◌}
use Rattle.sweep.specs.Marks.{unmarked}
use Rattle.sweep.proofs.Visiting.{Marking}
use Rattle.sweep.proofs.mark.mark_all.Given as goal

abbrev pub invariant-loop-work : goal.invariant-loop-work
invariant-loop-work g l = Marking l.fn.cells l.table l.cells l.work

abbrev pub decreases-loop-work : goal.decreases-loop-work
decreases-loop-work g l = l.work.count + unmarked l.cells
