use Rattle.std.proofs.Common.{length}
use Rattle.planfile.proofs.Walks.{Under}
use Rattle.planfile.proofs.read.scan.Given as goal

abbrev pub invariant-loop-left : goal.invariant-loop-left
invariant-loop-left l = Under l.file l.left l.seen l.sum

abbrev pub decreases-loop-left : goal.decreases-loop-left
decreases-loop-left l = length l.left
