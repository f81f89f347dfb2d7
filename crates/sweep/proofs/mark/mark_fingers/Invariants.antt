use Rattle.std.proofs.Common.{take}
use Rattle.cells.specs.Fingers.{listed}
use Rattle.sweep.specs.Marks.{Marks}
use Rattle.sweep.proofs.mark.mark_fingers.Given as goal

abbrev pub invariant-loop-i : goal.invariant-loop-i
invariant-loop-i g l = Marks l.initial.cells l.initial.work (take l.i (listed l.digit)) l.cells l.work
