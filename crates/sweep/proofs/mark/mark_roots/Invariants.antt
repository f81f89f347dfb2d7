use Rattle.std.proofs.Common.{take}
use Rattle.sweep.specs.Marks.{Marks, root_cells}
use Rattle.sweep.proofs.mark.mark_roots.Given as goal

abbrev pub invariant-loop-version : goal.invariant-loop-version
invariant-loop-version g l = Marks l.initial.cells l.initial.work (root_cells (take l.version-index l.table)) l.cells l.work
