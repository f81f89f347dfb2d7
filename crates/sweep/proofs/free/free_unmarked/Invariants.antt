use Rattle.sweep.specs.Frees.{Judging}
use Rattle.sweep.proofs.free.free_unmarked.Given as goal

abbrev pub invariant-loop-at : goal.invariant-loop-at
invariant-loop-at g l = Judging l.initial.cells l.at l.cells l.free
