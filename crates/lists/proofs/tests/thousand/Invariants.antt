use Rattle.cells.specs.Chain.{Sound}
use Rattle.lists.specs.Lists.{Whole}
use Rattle.lists.proofs.tests.thousand.Given as goal

abbrev pub invariant-loop-number : goal.invariant-loop-number
invariant-loop-number g l = Sound l.cells l.free × Whole l.cells l.root
