use Rattle.std.proofs.Common.{refl}
use Rattle.cells.proofs.Opened.{tree_none}
use Rattle.lists.proofs.tests.thousand.Goals as goal

pub loop-number-init : goal.loop-number-init
loop-number-init g c = (c.requires, rw (tree_none c.args.cells.now 0 0 0 refl) refl)
