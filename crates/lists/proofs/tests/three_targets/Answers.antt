use Rattle.std.proofs.Common.{refl}
use Rattle.cells.proofs.Opened.{tree_none}
use Rattle.lists.proofs.tests.three_targets.Goals as goal

pub pushed-one-requires-clause-whole : goal.pushed-one-requires-clause-whole
pushed-one-requires-clause-whole g c = rw (tree_none c.arena.inside.cells.now 0 0 0 refl) refl

pub met-requires-6 : goal.met-requires-6
met-requires-6 g c = c.popped-back.ensures.stays _ (c.popped-front.ensures.stays _ (c.replaced-nearer.ensures.stays _ c.pushed-list.ensures.whole))

pub first-requires-2 : goal.first-requires-2
first-requires-2 g c = c.popped-back.ensures.stays _ (c.popped-front.ensures.stays _ (c.replaced-nearer.ensures.stays _ c.pushed-list.ensures.whole))
