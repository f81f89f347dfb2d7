use Rattle.lists.proofs.tests.a_thousand_items.Goals as goal

pub joined-again-requires : goal.joined-again-requires
joined-again-requires g c = record { sound = c.joined-turned.ensures.sound; left = c.joined-turned.ensures.stays _ c.parted-halves.ensures.left; right = c.joined-turned.ensures.stays _ c.parted-halves.ensures.right }

pub reads-requires-5 : goal.reads-requires-5
reads-requires-5 g c = c.joined-again.ensures.stays _ (c.joined-turned.ensures.stays _ (c.parted-halves.ensures.stays _ c.thousand-root.ensures.whole))
