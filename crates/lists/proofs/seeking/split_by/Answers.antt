use Rattle.lists.proofs.Meeting.{missed_made, missed_right}
use Rattle.lists.proofs.seeking.split_by.Goals as goal

pub returns-in-None : goal.returns-in-None
returns-in-None g c = record { parted = missed_made g.K.Kind.kind c.args.cells.now c.args.root c.args.question _ c.requires.whole c.in-None.ensures.right; right = missed_right g.K.Kind.kind c.args.cells.now c.args.root; sound = c.requires.sound }
