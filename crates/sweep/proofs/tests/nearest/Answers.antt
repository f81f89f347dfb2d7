use Rattle.model.proofs.Forms.{decides_formed}
use Rattle.cells.specs.Cells.{rooted}
use Rattle.sweep.proofs.tests.nearest.Goals as goal

pub view-requires : goal.view-requires
view-requires c = ((decides_formed c.args.root.levels 0 (rooted c.args.arena.now 0 c.args.root)).0 c.requires).1
