use Rattle.cells.proofs.Making.{made_single}
use Rattle.cells.proofs.build.make_single.Goals as goal

pub returns-clause-made : goal.returns-clause-made
returns-clause-made g c = made_single g.K.Kind.kind c.args.level c.take_cell-at.ensures.taken c.requires.formed
