use Rattle.std.proofs.Common.{sym, ap}
use Rattle.model.specs.Tree.{items}
use Rattle.model.specs.Seek.{seek}
use Rattle.cells.specs.Cells.{rooted}
use Rattle.cells.proofs.Opened.{tree_none}
use Rattle.seeks.proofs.Answering.{seek_misses, seek_hits, seek_within}
use Rattle.seeks.proofs.seek.seek.Goals as goal

pub returns-then-root-eq0-clause-right : goal.returns-then-root-eq0-clause-right
returns-then-root-eq0-clause-right g c = λ s. sym (ap (λ t. seek g.K.Kind.kind c.args.question (items t)) (tree_none c.args.cells.now c.args.root.levels 0 c.args.root.at c.if-root-eq0.true))

pub returns-then-not-meets-clause-right : goal.returns-then-not-meets-clause-right
returns-then-not-meets-clause-right g c = seek_misses g.K.Kind.kind c.args.question (rooted c.args.cells.now 0 c.args.root) g.met.K.Kind.lawful _ c.weigh_tree-whole.ensures.total_is c.if-not-meets.ensures

pub returns-clause-right : goal.returns-clause-right
returns-clause-right g c =
    seek_hits g.K.Kind.kind c.args.question (rooted c.args.cells.now 0 c.args.root) g.met.K.Kind.lawful _ c.weigh_tree-whole.ensures.total_is c.if-not-meets.ensures c.args.cells.now _ c.weigh_nothing.ensures c.locate-spot.result c.locate-spot.ensures

pub returns-clause-within : goal.returns-clause-within
returns-clause-within g c = seek_within g.K.Kind.kind c.args.question (rooted c.args.cells.now 0 c.args.root) c.requires.formed c.args.cells.now _ c.weigh_nothing.ensures c.locate-spot.result c.locate-spot.ensures
