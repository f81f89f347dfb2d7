use Rattle.std.proofs.Common.{sym, ◌∙◌}
use Rattle.cells.proofs.Opened.{node_within, node_weighs, node_other}
use Rattle.cells.proofs.read.weigh.Goals as goal

pub body_at-requires : goal.body_at-requires
body_at-requires g c = node_within c.args.cells.now c.args.level c.args.at c.requires

pub unreachable-requires : goal.unreachable-requires
unreachable-requires g c = node_other g.K.Kind.kind c.args.cells.now c.args.level c.args.at c.requires _ c.body_at.ensures c.in_default.not-Item c.in_default.not-Node

pub returns-in-Item : goal.returns-in-Item
returns-in-Item g c =
    let r = node_weighs g.K.Kind.kind c.args.cells.now c.args.level c.args.at c.requires _ (sym c.in-Item.is ∙ c.body_at.ensures) in
    record { total_is = c.measure.ensures ∙ r.0; items_are = r.1 }

pub returns-in-Node : goal.returns-in-Node
returns-in-Node g c =
    let r = node_weighs g.K.Kind.kind c.args.cells.now c.args.level c.args.at c.requires _ (sym c.in-Node.is ∙ c.body_at.ensures) in
    record { total_is = r.0; items_are = r.1 }
