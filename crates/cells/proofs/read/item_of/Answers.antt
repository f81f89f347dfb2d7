use Rattle.std.proofs.Common.{sym, ◌∙◌}
use Rattle.cells.proofs.Opened.{node_within, only_item, item_reads}
use Rattle.cells.proofs.read.item_of.Goals as goal

pub body_at-requires : goal.body_at-requires
body_at-requires g c = node_within c.args.cells.now 0 c.args.at c.requires

pub unreachable-requires : goal.unreachable-requires
unreachable-requires g c = only_item c.args.cells.now c.args.at c.requires _ c.body_at.ensures c.in_default.not-Item

pub returns : goal.returns
returns g c = item_reads c.args.cells.now c.args.at _ (sym c.in-Item.is ∙ c.body_at.ensures)
