use Rattle.std.proofs.Common.{suc, [], sym, ap, ◌∙◌}
use Rattle.model.specs.Append.{onto}
use Rattle.cells.proofs.Opened.{node_within, no_item, some_parts, parts_front, parts_back}
use Rattle.cells.proofs.read.parts_of.Goals as goal

pub body_at-requires : goal.body_at-requires
body_at-requires g c = node_within c.args.cells.now (suc c.args.level) c.args.at c.requires

pub unreachable-requires : goal.unreachable-requires
unreachable-requires g c = no_item c.args.cells.now c.args.level c.args.at c.requires _ c.body_at.ensures c.in_default.not-Node

pub unreachable-requires-in_default-try_from : goal.unreachable-requires-in_default-try_from
unreachable-requires-in_default-try_from g c = c.in_default-try_from.ensures (some_parts c.args.cells.now c.args.level c.args.at c.requires _ _ (sym c.in-Node.is ∙ c.body_at.ensures))

pub returns-in-Front : goal.returns-in-Front
returns-in-Front g c = rw c.in-Front.is (parts_front c.args.cells.now c.args.level c.args.at c.requires _ _ (sym c.in-Node.is ∙ c.body_at.ensures) _ c.in-Ok.ensures)

pub returns-in-Back : goal.returns-in-Back
returns-in-Back g c = rw c.in-Back.is (parts_back c.args.cells.now c.args.level c.args.at c.requires _ _ (sym c.in-Node.is ∙ c.body_at.ensures) _ (c.reversed.ensures ∙ ap (λ ps. onto ps []) c.in-Ok.ensures))
