use Rattle.std.proofs.Common.{◌∙◌}
use Rattle.lists.proofs.Roots.{formed_at, count_at}
use Rattle.lists.proofs.reads.length.Goals as goal

pub weigh_tree-requires : goal.weigh_tree-requires
weigh_tree-requires g c = formed_at c.args.cells.now c.args.root c.requires

pub returns : goal.returns
returns g c = c.weigh_tree.ensures.items_are ∙ count_at c.args.cells.now c.args.root c.requires
