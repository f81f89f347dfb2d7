use Rattle.lists.proofs.Roots.{formed_at}
use Rattle.lists.proofs.reads.total.Goals as goal

pub weigh_tree-requires : goal.weigh_tree-requires
weigh_tree-requires g c = formed_at c.args.cells.now c.args.root c.requires
