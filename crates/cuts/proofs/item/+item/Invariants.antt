use Rattle.std.proofs.Common.{◌+◌, ◌*◌}
use Rattle.cuts.proofs.item.+item.Given as goal

abbrev pub decreases-item_in : goal.decreases-item_in
decreases-item_in g l = 2 * l.level + 1

abbrev pub decreases-node_item : goal.decreases-node_item
decreases-node_item g l = 2 * l.level
