use Rattle.std.proofs.Common.{◌+◌, ◌*◌}
use Rattle.places.proofs.replace.+node.Given as goal

abbrev pub decreases-replace_in : goal.decreases-replace_in
decreases-replace_in g l = 2 * l.level + 1

abbrev pub decreases-replace_node : goal.decreases-replace_node
decreases-replace_node g l = 2 * l.level
