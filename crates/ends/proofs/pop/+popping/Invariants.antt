use Rattle.std.proofs.Common.{◌+◌, ◌*◌}
use Rattle.ends.proofs.pop.+popping.Given as goal

abbrev pub decreases-pop : goal.decreases-pop
decreases-pop g l = 2 * l.root.levels

abbrev pub decreases-trim : goal.decreases-trim
decreases-trim g l = 2 * l.middle.levels + 1
