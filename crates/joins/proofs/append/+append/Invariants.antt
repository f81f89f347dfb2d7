use Rattle.joins.proofs.append.+append.Given as goal

abbrev pub decreases-append : goal.decreases-append
decreases-append g l = l.left.levels
