use Rattle.splits.proofs.split.+split.Given as goal

abbrev pub decreases-split : goal.decreases-split
decreases-split g l = l.root.levels
