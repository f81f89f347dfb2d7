use Rattle.places.proofs.replace.+replace.Given as goal

abbrev pub decreases-replace : goal.decreases-replace
decreases-replace g l = l.root.levels
