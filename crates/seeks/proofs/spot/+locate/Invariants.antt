use Rattle.seeks.proofs.spot.+locate.Given as goal

abbrev pub decreases-locate : goal.decreases-locate
decreases-locate g l = l.root.levels
