use Rattle.ends.proofs.push.+push.Given as goal

abbrev pub decreases-push : goal.decreases-push
decreases-push g l = l.root.levels
