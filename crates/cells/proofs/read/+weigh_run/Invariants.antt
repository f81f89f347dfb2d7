use Rattle.cells.proofs.read.+weigh_run.Given as goal

abbrev pub decreases-weigh_run : goal.decreases-weigh_run
decreases-weigh_run g l = l.digit.count
