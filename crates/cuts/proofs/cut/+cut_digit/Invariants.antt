use Rattle.cuts.proofs.cut.+cut_digit.Given as goal

abbrev pub decreases-cut_digit : goal.decreases-cut_digit
decreases-cut_digit g l = l.digit.count
