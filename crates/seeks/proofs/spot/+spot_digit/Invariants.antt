use Rattle.seeks.proofs.spot.+spot_digit.Given as goal

abbrev pub decreases-spot_digit : goal.decreases-spot_digit
decreases-spot_digit g l = l.digit.count
