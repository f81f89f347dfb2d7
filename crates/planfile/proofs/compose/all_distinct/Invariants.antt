use Rattle.planfile.proofs.Rosters.{Sifted}
use Rattle.planfile.proofs.compose.all_distinct.Given as goal

abbrev pub invariant-loop-target : goal.invariant-loop-target
invariant-loop-target l = Sifted l.targets l.target-index l.seen
