use Rattle.std.proofs.Common.{subst, ap}
use Rattle.sweep.specs.Marks.{AllNear, first_of}
use Rattle.sweep.proofs.mark.mark_version.Goals as goal

pub mark_first-requires-clause-near : goal.mark_first-requires-clause-near
mark_first-requires-clause-near g c = subst (AllNear c.args.cells.now) (ap first_of c.in-Some.is) c.requires.near
