use Rattle.std.proofs.Common.{◌≡◌, take}
use Rattle.labels.specs.Labels.{placed}
use Rattle.labels.proofs.fill.Given as goal

abbrev pub invariant-loop-i : goal.invariant-loop-i
invariant-loop-i l = take l.i l.places ≡ take l.i (placed 0 l.targets)
