use Rattle.std.proofs.Common.{◌≡◌, drop}
use Rattle.memory.specs.Rows.{checked}
use Rattle.memory.proofs.rows.first.Given as goal

abbrev pub invariant-loop-check : goal.invariant-loop-check
invariant-loop-check l = checked l.checks ≡ checked (drop l.check-index l.checks)
