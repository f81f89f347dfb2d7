use Rattle.std.proofs.Common.{◌≡◌, take}
use Rattle.cells.specs.Chain.{free_from}
use Rattle.cells.proofs.arena.free_all.Given as goal

abbrev pub invariant-loop-i : goal.invariant-loop-i
invariant-loop-i g l = take l.i l.cells ≡ free_from 0 l.i
