use Rattle.std.proofs.Common.{length}
use Rattle.cells.proofs.Opening.{all_free, opened, long_free}
use Rattle.cells.proofs.arena.Arena.new.Goals as goal

pub invariant_of-result : goal.invariant_of-result
invariant_of-result g c = opened c.free_all.new.cells (length c.free_all.new.cells) (long_free _ _ c.free_all.ensures)

pub returns-clause-free : goal.returns-clause-free
returns-clause-free g c = all_free c.free_all.new.cells (length c.free_all.new.cells) (long_free _ _ c.free_all.ensures)
