use Rattle.std.proofs.Common.{◌∙◌}
use Rattle.sweep.proofs.Sweeping.{marked_live, swept}
use Rattle.sweep.proofs.sweep_cells.Goals as goal

pub free_unmarked-requires-clause-live : goal.free_unmarked-requires-clause-live
free_unmarked-requires-clause-live g c = marked_live c.args.cells.now c.args.table.now c.requires.whole _ c.mark_all.ensures

pub returns-clause-swept : goal.returns-clause-swept
returns-clause-swept g c = swept c.args.cells.now c.args.table.now c.requires.whole _ c.mark_all.ensures _ _ (c.free_unmarked.auto.cells ∙ c.mark_all.auto.cells) c.free_unmarked.ensures
