use Rattle.std.proofs.Common.{sym}
use Rattle.sweep.proofs.Marking.{listed_as, further, roots_more}
use Rattle.sweep.proofs.mark.mark_roots.Goals as goal

pub loop-version-preserved : goal.loop-version-preserved
loop-version-preserved g c =
    listed_as _ _ (sym (roots_more c.args.table.now c.loop-version.version-index c.loop-version-test.true)) (further _ _ c.loop-version.invariant c.mark_version.ensures)
