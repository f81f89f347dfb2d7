use Rattle.std.proofs.Common.{arith}
use Rattle.sweep.proofs.Visiting.{roots_near, begun, children_near, visited, ended}
use Rattle.sweep.proofs.mark.mark_all.Goals as goal

pub mark_roots-requires-clause-near : goal.mark_roots-requires-clause-near
mark_roots-requires-clause-near g c = roots_near c.args.cells.now c.args.table.now c.requires.whole

pub loop-work-init : goal.loop-work-init
loop-work-init g c = begun c.args.cells.now c.args.table.now c.requires.whole _ _ _ c.requires.unmarked c.mark_roots.ensures

pub visit-requires-clause-near : goal.visit-requires-clause-near
visit-requires-clause-near g c = children_near c.args.cells.now c.args.table.now c.requires.whole c.loop-work.cells c.loop-work.work (omega arith) c.loop-work.invariant

pub loop-work-preserved : goal.loop-work-preserved
loop-work-preserved g c = visited c.args.cells.now c.args.table.now c.requires.whole c.loop-work.cells c.loop-work.work (omega arith) c.loop-work.invariant _ _ c.visit.ensures

pub returns : goal.returns
returns g c = ended c.args.cells.now c.args.table.now c.requires.whole c.loop-work.cells c.loop-work.work (omega (arith, c.loop-work-test.false)) c.loop-work.invariant
