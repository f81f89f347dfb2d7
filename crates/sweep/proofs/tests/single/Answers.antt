use Rattle.std.proofs.Common.{sym, subst}
use Rattle.model.specs.Forms.{FormedNode, Formed}
use Rattle.cells.specs.Cells.{node}
use Rattle.sweep.proofs.Examples.{reads_from}
use Rattle.sweep.proofs.tests.single.Goals as goal

pub returns-clause-whole : goal.returns-clause-whole
returns-clause-whole g c = reads_from _ c.make_single.result (subst (Formed 0) (sym c.make_single.ensures.made.reads) (subst (λ h. FormedNode 0 (node h 0 c.args.finger)) (sym c.arena.view_is) c.requires))
