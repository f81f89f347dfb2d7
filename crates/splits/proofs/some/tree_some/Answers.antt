use Rattle.std.proofs.Common.{sym, refl, ap, ◌∙◌}
use Rattle.model.specs.Ends.{tree_of}
use Rattle.cells.specs.Cells.{end, nodes}
use Rattle.cells.specs.Fingers.{listed_some}
use Rattle.cells.proofs.Frames.{grown_none}
use Rattle.cells.proofs.Opened.{tree_none}
use Rattle.splits.proofs.some.tree_some.Goals as goal

pub returns-in-None-clause-made : goal.returns-in-None-clause-made
returns-in-None-clause-made g c = record {
  grown = grown_none 1;
  reads = tree_none c.args.cells.now 0 c.args.level 0 refl ∙ sym (ap (λ run. tree_of g.K.Kind.kind (end c.args.side) (nodes c.args.cells.now c.args.level (listed_some run))) c.in-None.is);
}
