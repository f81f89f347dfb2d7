use Rattle.std.proofs.Common.{◌∙◌, arith}
use Rattle.cells.specs.Cells.{end}
use Rattle.ends.proofs.Pushing.{sided_formed, sided_count, sided_node}
use Rattle.ends.proofs.push.three_at.Goals as goal

pub make_node-requires-clause-formed : goal.make_node-requires-clause-formed
make_node-requires-clause-formed g c =
    sided_formed g.K.Kind.kind c.args.cells.now c.args.level (end c.args.side) c.args.near c.args.middle c.args.far c.ordered-left.result c.ordered-left.ensures _ c.of.ensures c.requires.near c.requires.middle c.requires.far

pub make_node-requires-clause-fits : goal.make_node-requires-clause-fits
make_node-requires-clause-fits g c =
    omega (arith, sided_count g.K.Kind.kind c.args.cells.now c.args.level (end c.args.side) c.args.near c.args.middle c.args.far c.ordered-left.result c.ordered-left.ensures _ c.of.ensures, c.requires.fits)

pub returns-clause-made : goal.returns-clause-made
returns-clause-made g c = record {
  grown = c.make_node.ensures.made.grown;
  reads = c.make_node.ensures.made.reads ∙ sided_node g.K.Kind.kind c.args.cells.now c.args.level (end c.args.side) c.args.near c.args.middle c.args.far c.ordered-left.result c.ordered-left.ensures _ c.of.ensures;
}
