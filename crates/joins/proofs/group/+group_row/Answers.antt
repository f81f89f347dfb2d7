use Rattle.std.proofs.Common.{◌<◌, ◌≤◌, length, sym, ◌∙◌, arith, rules}
use Rattle.joins.specs.Rows.{in_row}
use Rattle.joins.proofs.Rows.{row_length}
use Rattle.joins.proofs.Grouping.{two_nodes, three_nodes, row_lengths, rest_ready, rest_count, others_few, made_more, pair_formed, pair_count, made_pairs}
use Rattle.joins.proofs.group.+group_row.Goals as goal

pub make_node-right-requires-clause-formed : goal.make_node-right-requires-clause-formed
make_node-right-requires-clause-formed g t c = pair_formed g.K.Kind.kind c.args.cells.now c.args.level (in_row c.args.row) c.requires.formed _ _ c.take_first-first.ensures _ _ c.take_first-second.ensures _ _ c.take_first-third.ensures _ _ c.take_first-fourth.ensures (two_nodes g.K.Kind.kind _ _ _ c.of-then-wide-eq4.ensures c.make_node-left.ensures.made) _ c.of-then-wide-eq4-2.ensures

pub make_node-right-requires-clause-fits : goal.make_node-right-requires-clause-fits
make_node-right-requires-clause-fits g t c = omega (arith, pair_count g.K.Kind.kind c.args.cells.now c.args.level (in_row c.args.row) c.requires.formed _ _ c.take_first-first.ensures _ _ c.take_first-second.ensures _ _ c.take_first-third.ensures _ _ c.take_first-fourth.ensures (two_nodes g.K.Kind.kind _ _ _ c.of-then-wide-eq4.ensures c.make_node-left.ensures.made) _ c.of-then-wide-eq4-2.ensures, c.requires.fits)

pub returns-then-wide-eq4-clause-made : goal.returns-then-wide-eq4-clause-made
returns-then-wide-eq4-clause-made g t c = made_pairs g.K.Kind.kind c.args.cells.now c.args.level (in_row c.args.row) c.requires.formed _ _ c.take_first-first.ensures _ _ c.take_first-second.ensures _ _ c.take_first-third.ensures _ _ c.take_first-fourth.ensures (two_nodes g.K.Kind.kind _ _ _ c.of-then-wide-eq4.ensures c.make_node-left.ensures.made) _ (two_nodes g.K.Kind.kind _ _ _ c.of-then-wide-eq4-2.ensures c.make_node-right.ensures.made) c.of-then-wide-eq4-3.ensures (sym c.width-wide.ensures.is ∙ c.if-wide-eq4.true)

pub group_row-others-requires : goal.group_row-others-requires
group_row-others-requires g t c κs within =
    let three = (three_nodes g.K.Kind.kind _ _ _ _ c.of-2.ensures c.make_node-three.ensures.made) in
    let spent = three.grown.spent in
    let n = row_lengths g.K.Kind.kind c.args.cells.now c.args.level (in_row c.args.row) c.requires.formed _ _ c.take_first-first.ensures _ _ c.take_first-second.ensures _ _ c.take_first-third.ensures in
    let less : length (in_row c.take_first-third.new.self) < length (in_row c.args.row) = omega (arith, n) in
    let long : 2 ≤ length (in_row c.take_first-third.new.self) = omega (arith, n, c.requires.long, c.width-wide.ensures.is, c.if-wide-eq2.false, c.if-wide-eq3.false, c.if-wide-eq4.false) in
    let formed = rest_ready g.K.Kind.kind c.args.cells.now c.args.level (in_row c.args.row) c.requires.formed _ _ c.take_first-first.ensures _ _ c.take_first-second.ensures _ _ c.take_first-third.ensures three in
    let count = rest_count g.K.Kind.kind c.args.cells.now c.args.level (in_row c.args.row) c.requires.formed _ _ c.take_first-first.ensures _ _ c.take_first-second.ensures _ _ c.take_first-third.ensures three in
    search rules

pub prepend-requires : goal.prepend-requires
prepend-requires g t c = omega (arith, others_few g.K.Kind.kind c.args.cells.now c.args.level (in_row c.args.row) c.requires.formed _ _ c.take_first-first.ensures _ _ c.take_first-second.ensures _ _ c.take_first-third.ensures (three_nodes g.K.Kind.kind _ _ _ _ c.of-2.ensures c.make_node-three.ensures.made) _ c.group_row-others.ensures.made, row_lengths g.K.Kind.kind c.args.cells.now c.args.level (in_row c.args.row) c.requires.formed _ _ c.take_first-first.ensures _ _ c.take_first-second.ensures _ _ c.take_first-third.ensures, row_length c.args.row)

pub returns-clause-made : goal.returns-clause-made
returns-clause-made g t c =
    made_more g.K.Kind.kind c.args.cells.now c.args.level (in_row c.args.row) c.requires.formed _ _ c.take_first-first.ensures _ _ c.take_first-second.ensures _ _ c.take_first-third.ensures (three_nodes g.K.Kind.kind _ _ _ _ c.of-2.ensures c.make_node-three.ensures.made) _ c.group_row-others.ensures.made _ c.prepend.ensures (omega (arith, row_lengths g.K.Kind.kind c.args.cells.now c.args.level (in_row c.args.row) c.requires.formed _ _ c.take_first-first.ensures _ _ c.take_first-second.ensures _ _ c.take_first-third.ensures, c.requires.long, c.width-wide.ensures.is, c.if-wide-eq2.false, c.if-wide-eq3.false, c.if-wide-eq4.false))
