use Rattle.std.proofs.Common.{◌+◌, ◌-◌, ◌*◌, ◌<◌, arith, rules}
use Rattle.cells.specs.Cells.{node}
use Rattle.cells.specs.Fingers.{listed}
use Rattle.cells.proofs.Fours.{listed_length}
use Rattle.cuts.proofs.Cutting.{cut_known, cut_sums, cut_within}
use Rattle.cuts.proofs.Finding.{parts_ready, parts_count}
use Rattle.places.proofs.Placing.{index_within, leaf_made, run_made, swapped_ready, swapped_count, swapped_few, node_made}
use Rattle.places.proofs.replace.+node.Goals as goal

pub replace_in-replace_node-finger-requires : goal.replace_in-replace_node-finger-requires
replace_in-replace_node-finger-requires g t c κs within =
    let h = c.args.cells.now in
    let k = c.args.level in
    let ps = listed c.args.digit in
    let less : 2 * k < 2 * k + 1 = omega arith in
    let here = (cut_known h k c.args.position ps c.requires.formed c.requires.within c.cut_digit-cut.result c.cut_digit-cut.ensures).here in
    let sums = cut_sums h k c.args.position ps c.requires.formed c.requires.within c.cut_digit-cut.result c.cut_digit-cut.ensures in
    let inside = cut_within h k c.args.position ps c.requires.formed c.requires.within c.cut_digit-cut.result c.cut_digit-cut.ensures in
    (search rules, (within.0, (within.1.0, (within.1.1.0, (within.1.1.1, (c.requires.room, (c.requires.sound, (here, (omega (arith, sums, c.requires.fits), inside)))))))))

pub replace_in-with_finger-requires : goal.replace_in-with_finger-requires
replace_in-with_finger-requires g t c =
    omega (arith, index_within c.args.cells.now c.args.level c.args.position (listed c.args.digit) c.requires.formed c.requires.within c.cut_digit-cut.result c.cut_digit-cut.ensures, c.count_of.ensures.is)

pub replace_in-returns-clause-made : goal.replace_in-returns-clause-made
replace_in-returns-clause-made g t c =
    run_made g.K.Kind.kind c.args.item c.args.cells.now c.args.level (listed c.args.digit) c.requires.formed c.args.position c.requires.within c.cut_digit-cut.result c.cut_digit-cut.ensures c.replace_node-finger.ensures.made _ c.count_of.ensures.is _ c.with_finger.ensures

pub replace_node-returns-then-level-eq0-clause-made : goal.replace_node-returns-then-level-eq0-clause-made
replace_node-returns-then-level-eq0-clause-made g t c = leaf_made g.K.Kind.kind c.args.item c.args.cells.now c.args.level c.args.position (node c.args.cells.now c.args.level c.args.at) c.if-level-eq0.true c.take_cell.ensures.taken

pub replace_node-replace_in-changed-requires : goal.replace_node-replace_in-changed-requires
replace_node-replace_in-changed-requires g t c κs within =
    let n = parts_count c.args.cells.now (c.args.level - 1) c.args.level c.args.at (omega arith) c.requires.formed (listed c.fingers_of-parts.result) c.fingers_of-parts.ensures in
    let v = parts_ready c.args.cells.now (c.args.level - 1) c.args.level c.args.at (omega arith) c.requires.formed (listed c.fingers_of-parts.result) c.fingers_of-parts.ensures in
    let less : 2 * (c.args.level - 1) + 1 < 2 * c.args.level = omega (arith, c.if-level-eq0.false) in
    (search rules, (within.0, (within.1.0, (within.1.1.0, (within.1.1.1, (omega (arith, c.requires.room), (c.requires.sound, (v, (omega (arith, n, c.requires.fits), omega (arith, n, c.requires.within))))))))))

pub replace_node-make_node-requires-clause-some : goal.replace_node-make_node-requires-clause-some
replace_node-make_node-requires-clause-some g t c =
    let n = parts_count c.args.cells.now (c.args.level - 1) c.args.level c.args.at (omega arith) c.requires.formed (listed c.fingers_of-parts.result) c.fingers_of-parts.ensures in
    let v = parts_ready c.args.cells.now (c.args.level - 1) c.args.level c.args.at (omega arith) c.requires.formed (listed c.fingers_of-parts.result) c.fingers_of-parts.ensures in
    omega (arith, listed_length c.replace_in-changed.result, (swapped_few g.K.Kind.kind c.args.item c.args.cells.now (c.args.level - 1) (listed c.fingers_of-parts.result) v c.args.position (omega (arith, n, c.requires.within)) c.replace_in-changed.ensures.made c.args.level c.args.at (omega arith) c.requires.formed c.fingers_of-parts.ensures).0)

pub replace_node-make_node-requires-clause-few : goal.replace_node-make_node-requires-clause-few
replace_node-make_node-requires-clause-few g t c =
    let n = parts_count c.args.cells.now (c.args.level - 1) c.args.level c.args.at (omega arith) c.requires.formed (listed c.fingers_of-parts.result) c.fingers_of-parts.ensures in
    let v = parts_ready c.args.cells.now (c.args.level - 1) c.args.level c.args.at (omega arith) c.requires.formed (listed c.fingers_of-parts.result) c.fingers_of-parts.ensures in
    omega (arith, listed_length c.replace_in-changed.result, (swapped_few g.K.Kind.kind c.args.item c.args.cells.now (c.args.level - 1) (listed c.fingers_of-parts.result) v c.args.position (omega (arith, n, c.requires.within)) c.replace_in-changed.ensures.made c.args.level c.args.at (omega arith) c.requires.formed c.fingers_of-parts.ensures).1)

pub replace_node-make_node-requires-clause-formed :
    goal.replace_node-make_node-requires-clause-formed
replace_node-make_node-requires-clause-formed g t c =
    let n = parts_count c.args.cells.now (c.args.level - 1) c.args.level c.args.at (omega arith) c.requires.formed (listed c.fingers_of-parts.result) c.fingers_of-parts.ensures in
    let v = parts_ready c.args.cells.now (c.args.level - 1) c.args.level c.args.at (omega arith) c.requires.formed (listed c.fingers_of-parts.result) c.fingers_of-parts.ensures in
    swapped_ready g.K.Kind.kind c.args.item c.args.cells.now (c.args.level - 1) (listed c.fingers_of-parts.result) v c.args.position (omega (arith, n, c.requires.within)) c.replace_in-changed.ensures.made

pub replace_node-make_node-requires-clause-fits : goal.replace_node-make_node-requires-clause-fits
replace_node-make_node-requires-clause-fits g t c =
    let n = parts_count c.args.cells.now (c.args.level - 1) c.args.level c.args.at (omega arith) c.requires.formed (listed c.fingers_of-parts.result) c.fingers_of-parts.ensures in
    let v = parts_ready c.args.cells.now (c.args.level - 1) c.args.level c.args.at (omega arith) c.requires.formed (listed c.fingers_of-parts.result) c.fingers_of-parts.ensures in
    omega (arith, swapped_count g.K.Kind.kind c.args.item c.args.cells.now (c.args.level - 1) (listed c.fingers_of-parts.result) v c.args.position (omega (arith, n, c.requires.within)) c.replace_in-changed.ensures.made, n, c.requires.fits)

pub replace_node-returns-clause-made : goal.replace_node-returns-clause-made
replace_node-returns-clause-made g t c =
    node_made g.K.Kind.kind c.args.item c.args.cells.now (c.args.level - 1) c.args.level c.args.at c.args.position (omega arith) (listed c.fingers_of-parts.result) c.fingers_of-parts.ensures c.replace_in-changed.ensures.made (omega arith) c.make_node.ensures.made
