use Rattle.std.proofs.Common.{◌≡◌, suc, ◌+◌, ◌-◌, ◌*◌, ◌<◌, get_or, ◌∙◌, subst, arith, rules}
use Rattle.cells.specs.Fingers.{listed}
use Rattle.cuts.proofs.Cutting.{cut_known, cut_within, cut_item}
use Rattle.cuts.proofs.Finding.{parts_ready, parts_count, parts_items}
use Rattle.cuts.proofs.item.+item.Goals as goal

pub item_in-node_item-requires : goal.item_in-node_item-requires
item_in-node_item-requires g t c κs within =
    let less : 2 * c.args.level < 2 * c.args.level + 1 = omega arith in
    let here = (cut_known c.args.cells.now c.args.level c.args.position (listed c.args.digit) c.requires.formed c.requires.within c.cut_digit-cut.result c.cut_digit-cut.ensures).here in
    let inside = cut_within c.args.cells.now c.args.level c.args.position (listed c.args.digit) c.requires.formed c.requires.within c.cut_digit-cut.result c.cut_digit-cut.ensures in
    (search rules, (within.0, (within.1.0, (within.1.1.0, (within.1.1.1, (here, inside))))))

pub item_in-returns : goal.item_in-returns
item_in-returns g t c =
    c.node_item.ensures ∙ cut_item c.args.cells.now c.args.level c.args.position (listed c.args.digit) c.requires.formed c.requires.within c.cut_digit-cut.result c.cut_digit-cut.ensures c.node_item.result

pub node_item-item_in-requires : goal.node_item-item_in-requires
node_item-item_in-requires g t c κs within =
    let step : suc (c.args.level - 1) ≡ c.args.level = omega (arith, c.if-level-eq0.false) in
    let ready = parts_ready c.args.cells.now (c.args.level - 1) c.args.level c.args.at step c.requires.formed _ c.fingers_of-parts.ensures in
    let n = parts_count c.args.cells.now (c.args.level - 1) c.args.level c.args.at step c.requires.formed _ c.fingers_of-parts.ensures in
    let less : 2 * (c.args.level - 1) + 1 < 2 * c.args.level = omega (arith, c.if-level-eq0.false) in
    (search rules, (within.0, (within.1.0, (within.1.1.0, (within.1.1.1, (ready, omega (arith, n, c.requires.within)))))))

pub node_item-returns : goal.node_item-returns
node_item-returns g t c =
    let step : suc (c.args.level - 1) ≡ c.args.level = omega (arith, c.if-level-eq0.false) in
    subst (λ xs. c.item_in.result ≡ get_or xs c.args.position c.item_in.result) (parts_items c.args.cells.now (c.args.level - 1) c.args.level c.args.at step c.requires.formed _ c.fingers_of-parts.ensures) c.item_in.ensures
