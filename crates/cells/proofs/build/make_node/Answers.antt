use Rattle.std.proofs.Common.{ap, arith}
use Rattle.cells.specs.declared.cell.Weight.{Weight}
use Rattle.cells.proofs.Fours.{listed_length}
use Rattle.cells.proofs.Making.{Regrouped, made_node, pair, triple, two_formed, third_formed, two_counted, three_counted}
use Rattle.cells.proofs.build.make_node.Goals as goal
use Rattle.cells.proofs.build.make_node.Goals.{then-parts-eq2, else-parts-eq2}

pub weigh-first-requires : goal.weigh-first-requires
weigh-first-requires g c = (two_formed c.args.cells.now c.args.level c.args.parts.count c.args.parts.at c.requires.some c.requires.formed).0

pub weigh-second-requires : goal.weigh-second-requires
weigh-second-requires g c = (two_formed c.args.cells.now c.args.level c.args.parts.count c.args.parts.at c.requires.some c.requires.formed).1

pub weigh-requires : goal.weigh-requires
weigh-requires g c = third_formed c.args.cells.now c.args.level c.args.parts.count c.args.parts.at (omega (arith, c.if-parts-eq2.false, c.requires.some)) c.requires.formed

pub toward-others-requires : goal.toward-others-requires
toward-others-requires g c =
    omega (arith, three_counted c.args.cells.now c.args.level c.args.parts.count c.args.parts.at (omega (arith, c.if-parts-eq2.false, c.requires.some)), c.weigh-second.ensures.items_are, c.weigh.ensures.items_are, c.requires.fits)

pub toward-weight-requires : goal.toward-weight-requires
toward-weight-requires g c = elim c.if-parts-eq2.branch [
  | then-parts-eq2 w ↦ omega (arith, two_counted c.args.cells.now c.args.level c.args.parts.count c.args.parts.at c.requires.some, c.weigh-first.ensures.items_are, c.weigh-second.ensures.items_are, ap (λ (x : Weight _). x.items) w.others-is, c.requires.fits)
  | else-parts-eq2 w ↦ omega (arith, three_counted c.args.cells.now c.args.level c.args.parts.count c.args.parts.at (omega (arith, w.if-parts-eq2.false, c.requires.some)), c.weigh-first.ensures.items_are, c.weigh-second.ensures.items_are, w.weigh.ensures.items_are, w.toward-others.ensures.items_are, ap (λ (x : Weight _). x.items) w.others-is, c.requires.fits)
]

pub returns-clause-made : goal.returns-clause-made
returns-clause-made g c =
    let d = c.args.parts in
    let n = listed_length d in
    let q = g.K.Kind.kind in
    let h = c.args.cells.now in
    let k = c.args.level in
    let r = c.toward-weight.ensures in
    let weighed : Regrouped q h k d.count d.at c.toward-weight.result = elim c.if-parts-eq2.branch [
      | then-parts-eq2 w ↦ pair q h k d.count d.at c.weigh-first.result c.weigh-second.result _ w.if-parts-eq2.true c.weigh-first.ensures c.weigh-second.ensures (rw w.others-is at r)
      | else-parts-eq2 w ↦ triple q h k d.count d.at c.weigh-first.result c.weigh-second.result w.weigh.result w.toward-others.result _ (omega (arith, w.if-parts-eq2.false, c.requires.some, c.requires.few)) c.weigh-first.ensures c.weigh-second.ensures w.weigh.ensures w.toward-others.ensures (rw w.others-is at r)
    ]
    in
    made_node q k _ c.into.ensures c.take_cell.ensures.taken (omega (arith, n, c.requires.some)) (omega (arith, n, c.requires.few)) c.requires.formed weighed
