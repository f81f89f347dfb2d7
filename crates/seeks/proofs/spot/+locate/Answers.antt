use Rattle.std.proofs.Common.{◌≡◌, suc, ◌+◌, false, ap, arith}
use Rattle.model.specs.Tree.{count}
use Rattle.cells.specs.Cells.{rooted}
use Rattle.cells.specs.Fingers.{listed}
use Rattle.cells.proofs.Turned.{turned_formed, turned_count}
use Rattle.seeks.proofs.Levels.{spot_single, in_front, in_back, unmet_past, below_fits, in_middle}
use Rattle.seeks.proofs.spot.+locate.Goals as goal
use Rattle.seeks.proofs.spot.+locate.Goals.{else-middle-gt0-via-then-middle-gt0+else-meets-2, else-middle-gt0-via-else-middle-gt0}

pub returns-in-Single : goal.returns-in-Single
returns-in-Single g t c = spot_single {k = g.K.Kind.kind} g.met.K.Kind.lawful c.args.cells.now c.args.level c.args.question c.args.passed c.args.root c.requires.formed c.in-Single.finger c.in-Single.ensures.0

pub returns-then-meets : goal.returns-then-meets
returns-then-meets g t c =
    in_front {k = g.K.Kind.kind} g.met.K.Kind.lawful c.args.cells.now c.args.level c.args.question c.args.passed c.args.root c.in-Deep.ensures _ _ c.weigh_run-first.ensures c.toward-inside.ensures c.if-meets.ensures _ c.spot_digit.ensures

pub spot_digit-requires-then-meets-2-clause-fits : goal.spot_digit-requires-then-meets-2-clause-fits
spot_digit-requires-then-meets-2-clause-fits g t c =
    omega (arith, below_fits {k = g.K.Kind.kind} g.met.K.Kind.lawful c.args.cells.now c.args.level c.args.question c.args.passed c.args.root c.in-Deep.ensures _ _ c.weigh_run-first.ensures c.toward-inside.ensures c.if-meets.ensures _ (omega arith) _ _ c.weigh_tree-inner.ensures c.toward-past.ensures _ c.locate-below.ensures _ c.fingers_of-parts.ensures, c.requires.fits)

pub returns-then-meets-2 : goal.returns-then-meets-2
returns-then-meets-2 g t c =
    in_middle {k = g.K.Kind.kind} g.met.K.Kind.lawful c.args.cells.now c.args.level c.args.question c.args.passed c.args.root c.in-Deep.ensures _ _ c.weigh_run-first.ensures c.toward-inside.ensures c.if-meets.ensures _ (omega arith) _ _ c.weigh_tree-inner.ensures c.toward-past.ensures _ c.locate-below.ensures _ c.fingers_of-parts.ensures c.if-meets-2.ensures _ c.spot_digit-then-meets-2.ensures

pub spot_digit-requires-in-Deep : goal.spot_digit-requires-in-Deep
spot_digit-requires-in-Deep g t c =
    let seen = c.in-Deep.ensures in
    let up : c.args.level + 1 ≡ suc c.args.level = omega arith in
    let m = ap (λ k. count (rooted c.args.cells.now k c.in-Deep.middle)) up in
    let n = turned_count c.args.cells.now c.args.level (listed c.in-Deep.far) _ c.reversed.ensures in
    record {
      formed = turned_formed c.args.cells.now c.args.level (listed c.in-Deep.far) _ c.reversed.ensures seen.far_formed;
      fits = omega (arith, m, n, seen.counts, c.requires.fits, c.weigh_run-first.ensures.items_are, c.toward-inside.ensures.items_are, c.weigh_tree-inner.ensures.items_are, c.toward-past.ensures.items_are);
    }

pub returns-else-middle-gt0 : goal.returns-else-middle-gt0
returns-else-middle-gt0 g t c =
    let unmet : g.K.Kind.kind.fair c.toward-inside.result.total → false ≡ g.K.Kind.kind.met c.toward-past.result.total c.args.question = elim c.else-middle-gt0.branch [
      | else-middle-gt0-via-then-middle-gt0+else-meets-2 w ↦ λ f. w.if-meets-2.ensures
      | else-middle-gt0-via-else-middle-gt0 w ↦ unmet_past {k = g.K.Kind.kind} g.met.K.Kind.lawful c.args.cells.now c.args.level c.args.question c.args.passed c.args.root c.in-Deep.ensures _ _ c.weigh_run-first.ensures c.toward-inside.ensures c.if-meets.ensures _ (omega arith) _ _ c.weigh_tree-inner.ensures c.toward-past.ensures (omega (arith, w.if-middle-gt0.false))
    ]
    in
    in_back {k = g.K.Kind.kind} g.met.K.Kind.lawful c.args.cells.now c.args.level c.args.question c.args.passed c.args.root c.in-Deep.ensures _ _ c.weigh_run-first.ensures c.toward-inside.ensures c.if-meets.ensures _ (omega arith) _ _ c.weigh_tree-inner.ensures c.toward-past.ensures unmet _ c.reversed.ensures _ c.spot_digit-in-Deep.ensures
