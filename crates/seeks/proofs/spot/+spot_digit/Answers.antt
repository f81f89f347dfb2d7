use Rattle.std.proofs.Common.{◌≡◌, ◌<◌, ◌∷◌, length, ap, ◌∙◌, subst, arith, rules}
use Rattle.model.specs.Tree.{count_run}
use Rattle.model.specs.Forms.{Each}
use Rattle.cells.specs.Cells.{nodes}
use Rattle.cells.proofs.Fours.{listed_length}
use Rattle.cells.specs.Fingers.{listed, listed_some}
use Rattle.seeks.proofs.Spotting.{spot_last, spot_here, spot_later}
use Rattle.seeks.proofs.spot.+spot_digit.Goals as goal

pub spot_digit-requires : goal.spot_digit-requires
spot_digit-requires g t c κs within =
    let h = c.args.cells.now in
    let k = c.args.level in
    let d = c.args.digit in
    let others = c.in-Some.others in
    let x = c.split_first-finger.result.0 in
    let e : listed d ≡ x ∷ listed others = c.split_first-finger.ensures ∙ ap (λ o. x ∷ listed_some o) c.in-Some.is in
    let n = ap (λ ps. count_run (nodes h k ps)) e in
    let v = subst (λ ps. Each k (nodes h k ps)) e c.requires.formed in
    let less : others.count < d.count = omega (arith, ap length e, listed_length d, listed_length others) in
    (search rules, (within.0, (within.1.0, (within.1.1.0, (within.1.1.1, (v.1, omega (arith, n, c.toward-next.ensures.items_are, c.weigh-weight.ensures.items_are, c.requires.fits)))))))

pub returns-else-meets : goal.returns-else-meets
returns-else-meets g t c =
    let x = c.split_first-finger.result.0 in
    let e : listed c.args.digit ≡ x ∷ listed c.in-Some.others = c.split_first-finger.ensures ∙ ap (λ o. x ∷ listed_some o) c.in-Some.is in
    spot_later {k = g.K.Kind.kind} g.met.K.Kind.lawful c.args.cells.now c.args.level c.args.question c.args.passed x (listed c.args.digit) c.requires.formed _ e _ _ c.weigh-weight.ensures c.toward-next.ensures c.if-meets.ensures _ c.spot_digit.ensures

pub returns-then-meets : goal.returns-then-meets
returns-then-meets g t c =
    let x = c.split_first-finger.result.0 in
    let e : listed c.args.digit ≡ x ∷ listed c.in-Some.others = c.split_first-finger.ensures ∙ ap (λ o. x ∷ listed_some o) c.in-Some.is in
    spot_here {k = g.K.Kind.kind} g.met.K.Kind.lawful c.args.cells.now c.args.level c.args.question c.args.passed x (listed c.args.digit) c.requires.formed _ e _ _ c.weigh-weight.ensures c.toward-next.ensures c.if-meets.ensures

pub returns-in_default : goal.returns-in_default
returns-in_default g t c =
    let x = c.split_first-finger.result.0 in
    spot_last {k = g.K.Kind.kind} g.met.K.Kind.lawful c.args.cells.now c.args.level c.args.question c.args.passed x (listed c.args.digit) c.requires.formed _ c.in_default.not-Some c.split_first-finger.ensures
