use Rattle.std.proofs.Common.{◌≡◌, suc, ◌<◌, ◌∷◌, length, ap, ◌∙◌, subst, arith, rules}
use Rattle.model.specs.Tree.{count_run}
use Rattle.model.specs.Forms.{Each}
use Rattle.cells.specs.Cells.{nodes}
use Rattle.cells.specs.Fingers.{listed, listed_some}
use Rattle.cells.proofs.Fours.{listed_length}
use Rattle.cuts.proofs.cut.+cut_digit.Goals as goal

pub cut_digit-requires : goal.cut_digit-requires
cut_digit-requires g t c κs within =
    let h = c.args.cells.now in
    let k = c.args.level in
    let d = c.args.digit in
    let rest = c.in-Some.rest in
    let first = c.split_first-finger.result.0 in
    let e : listed d ≡ first ∷ listed rest = c.split_first-finger.ensures ∙ ap (λ o. first ∷ listed_some o) c.in-Some.is in
    let more : length (listed c.prepend_some-more.result) ≡ suc (length (listed_some c.args.passed)) = ap length {y = first ∷ listed_some c.args.passed} c.prepend_some-more.ensures in
    let n = ap (λ ps. count_run (nodes h k ps)) e in
    let v = subst (λ ps. Each k (nodes h k ps)) e c.requires.formed in
    let less : rest.count < d.count = omega (arith, ap length e, listed_length d, listed_length rest) in
    (search rules, (within.0, (within.1.0, (within.1.1.0, (within.1.1.1, (omega (arith, more, c.requires.few, less), (v.1, omega (arith, n, c.weigh-weight.ensures.items_are, c.if-position-weight.false, c.requires.within))))))))
