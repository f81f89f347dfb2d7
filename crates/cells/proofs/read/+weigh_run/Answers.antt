use Rattle.std.proofs.Common.{◌^◌, ◌<◌, length, ap, subst, arith, rules}
use Rattle.model.specs.Tree.{count_run}
use Rattle.model.specs.Forms.{Each}
use Rattle.cells.specs.Cells.{nodes}
use Rattle.cells.specs.Fingers.{listed}
use Rattle.cells.proofs.Fours.{listed_length}
use Rattle.cells.proofs.read.+weigh_run.Goals as goal

pub weigh_run-others-requires : goal.weigh_run-others-requires
weigh_run-others-requires g t c κs within =
    let d = c.args.digit in
    let more = c.in-Some.more in
    let e = rw c.in-Some.is at c.split_first-finger.ensures in
    let n = ap (λ ps. count_run (nodes c.args.cells.now c.args.level ps)) e in
    let formed : Each c.args.level (nodes c.args.cells.now c.args.level (listed more)) = (subst (λ ps. Each c.args.level (nodes c.args.cells.now c.args.level ps)) e c.requires.formed).1 in
    let fits : count_run (nodes c.args.cells.now c.args.level (listed more)) < 2 ^ 32 = omega (arith, n, c.requires.fits) in
    let less : more.count < d.count = omega (arith, listed_length d, listed_length more, ap length e) in
    search rules
