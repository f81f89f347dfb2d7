use Rattle.std.proofs.Common.{sym}
use Rattle.planfile.proofs.Composes.{wrote}
use Rattle.planfile.proofs.compose.write.Goals as goal

pub returns : goal.returns
returns c =
    let put = c.put_file.ensures in
    let w = wrote c.args.text.now c.args.targets.now c.args.out.now (sym c.if-not-all_admitted.ensures) (sym c.if-not-all_distinct.ensures) _ _ put.answered put.output in
    record { answer = w.answer; output = w.output; same = w.same }
