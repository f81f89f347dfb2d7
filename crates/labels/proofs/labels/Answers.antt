use Rattle.std.proofs.Common.{◌≤◌, length, sym, arith}
use Rattle.std.proofs.lemmas.Bool.{cond-true, le-leb}
use Rattle.labels.proofs.Sorts.{written}
use Rattle.labels.proofs.labels.Goals as goal

pub returns-then-count-out : goal.returns-then-count-out
returns-then-count-out c =
    let fits : length c.args.targets.now ≤ length c.args.out.now = omega arith in
    record {
      answer = sym (cond-true _ _ _ (le-leb _ _ fits));
      output = written c.args.targets.now c.args.out.now c.arrange.new.places fits c.arrange.ensures;
    }
