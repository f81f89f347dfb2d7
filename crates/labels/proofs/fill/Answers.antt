use Rattle.std.proofs.Common.{arith}
use Rattle.labels.proofs.Places.{fill_more, fill_all}
use Rattle.labels.proofs.fill.Goals as goal

pub loop-i-preserved : goal.loop-i-preserved
loop-i-preserved c = fill_more c.args.targets.now c.loop-i.i c.loop-i.places (record { number = 0; range = 0 }) _ c.at_position.ensures c.loop-i-test.true (omega arith) c.loop-i.invariant

pub returns : goal.returns
returns c = fill_all c.args.targets.now c.loop-i.i c.loop-i.places c.loop-i-test.false (omega arith) c.loop-i.invariant
