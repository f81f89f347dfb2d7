use Rattle.labels.proofs.Sorts.{arranged}
use Rattle.labels.proofs.arrange.Goals as goal

pub returns : goal.returns
returns c = arranged c.args.targets.now c.fill.new.places c.sort_unstable.new.self c.fill.ensures c.sort_unstable.ensures.permutation c.sort_unstable.ensures.sorted
