use Rattle.std.proofs.Common.{ap, ◌∙◌}
use Rattle.model.specs.Tree.{formed}
use Rattle.lists.proofs.tests.popped.Goals as goal

pub returns-clause-stays : goal.returns-clause-stays
returns-clause-stays g c = λ old whole. ap (formed old.levels 0) (c.in-Some.ensures.given.made.stays old whole) ∙ whole
