use Rattle.sweep.proofs.Examples.{item_at}
use Rattle.sweep.proofs.tests.placed.Goals as goal

pub returns-clause-formed : goal.returns-clause-formed
returns-clause-formed g c = item_at _ _ _ c.take.ensures.holds
