use Rattle.model.proofs.Popping.{pop_keeps}
use Rattle.model.proofs.pop_keeps.Goals as goal

pub returns : goal.returns
returns g c = pop_keeps g.K.Kind.kind
