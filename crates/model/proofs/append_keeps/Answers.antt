use Rattle.model.proofs.Appending.{append_keeps}
use Rattle.model.proofs.append_keeps.Goals as goal

pub returns : goal.returns
returns g c = append_keeps g.K.Kind.kind
