use Rattle.model.proofs.Replacing.{replaced_keeps}
use Rattle.model.proofs.replaced_keeps.Goals as goal

pub returns : goal.returns
returns g c = replaced_keeps g.K.Kind.kind
