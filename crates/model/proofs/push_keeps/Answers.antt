use Rattle.model.proofs.Pushing.{push_forms, push_adds}
use Rattle.model.proofs.push_keeps.Goals as goal

pub returns : goal.returns
returns g c = record { forms = push_forms g.K.Kind.kind; items = push_adds g.K.Kind.kind }
