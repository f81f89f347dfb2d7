use Rattle.model.proofs.Seeking.{alike_seeks}
use Rattle.seeks.proofs.seek.alike_sought.Goals as goal

pub returns : goal.returns
returns g c = λ q xs ys a. (alike_seeks g.K.Kind.kind xs ys a).1 q 0 g.K.Kind.kind.nothing
