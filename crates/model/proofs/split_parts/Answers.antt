use Rattle.model.proofs.Splitting.{split_keeps, split_measures}
use Rattle.model.proofs.split_parts.Goals as goal

pub returns : goal.returns
returns g c = record { keeps = split_keeps g.K.Kind.kind; measures = split_measures g.met.K.Kind.lawful }
