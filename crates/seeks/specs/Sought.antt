-- What is sought, as the code gives it. Assumes nothing.
use Rattle.std.specs.Prelude.{◌≡◌, ℕ, ◌<◌, List, Option, Some, None}
use Rattle.kinds.specs.Algebra.{Algebra}
use Rattle.model.specs.Seek.{Sought, missed, found, seek, Alike}
use Rattle.seeks.specs.declared.seek.Found.{Found}

abbrev pub sought : {T : Type 0} → Option (Found T) → Sought T
sought None = missed
sought (Some f) = found f.position f.before

-- a position below n
abbrev pub Inside : {T : Type 0} → ℕ → Option (Found T) → Type 0
Inside n None = Unit {0}
Inside n (Some f) = f.position < n

abbrev pub AlikeSought : {I T Q : Type 0} → Algebra I T Q → Type 0
AlikeSought {I = I} {Q = Q} k = (q : Q) (xs ys : List I) → Alike k xs ys → seek k q xs ≡ seek k q ys
