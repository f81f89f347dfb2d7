use Rattle.std.proofs.Common.{◌≡◌, ℕ, zero, suc, false, get_or, replicate, refl}
use Rattle.planfile.proofs.numbers.Numbers.none.Goals as goal

none_at : (size n : ℕ) → get_or (replicate size false) n false ≡ false
none_at zero n = refl
none_at (suc size) zero = refl
none_at (suc size) (suc n) = none_at size n

pub returns : goal.returns
returns c = none_at 10000
