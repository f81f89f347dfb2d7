-- What an Ok says of the tests before it. Assumes nothing.
use Rattle.std.proofs.Common.{◌≡◌, ℕ, Bool, true, false, cond, Ok, Err, Result, refl, arith}

pub never : {A B : Type 0} (x : A) (y : B) → Err x ≡ Ok y → ⊥
never x y e = let z : ◌≡◌ {A = ℕ} 0 1 = cc in omega arith

pub same_ok : {A B : Type 0} {x y : A} → ◌≡◌ {A = Result A B} (Ok x) (Ok y) → x ≡ y
same_ok e = cc

pub cond_ok : {A B : Type 0} (b : Bool) (x : Result A B) (f : B) (d : A) → cond b x (Err f) ≡ Ok d → (b ≡ true) × (x ≡ Ok d)
cond_ok true x f d e = (refl, e)
cond_ok false x f d e = absurd (never _ _ e)

pub cond_ok_else : {A B : Type 0} (b : Bool) (x : Result A B) (f : B) (d : A) → cond b (Err f) x ≡ Ok d → (b ≡ false) × (x ≡ Ok d)
cond_ok_else true x f d e = absurd (never _ _ e)
cond_ok_else false x f d e = (refl, e)
