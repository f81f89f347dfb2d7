-- A kind as one record of what it answers, and its laws as another. Assumes nothing.
use Rattle.std.specs.Prelude.{◌≡◌, ℕ, ◌≤◌, Bool, true}

-- `fair` are the totals that the kind's type can hold; numbers here have no end, and those of a type do.
pub record Algebra (I T Q : Type 0) : Type 1 where
  pub admitted : I → Bool
  pub nothing : T
  pub measure : I → T
  pub joined : T → T → T
  pub met : T → Q → Bool
  pub fair : T → Type 0
  pub limit : ℕ

-- The laws are owed of fair totals alone, and what comes of admitted items is fair.
pub record Laws {I T Q : Type 0} (k : Algebra I T Q) : Type 0 where
  -- joining is associative
  pub assoc : (x y z : T) → k.fair x → k.fair y → k.fair z → k.joined (k.joined x y) z ≡ k.joined x (k.joined y z)
  -- nothing is neutral, on either side
  pub left : (x : T) → k.fair x → k.joined k.nothing x ≡ x
  pub right : (x : T) → k.fair x → k.joined x k.nothing ≡ x
  -- a question met by x is met by x joined with any y
  pub grows : (x y : T) (q : Q) → k.fair x → k.met x q ≡ true → k.met (k.joined x y) q ≡ true
  -- what is fair
  pub none : k.fair k.nothing
  pub single : (i : I) → k.admitted i ≡ true → k.fair (k.measure i)
  pub closed : (x y : T) → k.fair x → k.fair y → k.fair (k.joined x y)
  -- from 1 to 65,535 items to a list
  pub some : 1 ≤ k.limit
  pub few : k.limit ≤ 65535
