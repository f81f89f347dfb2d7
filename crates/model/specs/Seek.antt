-- The first item by which a question is met, and what stands before it. Assumes nothing.
use Rattle.std.specs.Prelude.{◌≡◌, ℕ, suc, ◌<◌, true, false, List, [], ◌∷◌, length, take, slice_index_or}
use Rattle.kinds.specs.Algebra.{Algebra}
use Rattle.model.specs.Measures.{total}
use Rattle.model.specs.Split.{choose}

-- an item's position, and the total of those before it
pub data Sought (T : Type 0) : Type 0 where
  missed : Sought T
  found : ℕ → T → Sought T

-- `n` items stand before, which come to `acc`
abbrev pub seek_from : {I T Q : Type 0} → Algebra I T Q → Q → ℕ → T → List I → Sought T
seek_from k q n acc [] = missed
seek_from k q n acc (x ∷ xs) = let next = k.joined acc (k.measure x) in choose (k.met next q) (found n acc) (seek_from k q (suc n) next xs)

abbrev pub seek : {I T Q : Type 0} → Algebra I T Q → Q → List I → Sought T
seek k q xs = seek_from k q 0 k.nothing xs

-- j is the least such that the first j + 1 items meet the question, and t is what the first j come to
pub record Least {I T Q : Type 0} (k : Algebra I T Q) (q : Q) (xs : List I) (j : ℕ) (t : T) : Type 0 where
  pub within : j < length xs
  pub before : t ≡ total k (take j xs)
  pub met : k.met (total k (take (suc j) xs)) q ≡ true
  pub unmet : (i : ℕ) → i < j → k.met (total k (take (suc i) xs)) q ≡ false

abbrev pub WellSought : {I T Q : Type 0} → Algebra I T Q → Q → List I → Sought T → Type 0
WellSought k q xs missed = (i : ℕ) → i < length xs → k.met (total k (take (suc i) xs)) q ≡ false
WellSought k q xs (found j t) = Least k q xs j t

-- as many items, of the same measure at each position
pub record Alike {I T Q : Type 0} (k : Algebra I T Q) (xs ys : List I) : Type 0 where
  pub long : length xs ≡ length ys
  pub same : (i : ℕ) (d : I) → k.measure (slice_index_or xs i d) ≡ k.measure (slice_index_or ys i d)
