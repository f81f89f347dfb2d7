-- Counting a list of which just the first k pass, or of which fewer pass one test than another. Assumes nothing.
use Rattle.std.proofs.Common.{◌≡◌, ℕ, zero, suc, ◌<◌, ◌≤◌, Bool, true, false, cond, List, [], ◌∷◌, length, get_or, count_by, refl, ap, ◌∙◌, arith}
use Rattle.std.proofs.lemmas.List.Sums.{sum_by-cons, sum_by-le-sum_by}
use Rattle.std.proofs.lemmas.Bool.{false≢true}

pub count_first : {X : Type 0} (p : X → Bool) (xs : List X) (k : ℕ) → k ≤ length xs → ((i : ℕ) (d : X) → i < k → p (get_or xs i d) ≡ true) → ((i : ℕ) (d : X) → k ≤ i → i < length xs → p (get_or xs i d) ≡ false) → count_by p xs ≡ k
count_first p [] k h pass fail = omega arith
count_first p (x ∷ xs) zero h pass fail =
    let off : p x ≡ false = fail 0 x (omega arith) (omega arith) in
    let rest : count_by p xs ≡ 0 = count_first p xs 0 (omega arith) (λ i d l. absurd (omega arith)) (λ i d l m. fail (suc i) d (omega arith) (omega arith)) in
    sum_by-cons (λ y. cond (p y) 1 0) x xs ∙ rw (off, rest)
count_first p (x ∷ xs) (suc k) h pass fail =
    let on : p x ≡ true = pass 0 x (omega arith) in
    let rest : count_by p xs ≡ k = count_first p xs k (omega arith) (λ i d l. pass (suc i) d (omega arith)) (λ i d l m. fail (suc i) d (omega arith) (omega arith)) in
    sum_by-cons (λ y. cond (p y) 1 0) x xs ∙ rw (on, rest) (omega arith)

-- what passes p passes q
module _ {X : Type 0} (p q : X → Bool) (also : (x : X) → p x ≡ true → q x ≡ true) where
  one_le : (a b : Bool) → (a ≡ true → b ≡ true) → cond {A = ℕ} a 1 0 ≤ cond b 1 0
  one_le true true h = omega arith
  one_le true false h = absurd (false≢true (h refl))
  one_le false b h = omega arith

  count_le : (xs : List X) → count_by p xs ≤ count_by q xs
  count_le xs = sum_by-le-sum_by (λ x. cond (p x) 1 0) (λ x. cond (q x) 1 0) xs (λ x. one_le (p x) (q x) (also x))

  -- and where one passes q alone, more pass q
  pub count_less : (xs : List X) (i : ℕ) (d : X) → i < length xs → p (get_or xs i d) ≡ false → q (get_or xs i d) ≡ true → count_by p xs < count_by q xs
  count_less [] i d h off on = absurd (omega arith)
  count_less (x ∷ xs) zero d h off on =
      let none = ap (λ b. cond {A = ℕ} b 1 0) off in
      let one = ap (λ b. cond {A = ℕ} b 1 0) on in
      omega (arith, sum_by-cons (λ y. cond (p y) 1 0) x xs, sum_by-cons (λ y. cond (q y) 1 0) x xs, none, one, count_le xs)
  count_less (x ∷ xs) (suc i) d h off on =
      omega (arith, sum_by-cons (λ y. cond (p y) 1 0) x xs, sum_by-cons (λ y. cond (q y) 1 0) x xs, one_le (p x) (q x) (also x), count_less xs i d (omega arith) off on)
