-- A tree in two at the item at a position, found by the stored counts. Assumes nothing.
use Rattle.std.specs.Prelude.{ℕ, ◌-◌, Bool, true, false, List, [], ◌∷◌, nat_lt}
use Rattle.model.specs.Tree.{Node, gap, Tree, none, single, deep, torn, front, back, count_node, count_run, count}
use Rattle.kinds.specs.Algebra.{Algebra}
use Rattle.model.specs.Ends.{tree_of, fingers, trim, pop}
use Rattle.model.specs.Append.{onto}

abbrev pub choose : {A : Type 0} → Bool → A → A → A
choose true x y = x
choose false x y = y

-- the fingers before, listed from the right; the one that has the position; those after, listed from the left; the position within that one
pub data Cut (I T : Type 0) : Type 0 where
  cutting : List (Node I T) → Node I T → List (Node I T) → ℕ → Cut I T

-- fingers listed from the left, cut at the one that has the position i; `done` are those passed, listed from the right
abbrev pub cut : {I T : Type 0} → ℕ → List (Node I T) → List (Node I T) → Cut I T
cut i done [] = cutting done gap [] i
cut i done (a ∷ more) = choose (nat_lt i (count_node a)) (cutting done a more i) (cut (i - count_node a) (a ∷ done) more)

-- what stands before, the node that has the position, what stands after, and the position within that node
pub data Parts (I T : Type 0) : Type 0 where
  parts : Tree I T → Node I T → Tree I T → ℕ → Parts I T

-- a level that is cut at its front, at its back, and in a node of its middle
abbrev pub in_front : {I T Q : Type 0} → Algebra I T Q → Tree I T → List (Node I T) → Cut I T → Parts I T
in_front q m b (cutting d x r o) = parts (tree_of q back d) x (trim q front r m b (pop q front m)) o

abbrev pub in_back : {I T Q : Type 0} → Algebra I T Q → List (Node I T) → Tree I T → Cut I T → Parts I T
in_back q f m (cutting d x r o) = parts (trim q back d m f (pop q back m)) x (tree_of q front r) o

abbrev pub in_node : {I T Q : Type 0} → Algebra I T Q → List (Node I T) → Tree I T → Tree I T → List (Node I T) → Cut I T → Parts I T
in_node q f l r b (cutting d x e o) = parts (trim q back d l f (pop q back l)) x (trim q front e r b (pop q front r)) o

abbrev pub in_middle : {I T Q : Type 0} → Algebra I T Q → List (Node I T) → List (Node I T) → Parts I T → Parts I T
in_middle q f b (parts l a r o) = in_node q f l r b (cut o [] (fingers front a))

abbrev pub split : {I T Q : Type 0} → Algebra I T Q → ℕ → Tree I T → Parts I T
split q i none = parts none gap none i
split q i (single x) = parts none x none i
split q i (deep t n f m b) =
    let j = i - count_run f in
    choose (nat_lt i (count_run f)) (in_front q m b (cut i [] f)) (choose (nat_lt j (count m)) (in_middle q f b (split q j m)) (in_back q f m (cut (j - count m) [] (onto b []))))
split q i torn = parts torn gap torn i
