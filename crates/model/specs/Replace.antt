-- A tree with another item at a position. Assumes nothing.
use Rattle.std.specs.Prelude.{ℕ, zero, suc, ◌-◌, List, [], ◌∷◌, nat_lt}
use Rattle.model.specs.Tree.{Node, leaf, gap, Tree, none, single, deep, torn, front, count_node, count_run, count}
use Rattle.kinds.specs.Algebra.{Algebra}
use Rattle.model.specs.Ends.{make2, make3, make, fingers}
use Rattle.model.specs.Append.{onto}
use Rattle.model.specs.Split.{choose}

-- fingers listed from the left, of which f changes the one that has the position i
abbrev pub swap : {I T : Type 0} → (ℕ → Node I T → Node I T) → ℕ → List (Node I T) → List (Node I T)
swap f i [] = []
swap f i (a ∷ more) = choose (nat_lt i (count_node a)) (f i a ∷ more) (a ∷ swap f (i - count_node a) more)

-- two or three nodes as one
abbrev pub regroup : {I T Q : Type 0} → Algebra I T Q → List (Node I T) → Node I T
regroup q [] = gap
regroup q (a ∷ []) = gap
regroup q (a ∷ b ∷ []) = make2 q a b
regroup q (a ∷ b ∷ c ∷ []) = make3 q a b c
regroup q (a ∷ b ∷ c ∷ d ∷ more) = gap

-- the node of depth k with x at the position i
unfoldable pub replaced_node : {I T Q : Type 0} → Algebra I T Q → I → ℕ → ℕ → Node I T → Node I T
replaced_node q x zero i a = leaf x
replaced_node q x (suc k) i a = regroup q (swap (replaced_node q x k) i (fingers front a))

-- the tree at depth k with x at the position i
abbrev pub replaced : {I T Q : Type 0} → Algebra I T Q → I → ℕ → ℕ → Tree I T → Tree I T
replaced q x k i none = none
replaced q x k i (single a) = single (replaced_node q x k i a)
replaced q x k i (deep t n f m b) =
    choose (nat_lt i (count_run f)) (make q (swap (replaced_node q x k) i f) m b)
    (choose (nat_lt (i - count_run f) (count m)) (make q f (replaced q x (suc k) (i - count_run f) m) b)
    (make q f m (onto (swap (replaced_node q x k) (i - count_run f - count m) (onto b [])) [])))
replaced q x k i torn = torn
