-- Two trees with loose nodes between them as one. Assumes nothing.
use Rattle.std.specs.Prelude.{List, [], ◌∷◌, ◌++◌}
use Rattle.model.specs.Tree.{Node, Tree, none, single, deep, torn, Side, front, back}
use Rattle.kinds.specs.Algebra.{Algebra}
use Rattle.model.specs.Ends.{make2, make3, make, push}

-- the first list turned round, before the second
abbrev pub onto : {A : Type 0} → List A → List A → List A
onto [] ys = ys
onto (x ∷ xs) ys = onto xs (x ∷ ys)

-- nodes listed from the side, all pushed
abbrev pub pushed : {I T Q : Type 0} → Algebra I T Q → Side → List (Node I T) → Tree I T → Tree I T
pushed q s [] t = t
pushed q s (a ∷ more) t = push q s a (pushed q s more t)

-- nodes from left to right, two or more, in threes and twos
abbrev pub group : {I T Q : Type 0} → Algebra I T Q → List (Node I T) → List (Node I T)
group q [] = []
group q (a ∷ []) = []
group q (a ∷ b ∷ []) = make2 q a b ∷ []
group q (a ∷ b ∷ c ∷ []) = make3 q a b c ∷ []
group q (a ∷ b ∷ c ∷ d ∷ []) = make2 q a b ∷ make2 q c d ∷ []
group q (a ∷ b ∷ c ∷ d ∷ e ∷ more) = make3 q a b c ∷ group q (d ∷ e ∷ more)

-- `loose` is listed from the left
abbrev pub append : {I T Q : Type 0} → Algebra I T Q → Tree I T → List (Node I T) → Tree I T → Tree I T
append q none loose u = pushed q front loose u
append q (single x) loose u = push q front x (pushed q front loose u)
append q (deep y n f m b) loose none = pushed q back (onto loose []) (deep y n f m b)
append q (deep y n f m b) loose (single x) = push q back x (pushed q back (onto loose []) (deep y n f m b))
append q (deep y n f m b) loose (deep z o g r e) = make q f (append q m (group q (onto b (loose ++ g))) r) e
append q (deep y n f m b) loose torn = torn
append q torn loose u = torn
