-- What is done at the ends of a tree. Assumes nothing.
use Rattle.std.specs.Prelude.{◌+◌, List, [], ◌∷◌}
use Rattle.model.specs.Tree.{Node, leaf, two, three, gap, Tree, none, single, deep, torn, Side, front, back, count_node, count_run, count}
use Rattle.kinds.specs.Algebra.{Algebra}
use Rattle.model.specs.Measures.{sum_node, sum_run, sum}

abbrev pub make2 : {I T Q : Type 0} → Algebra I T Q → Node I T → Node I T → Node I T
make2 q a b = two (q.joined (sum_node q a) (sum_node q b)) (count_node a + count_node b) a b

abbrev pub make3 : {I T Q : Type 0} → Algebra I T Q → Node I T → Node I T → Node I T → Node I T
make3 q a b c = three (q.joined (sum_node q a) (q.joined (sum_node q b) (sum_node q c))) (count_node a + (count_node b + count_node c)) a b c

abbrev pub make : {I T Q : Type 0} → Algebra I T Q → List (Node I T) → Tree I T → List (Node I T) → Tree I T
make q f m b = deep (q.joined (sum_run q front f) (q.joined (sum q m) (sum_run q back b))) (count_run f + (count m + count_run b)) f m b

-- the first is the nearest to the side
abbrev pub three_at : {I T Q : Type 0} → Algebra I T Q → Side → Node I T → Node I T → Node I T → Node I T
three_at q front a b c = make3 q a b c
three_at q back a b c = make3 q c b a

abbrev pub deep_at : {I T Q : Type 0} → Algebra I T Q → Side → List (Node I T) → Tree I T → List (Node I T) → Tree I T
deep_at q front near m far = make q near m far
deep_at q back near m far = make q far m near

abbrev pub near : {A : Type 0} → Side → A → A → A
near front f b = f
near back f b = b

abbrev pub other : Side → Side
other front = back
other back = front

-- a list of four, or any other
pub data Fill (A : Type 0) : Type 0 where
  room : Fill A
  full : A → A → A → A → Fill A

abbrev pub fill : {A : Type 0} → List A → Fill A
fill [] = room
fill (a ∷ []) = room
fill (a ∷ b ∷ []) = room
fill (a ∷ b ∷ c ∷ []) = room
fill (a ∷ b ∷ c ∷ d ∷ []) = full a b c d
fill (a ∷ b ∷ c ∷ d ∷ e ∷ more) = room

-- one finger more at the side; `into` puts a node into the middle
abbrev pub grow : {I T Q : Type 0} → Algebra I T Q → Side → Node I T → Fill (Node I T) → List (Node I T) → Tree I T → List (Node I T) → (Node I T → Tree I T) → Tree I T
grow q s x room ds m far into = deep_at q s (x ∷ ds) m far
grow q s x (full a b c d) ds m far into = deep_at q s (x ∷ a ∷ []) (into (three_at q s b c d)) far

abbrev pub push : {I T Q : Type 0} → Algebra I T Q → Side → Node I T → Tree I T → Tree I T
push q s x none = single x
push q s x (single y) = deep_at q s (x ∷ []) none (y ∷ [])
push q s x (deep t n f m b) = grow q s x (fill (near s f b)) (near s f b) m (near (other s) f b) (λ y. push q s y m)
push q s x torn = torn

-- fingers listed from the side, as a tree
abbrev pub tree_of : {I T Q : Type 0} → Algebra I T Q → Side → List (Node I T) → Tree I T
tree_of q s [] = none
tree_of q s (a ∷ more) = push q s a (tree_of q s more)

-- the parts of a node, listed from the side
abbrev pub fingers : {I T : Type 0} → Side → Node I T → List (Node I T)
fingers front (leaf x) = []
fingers front (two t n a b) = a ∷ b ∷ []
fingers front (three t n a b c) = a ∷ b ∷ c ∷ []
fingers front gap = []
fingers back (leaf x) = []
fingers back (two t n a b) = b ∷ a ∷ []
fingers back (three t n a b c) = c ∷ b ∷ a ∷ []
fingers back gap = []

pub data Popped (I T : Type 0) : Type 0 where
  empty : Popped I T
  got : Node I T → Tree I T → Popped I T

-- the tree whose digit at the side may be empty; the last is what a pop of the middle gives
abbrev pub trim : {I T Q : Type 0} → Algebra I T Q → Side → List (Node I T) → Tree I T → List (Node I T) → Popped I T → Tree I T
trim q s [] m far empty = tree_of q (other s) far
trim q s [] m far (got a rest) = deep_at q s (fingers s a) rest far
trim q s (a ∷ more) m far r = deep_at q s (a ∷ more) m far

abbrev pub take_near : {I T Q : Type 0} → Algebra I T Q → Side → List (Node I T) → Tree I T → List (Node I T) → Popped I T → Popped I T
take_near q s [] m far r = empty
take_near q s (a ∷ more) m far r = got a (trim q s more m far r)

abbrev pub pop : {I T Q : Type 0} → Algebra I T Q → Side → Tree I T → Popped I T
pop q s none = empty
pop q s (single x) = got x none
pop q s (deep t n f m b) = take_near q s (near s f b) m (near (other s) f b) (pop q s m)
pop q s torn = empty
