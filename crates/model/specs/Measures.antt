-- What a row of items comes to, and that a tree's stored totals are right. Assumes nothing.
use Rattle.std.specs.Prelude.{◌≡◌, true, List, [], ◌∷◌, ◌++◌}
use Rattle.std.specs.List.{AllByRecursion}
use Rattle.kinds.specs.Algebra.{Algebra}
use Rattle.model.specs.Tree.{Node, leaf, two, three, gap, Tree, none, single, deep, torn, Side, front, back, items_node, run, items}

abbrev pub Admitted : {I T Q : Type 0} → Algebra I T Q → List I → Type 0
Admitted k xs = AllByRecursion (λ x. k.admitted x ≡ true) xs

abbrev pub total : {I T Q : Type 0} → Algebra I T Q → List I → T
total q [] = q.nothing
total q (x ∷ xs) = q.joined (q.measure x) (total q xs)

abbrev pub MeasuredNode : {I T Q : Type 0} → Algebra I T Q → Node I T → Type 0
MeasuredNode q (leaf x) = Unit {0}
MeasuredNode q (two t n a b) = (t ≡ total q (items_node a ++ items_node b)) × (MeasuredNode q a × MeasuredNode q b)
MeasuredNode q (three t n a b c) = (t ≡ total q (items_node a ++ (items_node b ++ items_node c))) × (MeasuredNode q a × (MeasuredNode q b × MeasuredNode q c))
MeasuredNode q gap = Unit {0}

abbrev pub MeasuredEach : {I T Q : Type 0} → Algebra I T Q → List (Node I T) → Type 0
MeasuredEach q [] = Unit {0}
MeasuredEach q (a ∷ more) = MeasuredNode q a × MeasuredEach q more

abbrev pub Measured : {I T Q : Type 0} → Algebra I T Q → Tree I T → Type 0
Measured q none = Unit {0}
Measured q (single a) = MeasuredNode q a
Measured q (deep t n f m b) = (t ≡ total q (run front f ++ (items m ++ run back b))) × (MeasuredEach q f × (Measured q m × MeasuredEach q b))
Measured q torn = Unit {0}

-- the stored totals
abbrev pub sum_node : {I T Q : Type 0} → Algebra I T Q → Node I T → T
sum_node q (leaf x) = q.measure x
sum_node q (two t n a b) = t
sum_node q (three t n a b c) = t
sum_node q gap = q.nothing

abbrev pub toward : {I T Q : Type 0} → Algebra I T Q → Side → T → T → T
toward q front x y = q.joined x y
toward q back x y = q.joined y x

abbrev pub sum_run : {I T Q : Type 0} → Algebra I T Q → Side → List (Node I T) → T
sum_run q s [] = q.nothing
sum_run q s (a ∷ more) = toward q s (sum_node q a) (sum_run q s more)

abbrev pub sum : {I T Q : Type 0} → Algebra I T Q → Tree I T → T
sum q none = q.nothing
sum q (single a) = sum_node q a
sum q (deep t n f m b) = t
sum q torn = q.nothing

-- every stored total is fair
abbrev pub FairNode : {I T Q : Type 0} → Algebra I T Q → Node I T → Type 0
FairNode k (leaf x) = k.fair (k.measure x)
FairNode k (two t n a b) = k.fair t × (FairNode k a × FairNode k b)
FairNode k (three t n a b c) = k.fair t × (FairNode k a × (FairNode k b × FairNode k c))
FairNode k gap = Unit {0}

abbrev pub Fair : {I T Q : Type 0} → Algebra I T Q → Tree I T → Type 0
Fair k none = Unit {0}
Fair k (single a) = FairNode k a
Fair k (deep t n f m b) = k.fair t × (AllByRecursion (FairNode k) f × (Fair k m × AllByRecursion (FairNode k) b))
Fair k torn = Unit {0}
