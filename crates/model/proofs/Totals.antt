-- What a kind's laws give of totals. Assumes nothing.
use Rattle.std.proofs.Common.{◌≡◌, true, List, [], ◌∷◌, ◌++◌, sym, refl, ap, ◌∙◌, subst, ap₂}
use Rattle.std.specs.List.{AllByRecursion}
use Rattle.std.proofs.ByRecursion.{All-append}
use Rattle.kinds.specs.Algebra.{Algebra, Laws}
use Rattle.model.specs.Tree.{Node, leaf, two, three, gap, Tree, none, single, deep, torn, Side, front, back, items_node, run, items}
use Rattle.model.specs.Measures.{Admitted, total, MeasuredNode, MeasuredEach, Measured, sum_node, sum_run, sum, FairNode, Fair}
use Rattle.model.specs.Ends.{make2, make3, make, three_at, deep_at}
use Rattle.model.specs.Statements.{Sound, TotalsJoin, TotalsFair}

-- what holds of each of xs ++ ys holds of each of both
pub all_apart : {A : Type 0} (P : A → Type 0) (xs ys : List A) → AllByRecursion P (xs ++ ys) → AllByRecursion P xs × AllByRecursion P ys
all_apart P [] ys h = (tt, h)
all_apart P (x ∷ xs) ys h = let r = all_apart P xs ys h.1 in ((h.0, r.0), r.1)

-- measured, with each item admitted, in one
abbrev pub WeighedNode : {I T Q : Type 0} → Algebra I T Q → Node I T → Type 0
WeighedNode k (leaf x) = k.admitted x ≡ true
WeighedNode k (two t n a b) = (t ≡ total k (items_node a ++ items_node b)) × (WeighedNode k a × WeighedNode k b)
WeighedNode k (three t n a b c) = (t ≡ total k (items_node a ++ (items_node b ++ items_node c))) × (WeighedNode k a × (WeighedNode k b × WeighedNode k c))
WeighedNode k gap = Unit {0}

abbrev pub WeighedEach : {I T Q : Type 0} → Algebra I T Q → List (Node I T) → Type 0
WeighedEach k ds = AllByRecursion (WeighedNode k) ds

abbrev pub Weighed : {I T Q : Type 0} → Algebra I T Q → Tree I T → Type 0
Weighed k none = Unit {0}
Weighed k (single a) = WeighedNode k a
Weighed k (deep t n f m b) = (t ≡ total k (run front f ++ (items m ++ run back b))) × (WeighedEach k f × (Weighed k m × WeighedEach k b))
Weighed k torn = Unit {0}

module _ {I T Q : Type 0} (k : Algebra I T Q) where
  abbrev Good : I → Type 0
  Good x = k.admitted x ≡ true

  pub admits_append : (xs ys : List I) → Admitted k xs → Admitted k ys → Admitted k (xs ++ ys)
  admits_append xs ys u v = All-append Good xs ys u v

  pub admits_node : (a : Node I T) → WeighedNode k a → Admitted k (items_node a)
  admits_node (leaf x) w = (w, tt)
  admits_node (two t n a b) w = admits_append (items_node a) (items_node b) (admits_node a w.1.0) (admits_node b w.1.1)
  admits_node (three t n a b c) w = admits_append (items_node a) (items_node b ++ items_node c) (admits_node a w.1.0) (admits_append (items_node b) (items_node c) (admits_node b w.1.1.0) (admits_node c w.1.1.1))
  admits_node gap w = tt

  pub admits_run : (s : Side) (ds : List (Node I T)) → WeighedEach k ds → Admitted k (run s ds)
  admits_run s [] w = tt
  admits_run front (a ∷ more) w = admits_append (items_node a) (run front more) (admits_node a w.0) (admits_run front more w.1)
  admits_run back (a ∷ more) w = admits_append (run back more) (items_node a) (admits_run back more w.1) (admits_node a w.0)

  pub admits : (t : Tree I T) → Weighed k t → Admitted k (items t)
  admits none w = tt
  admits (single a) w = admits_node a w
  admits (deep t n f m b) w = admits_append (run front f) (items m ++ run back b) (admits_run front f w.1.0) (admits_append (items m) (run back b) (admits m w.1.1.0) (admits_run back b w.1.1.1))
  admits torn w = tt

  measured_node : (a : Node I T) → WeighedNode k a → MeasuredNode k a
  measured_node (leaf x) w = tt
  measured_node (two t n a b) w = (w.0, (measured_node a w.1.0, measured_node b w.1.1))
  measured_node (three t n a b c) w = (w.0, (measured_node a w.1.0, (measured_node b w.1.1.0, measured_node c w.1.1.1)))
  measured_node gap w = tt

  measured_each : (ds : List (Node I T)) → WeighedEach k ds → MeasuredEach k ds
  measured_each [] w = tt
  measured_each (a ∷ more) w = (measured_node a w.0, measured_each more w.1)

  measured : (t : Tree I T) → Weighed k t → Measured k t
  measured none w = tt
  measured (single a) w = measured_node a w
  measured (deep t n f m b) w = (w.0, (measured_each f w.1.0, (measured m w.1.1.0, measured_each b w.1.1.1)))
  measured torn w = tt

  pub sound : (t : Tree I T) → Weighed k t → Sound k t
  sound t w = (measured t w, admits t w)

  weighed_node : (a : Node I T) → MeasuredNode k a → Admitted k (items_node a) → WeighedNode k a
  weighed_node (leaf x) w h = h.0
  weighed_node (two t n a b) w h = let p = all_apart Good (items_node a) (items_node b) h in (w.0, (weighed_node a w.1.0 p.0, weighed_node b w.1.1 p.1))
  weighed_node (three t n a b c) w h =
      let p = all_apart Good (items_node a) (items_node b ++ items_node c) h in
      let r = all_apart Good (items_node b) (items_node c) p.1 in
      (w.0, (weighed_node a w.1.0 p.0, (weighed_node b w.1.1.0 r.0, weighed_node c w.1.1.1 r.1)))
  weighed_node gap w h = tt

  weighed_each : (s : Side) (ds : List (Node I T)) → MeasuredEach k ds → Admitted k (run s ds) → WeighedEach k ds
  weighed_each s [] w h = tt
  weighed_each front (a ∷ more) w h = let p = all_apart Good (items_node a) (run front more) h in (weighed_node a w.0 p.0, weighed_each front more w.1 p.1)
  weighed_each back (a ∷ more) w h = let p = all_apart Good (run back more) (items_node a) h in (weighed_node a w.0 p.1, weighed_each back more w.1 p.0)

  pub weighed : (t : Tree I T) → Sound k t → Weighed k t
  weighed none w = tt
  weighed (single a) w = weighed_node a w.0 w.1
  weighed (deep t n f m b) w =
      let p = all_apart Good (run front f) (items m ++ run back b) w.1 in
      let r = all_apart Good (items m) (run back b) p.1 in
      (w.0.0, (weighed_each front f w.0.1.0 p.0, (weighed m (w.0.1.1.0, r.0), weighed_each back b w.0.1.1.1 r.1)))
  weighed torn w = tt

module _ {I T Q : Type 0} {k : Algebra I T Q} (laws : Laws k) where
  pub fair_total : (xs : List I) → Admitted k xs → k.fair (total k xs)
  fair_total [] h = laws.none
  fair_total (x ∷ xs) h = laws.closed _ _ (laws.single x h.0) (fair_total xs h.1)

  pub total_append : TotalsJoin k
  total_append [] ys h i = sym (laws.left _ (fair_total ys i))
  total_append (x ∷ xs) ys h i = ap (k.joined (k.measure x)) (total_append xs ys h.1 i) ∙ sym (laws.assoc _ _ _ (laws.single x h.0) (fair_total xs h.1) (fair_total ys i))

  pub sum_node_is : (a : Node I T) → WeighedNode k a → sum_node k a ≡ total k (items_node a)
  sum_node_is (leaf x) w = sym (laws.right _ (laws.single x w))
  sum_node_is (two t n a b) w = w.0
  sum_node_is (three t n a b c) w = w.0
  sum_node_is gap w = refl

  pub sum_run_is : (s : Side) (ds : List (Node I T)) → WeighedEach k ds → sum_run k s ds ≡ total k (run s ds)
  sum_run_is s [] w = refl
  sum_run_is front (a ∷ more) w = ap₂ k.joined (sum_node_is a w.0) (sum_run_is front more w.1) ∙ sym (total_append (items_node a) (run front more) (admits_node k a w.0) (admits_run k front more w.1))
  sum_run_is back (a ∷ more) w = ap₂ k.joined (sum_run_is back more w.1) (sum_node_is a w.0) ∙ sym (total_append (run back more) (items_node a) (admits_run k back more w.1) (admits_node k a w.0))

  pub sum_is : (t : Tree I T) → Weighed k t → sum k t ≡ total k (items t)
  sum_is none w = refl
  sum_is (single a) w = sum_node_is a w
  sum_is (deep t n f m b) w = w.0
  sum_is torn w = refl

  -- three totals are joined
  total_three : {x y z : T} (xs ys zs : List I) → Admitted k xs → Admitted k ys → Admitted k zs → x ≡ total k xs → y ≡ total k ys → z ≡ total k zs → k.joined x (k.joined y z) ≡ total k (xs ++ (ys ++ zs))
  total_three xs ys zs h i j u v w = ap₂ k.joined u (ap₂ k.joined v w ∙ sym (total_append ys zs i j)) ∙ sym (total_append xs (ys ++ zs) h (admits_append k ys zs i j))

  pub weighed_two : (a b : Node I T) → WeighedNode k a → WeighedNode k b → WeighedNode k (make2 k a b)
  weighed_two a b u v = (ap₂ k.joined (sum_node_is a u) (sum_node_is b v) ∙ sym (total_append (items_node a) (items_node b) (admits_node k a u) (admits_node k b v)), (u, v))

  pub weighed_three : (a b c : Node I T) → WeighedNode k a → WeighedNode k b → WeighedNode k c → WeighedNode k (make3 k a b c)
  weighed_three a b c u v w = (total_three (items_node a) (items_node b) (items_node c) (admits_node k a u) (admits_node k b v) (admits_node k c w) (sum_node_is a u) (sum_node_is b v) (sum_node_is c w), (u, (v, w)))

  pub weighed_three_at : (s : Side) (a b c : Node I T) → WeighedNode k a → WeighedNode k b → WeighedNode k c → WeighedNode k (three_at k s a b c)
  weighed_three_at front a b c u v w = weighed_three a b c u v w
  weighed_three_at back a b c u v w = weighed_three c b a w v u

  pub weighed_deep : (f : List (Node I T)) (m : Tree I T) (b : List (Node I T)) → WeighedEach k f → Weighed k m → WeighedEach k b → Weighed k (make k f m b)
  weighed_deep f m b u v w = (total_three (run front f) (items m) (run back b) (admits_run k front f u) (admits k m v) (admits_run k back b w) (sum_run_is front f u) (sum_is m v) (sum_run_is back b w), (u, (v, w)))

  pub weighed_deep_at : (s : Side) (ds : List (Node I T)) (m : Tree I T) (far : List (Node I T)) → WeighedEach k ds → Weighed k m → WeighedEach k far → Weighed k (deep_at k s ds m far)
  weighed_deep_at front ds m far u v w = weighed_deep ds m far u v w
  weighed_deep_at back ds m far u v w = weighed_deep far m ds w v u

  fair_node : (a : Node I T) → WeighedNode k a → FairNode k a
  fair_node (leaf x) w = laws.single x w
  fair_node (two t n a b) w = (subst k.fair (sym w.0) (fair_total (items_node a ++ items_node b) (admits_node k (two t n a b) w)), (fair_node a w.1.0, fair_node b w.1.1))
  fair_node (three t n a b c) w = (subst k.fair (sym w.0) (fair_total (items_node a ++ (items_node b ++ items_node c)) (admits_node k (three t n a b c) w)), (fair_node a w.1.0, (fair_node b w.1.1.0, fair_node c w.1.1.1)))
  fair_node gap w = tt

  fair_each : (ds : List (Node I T)) → WeighedEach k ds → AllByRecursion (FairNode k) ds
  fair_each [] w = tt
  fair_each (a ∷ more) w = (fair_node a w.0, fair_each more w.1)

  fair_tree : (t : Tree I T) → Weighed k t → Fair k t
  fair_tree none w = tt
  fair_tree (single a) w = fair_node a w
  fair_tree (deep t n f m b) w = (subst k.fair (sym w.0) (fair_total (run front f ++ (items m ++ run back b)) (admits k (deep t n f m b) w)), (fair_each f w.1.0, (fair_tree m w.1.1.0, fair_each b w.1.1.1)))
  fair_tree torn w = tt

  pub fair_sum : (t : Tree I T) → Weighed k t → k.fair (sum k t)
  fair_sum t w = subst k.fair (sym (sum_is t w)) (fair_total (items t) (admits k t w))

  pub fair_run : (s : Side) (ds : List (Node I T)) → WeighedEach k ds → k.fair (sum_run k s ds)
  fair_run s ds w = subst k.fair (sym (sum_run_is s ds w)) (fair_total (run s ds) (admits_run k s ds w))

  pub totals_fair : TotalsFair k
  totals_fair t w = let v = weighed k t w in (fair_tree t v, sum_is t v)
