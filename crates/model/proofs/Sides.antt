-- What is the same at both ends. Assumes nothing.
use Rattle.std.proofs.Common.{◌≡◌, ℕ, suc, ◌<◌, ◌≤◌, List, [], ◌∷◌, ◌++◌, length, sym, refl, append_assoc, append-nil, arith}
use Rattle.model.specs.Tree.{Node, Tree, Side, front, back, along, items_node, run, items, levels}
use Rattle.kinds.specs.Algebra.{Algebra}
use Rattle.model.specs.Ends.{three_at, deep_at, near, other, room, full, fill}
use Rattle.model.specs.Forms.{FormedNode, Digit, Formed}

module _ {A : Type 0} where
  pub along_assoc : (s : Side) (x y z : List A) → along s (along s x y) z ≡ along s x (along s y z)
  along_assoc front x y z = append_assoc x y z
  along_assoc back x y z = sym (append_assoc z y x)

  pub along_nil : (s : Side) (x : List A) → along s x [] ≡ x
  along_nil front x = append-nil x
  along_nil back x = refl

  pub nil_along : (s : Side) (x : List A) → along s [] x ≡ x
  nil_along front x = refl
  nil_along back x = append-nil x

  pub fill_full : (ds : List A) (a b c d : A) → fill ds ≡ full a b c d → ds ≡ a ∷ b ∷ c ∷ d ∷ []
  fill_full [] a b c d e = cc
  fill_full (p ∷ []) a b c d e = cc
  fill_full (p ∷ q ∷ []) a b c d e = cc
  fill_full (p ∷ q ∷ r ∷ []) a b c d e = cc
  fill_full (p ∷ q ∷ r ∷ s ∷ []) a b c d e = cc
  fill_full (p ∷ q ∷ r ∷ s ∷ t ∷ more) a b c d e = cc

  pub fill_room : (ds : List A) → fill ds ≡ room → length ds ≤ 4 → length ds < 4
  fill_room [] e h = omega arith
  fill_room (p ∷ []) e h = omega arith
  fill_room (p ∷ q ∷ []) e h = omega arith
  fill_room (p ∷ q ∷ r ∷ []) e h = omega arith
  fill_room (p ∷ q ∷ r ∷ s ∷ []) e h = let z : ◌≡◌ {A = ℕ} 0 1 = cc in omega arith
  fill_room (p ∷ q ∷ r ∷ s ∷ t ∷ more) e h = omega arith

module _ {I T : Type 0} where
  pub items_three_at : {Q : Type 0} (q : Algebra I T Q) (s : Side) (a b c : Node I T) → items_node (three_at q s a b c) ≡ along s (items_node a) (along s (items_node b) (items_node c))
  items_three_at q front a b c = refl
  items_three_at q back a b c = sym (append_assoc (items_node c) (items_node b) (items_node a))

  pub items_deep_at : {Q : Type 0} (q : Algebra I T Q) (s : Side) (ds : List (Node I T)) (m : Tree I T) (far : List (Node I T)) → items (deep_at q s ds m far) ≡ along s (run s ds) (along s (items m) (run (other s) far))
  items_deep_at q front ds m far = refl
  items_deep_at q back ds m far = sym (append_assoc (run front far) (items m) (run back ds))

  pub items_sides : (s : Side) (f : List (Node I T)) (m : Tree I T) (b : List (Node I T)) → run front f ++ (items m ++ run back b) ≡ along s (run s (near s f b)) (along s (items m) (run (other s) (near (other s) f b)))
  items_sides front f m b = refl
  items_sides back f m b = sym (append_assoc (run front f) (items m) (run back b))

  pub formed_three_at : {Q : Type 0} (q : Algebra I T Q) (s : Side) (k : ℕ) (a b c : Node I T) → FormedNode k a → FormedNode k b → FormedNode k c → FormedNode (suc k) (three_at q s a b c)
  formed_three_at q front k a b c u v w = (refl, (u, (v, w)))
  formed_three_at q back k a b c u v w = (refl, (w, (v, u)))

  pub formed_deep_at : {Q : Type 0} (q : Algebra I T Q) (s : Side) (k : ℕ) (ds : List (Node I T)) (m : Tree I T) (far : List (Node I T)) → Digit k ds → Formed (suc k) m → Digit k far → Formed k (deep_at q s ds m far)
  formed_deep_at q front k ds m far u v w = (refl, (u, (v, w)))
  formed_deep_at q back k ds m far u v w = (refl, (w, (v, u)))

  pub levels_deep_at : {Q : Type 0} (q : Algebra I T Q) (s : Side) (ds : List (Node I T)) (m : Tree I T) (far : List (Node I T)) → levels (deep_at q s ds m far) ≡ suc (levels m)
  levels_deep_at q front ds m far = refl
  levels_deep_at q back ds m far = refl

  pub near_of : (P : List (Node I T) → Type 0) (s : Side) (f b : List (Node I T)) → P f → P b → P (near s f b)
  near_of P front f b u v = u
  near_of P back f b u v = v
