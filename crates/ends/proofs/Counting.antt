-- How many items a push leaves. Assumes nothing.
use Rattle.std.proofs.Common.{◌≡◌, ℕ, suc, ◌+◌, List, [], ◌∷◌, refl, ap, arith}
use Rattle.model.specs.Tree.{Node, Tree, none, single, deep, torn, Side, front, back, count_node, count_run, count}
use Rattle.kinds.specs.Algebra.{Algebra}
use Rattle.model.specs.Ends.{three_at, deep_at, near, other, Fill, room, full, fill, grow, push}
use Rattle.model.specs.Forms.{Formed}
use Rattle.model.proofs.Sides.{fill_full}

module _ {I T Q : Type 0} (q : Algebra I T Q) (s : Side) where
  pub count_three_at : (a b c : Node I T) → count_node (three_at q s a b c) ≡ count_node a + (count_node b + count_node c)
  count_three_at a b c = elim s as (λ s. count_node (three_at q s a b c) ≡ count_node a + (count_node b + count_node c)) [ front ↦ refl | back ↦ omega arith ]

  pub count_deep_at : (ds : List (Node I T)) (m : Tree I T) (far : List (Node I T)) → count (deep_at q s ds m far) ≡ count_run ds + (count m + count_run far)
  count_deep_at ds m far = elim s as (λ s. count (deep_at q s ds m far) ≡ count_run ds + (count m + count_run far)) [ front ↦ refl | back ↦ omega arith ]

  count_sides : (f : List (Node I T)) (m : Tree I T) (b : List (Node I T)) → count_run f + (count m + count_run b) ≡ count_run (near s f b) + (count m + count_run (near (other s) f b))
  count_sides f m b = elim s as (λ s. count_run f + (count m + count_run b) ≡ count_run (near s f b) + (count m + count_run (near (other s) f b))) [ front ↦ refl | back ↦ omega arith ]

  grow_count : (x : Node I T) (v : Fill (Node I T)) (ds : List (Node I T)) → fill ds ≡ v → (m : Tree I T) (far : List (Node I T)) (into : Node I T → Tree I T) → ((y : Node I T) → count (into y) ≡ count_node y + count m) → count (grow q s x v ds m far into) ≡ count_node x + (count_run ds + (count m + count_run far))
  grow_count x room ds e m far into h = omega (arith, count_deep_at (x ∷ ds) m far)
  grow_count x (full a b c d) ds e m far into h =
      omega (arith, count_deep_at (x ∷ a ∷ []) (into (three_at q s b c d)) far, h (three_at q s b c d), count_three_at b c d, ap count_run (fill_full ds a b c d e))

  pub push_count : (k : ℕ) (x : Node I T) (t : Tree I T) → Formed k t → count (push q s x t) ≡ count_node x + count t
  push_count k x none w = omega arith
  push_count k x (single y) w = omega (arith, count_deep_at (x ∷ []) none (y ∷ []))
  push_count k x (deep t n f m b) w = omega (arith, grow_count x (fill (near s f b)) (near s f b) refl m (near (other s) f b) (λ y. push q s y m) (λ y. push_count (suc k) y m w.1.1.0), count_sides f m b, w.0)
  push_count k x torn w = elim w [ ]
