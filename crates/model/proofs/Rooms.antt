-- The right part of a split has space in front, so that a push there makes no level more. Assumes nothing.
use Rattle.std.proofs.Common.{ℕ, ◌-◌, ◌<◌, ◌≤◌, ltb, List, [], ◌∷◌, length, arith}
use Rattle.kinds.specs.Algebra.{Algebra}
use Rattle.model.specs.Tree.{Node, leaf, two, three, gap, Tree, none, single, deep, torn, front, back, count_node, count_run, count, items, levels}
use Rattle.model.specs.Ends.{push, tree_of, fingers, Popped, empty, got, trim, pop}
use Rattle.model.specs.Append.{onto}
use Rattle.model.specs.Split.{choose, Cut, cutting, cut, Parts, parts, in_front, in_back, in_node, in_middle, split}
use Rattle.model.specs.Forms.{Formed}
use Rattle.model.proofs.Appending.{length_onto}
use Rattle.model.proofs.Splitting.{either, WellParted, split_well}

module _ {I T : Type 0} where
  abbrev Roomy : Tree I T → Type 0
  Roomy none = Unit {0}
  Roomy (single x) = Unit {0}
  Roomy (deep t n f m b) = length f ≤ 3
  Roomy torn = Unit {0}

  -- at most n fingers come after a cut
  abbrev After : ℕ → Cut I T → Type 0
  After n (cutting d x r o) = length r ≤ n

  fewer : (m n : ℕ) (c : Cut I T) → m ≤ n → After m c → After n c
  fewer m n (cutting d x r o) l a = omega arith

  cut_after : (i : ℕ) (done ls : List (Node I T)) → After (length ls - 1) (cut i done ls)
  cut_after i done [] = omega arith
  cut_after i done (a ∷ more) =
      either (After (length (a ∷ more) - 1)) (ltb i (count_node a)) (cutting done a more i) (cut (i - count_node a) (a ∷ done) more) (omega arith) (fewer (length more - 1) (length (a ∷ more) - 1) (cut (i - count_node a) (a ∷ done) more) (omega arith) (cut_after (i - count_node a) (a ∷ done) more))

  fingers_few : (a : Node I T) → length (fingers front a) ≤ 3
  fingers_few (leaf x) = omega arith
  fingers_few (two t n a b) = omega arith
  fingers_few (three t n a b c) = omega arith
  fingers_few gap = omega arith

  module _ {Q : Type 0} (q : Algebra I T Q) where
    roomy_front : (ds : List (Node I T)) → length ds ≤ 3 → Roomy (tree_of q front ds)
    roomy_front [] l = tt
    roomy_front (a ∷ []) l = tt
    roomy_front (a ∷ b ∷ []) l = omega arith
    roomy_front (a ∷ b ∷ c ∷ []) l = omega arith
    roomy_front (a ∷ b ∷ c ∷ d ∷ more) l = absurd (omega arith)

    roomy_back : (ds : List (Node I T)) → length ds ≤ 4 → Roomy (tree_of q back ds)
    roomy_back [] l = tt
    roomy_back (a ∷ []) l = tt
    roomy_back (a ∷ b ∷ []) l = omega arith
    roomy_back (a ∷ b ∷ c ∷ []) l = omega arith
    roomy_back (a ∷ b ∷ c ∷ d ∷ []) l = omega arith
    roomy_back (a ∷ b ∷ c ∷ d ∷ e ∷ more) l = absurd (omega arith)

    roomy_trim : (rr : List (Node I T)) (m : Tree I T) (far : List (Node I T)) (p : Popped I T) → length rr ≤ 3 → length far ≤ 4 → Roomy (trim q front rr m far p)
    roomy_trim [] m far empty l o = roomy_back far o
    roomy_trim [] m far (got a rest) l o = fingers_few a
    roomy_trim (a ∷ more) m far p l o = l

    abbrev RightRoomy : Parts I T → Type 0
    RightRoomy (parts l x r o) = Roomy r

    front_roomy : (m : Tree I T) (b : List (Node I T)) (n : ℕ) (c : Cut I T) → After n c → n ≤ 3 → length b ≤ 4 → RightRoomy (in_front q m b c)
    front_roomy m b n (cutting d x r o) a l e = roomy_trim r m b (pop q front m) (omega arith) e

    back_roomy : (f : List (Node I T)) (m : Tree I T) (n : ℕ) (c : Cut I T) → After n c → n ≤ 3 → RightRoomy (in_back q f m c)
    back_roomy f m n (cutting d x r o) a l = roomy_front r (omega arith)

    middle_roomy : (f b : List (Node I T)) (p : Parts I T) → length b ≤ 4 → RightRoomy (in_middle q f b p)
    middle_roomy f b (parts l a r o) e = go (cut o [] (fingers front a)) (cut_after o [] (fingers front a))
      where
        go : (c : Cut I T) → After (length (fingers front a) - 1) c → RightRoomy (in_node q f l r b c)
        go (cutting d x z y) s = roomy_trim z r b (pop q front r) (omega (arith, fingers_few a)) e

    split_roomy : (k i : ℕ) (t : Tree I T) → Formed k t → RightRoomy (split q i t)
    split_roomy k i none w = tt
    split_roomy k i (single x) w = tt
    split_roomy k i (deep t n f m b) w =
        let j = i - count_run f in
        let few = w.1.0.1.0 in
        let short = w.1.1.1.1.0 in
        let bs = onto b [] in
        either RightRoomy (ltb i (count_run f)) (in_front q m b (cut i [] f)) (choose (ltb j (count m)) (in_middle q f b (split q j m)) (in_back q f m (cut (j - count m) [] bs)))
        (front_roomy m b (length f - 1) (cut i [] f) (cut_after i [] f) (omega arith) short)
        (either RightRoomy (ltb j (count m)) (in_middle q f b (split q j m)) (in_back q f m (cut (j - count m) [] bs)) (middle_roomy f b (split q j m) short) (back_roomy f m (length bs - 1) (cut (j - count m) [] bs) (cut_after (j - count m) [] bs) (omega (arith, length_onto b []))))
    split_roomy k i torn w = elim w [ ]

    -- a push into the space
    roomy_push : (x : Node I T) (t : Tree I T) (e : ℕ) → 1 ≤ e → levels t ≤ e → Roomy t → levels (push q front x t) ≤ e
    roomy_push x none e some l r = some
    roomy_push x (single y) e some l r = l
    roomy_push x (deep t n [] m b) e some l r = l
    roomy_push x (deep t n (a ∷ []) m b) e some l r = l
    roomy_push x (deep t n (a ∷ c ∷ []) m b) e some l r = l
    roomy_push x (deep t n (a ∷ c ∷ d ∷ []) m b) e some l r = l
    roomy_push x (deep t n (a ∷ c ∷ d ∷ o ∷ more) m b) e some l r = absurd (omega arith)
    roomy_push x torn e some l r = l

    some_levels : (k : ℕ) (t : Tree I T) → Formed k t → 1 ≤ length (items t) → 1 ≤ levels t
    some_levels k none w l = absurd (omega arith)
    some_levels k (single x) w l = omega arith
    some_levels k (deep t n f m b) w l = omega arith
    some_levels k torn w l = elim w [ ]

    -- the item put before the right part again: as many levels as the tree has
    abbrev pub Pushes : ℕ → Parts I T → Type 0
    Pushes e (parts l x r o) = levels (push q front x r) ≤ e

    pub split_pushes : (k i : ℕ) (t : Tree I T) → Formed k t → i < length (items t) → Pushes (levels t) (split q i t)
    split_pushes k i t w l = go (split q i t) (split_roomy k i t w) (split_well q k i t w l)
      where
        go : (p : Parts I T) → RightRoomy p → WellParted k i (levels t) (items t) p → Pushes (levels t) p
        go (parts a x r o) s u = roomy_push x r (levels t) (some_levels k t w (omega arith)) u.right_levels s
