-- One item in place of another. Assumes nothing.
use Rattle.std.proofs.Common.{◌≡◌, ℕ, zero, suc, ◌+◌, ◌-◌, ◌<◌, ◌≤◌, Bool, true, false, ltb, List, [], ◌∷◌, ◌++◌, length, set, sym, refl, ap, ◌∙◌, append-nil, arith, ltb-false}
use Rattle.std.proofs.lemmas.List.{set-append_left, set-append_right}
use Rattle.kinds.specs.Algebra.{Algebra, Laws}
use Rattle.model.specs.Tree.{Node, leaf, two, three, gap, Tree, none, single, deep, torn, front, back, items_node, run, items, count_node, count_run, count, levels}
use Rattle.model.specs.Ends.{make, fingers}
use Rattle.model.specs.Append.{onto}
use Rattle.model.specs.Split.{choose, Cut, cutting, cut}
use Rattle.model.specs.Replace.{swap, regroup, replaced_node, replaced}
use Rattle.model.specs.Forms.{FormedNode, Each, Formed}
use Rattle.model.specs.Statements.{ReplacedKeeps, ReplacedMeasures}
use Rattle.model.proofs.Forms.{decides_formed, count_node_is, count_run_is, count_is}
use Rattle.model.proofs.Totals.{WeighedNode, WeighedEach, Weighed, sound, weighed, weighed_two, weighed_three, weighed_deep}
use Rattle.model.proofs.Popping.{fingers_formed, fingers_weighed, count_fingers}
use Rattle.model.proofs.Appending.{run_onto, each_onto, length_onto, all_onto}
use Rattle.model.proofs.Splitting.{either, below}

onto_onto : {A : Type 0} (xs ys zs : List A) → onto (onto xs ys) zs ≡ onto ys (xs ++ zs)
onto_onto [] ys zs = refl
onto_onto (x ∷ xs) ys zs = onto_onto xs (x ∷ ys) zs

onto_twice : {A : Type 0} (xs : List A) → onto (onto xs []) [] ≡ xs
onto_twice xs = onto_onto xs [] [] ∙ append-nil xs

set_onto : {A : Type 0} (xs ys : List A) (i : ℕ) (y : A) → set (onto xs ys) (length xs + i) y ≡ onto xs (set ys i y)
set_onto [] ys i y = let e : 0 + i ≡ i = omega arith in ap (λ n. set ys n y) e
set_onto (x ∷ xs) ys i y = let e : suc (length xs) + i ≡ length xs + suc i = omega arith in ap (λ n. set (onto xs (x ∷ ys)) n y) e ∙ set_onto xs (x ∷ ys) (suc i) y

module _ {A : Type 0} where
  set_first : (xs ys : List A) {zs : List A} (i : ℕ) (x : A) → i < length xs → zs ≡ set xs i x → zs ++ ys ≡ set (xs ++ ys) i x
  set_first xs ys i x l e = ap (λ r. r ++ ys) e ∙ sym (set-append_left xs ys i x l)

  set_second : (xs ys : List A) {zs : List A} (n i : ℕ) (x : A) → n ≡ length xs → n ≤ i → zs ≡ set ys (i - n) x → xs ++ zs ≡ set (xs ++ ys) i x
  set_second xs ys n i x o l e = ap (λ r. xs ++ r) e ∙ sym (set-append_right xs ys n i x (sym o) l)

module _ {I T : Type 0} where
  run_turned_back : (xs : List (Node I T)) → run front (onto xs []) ≡ run back xs
  run_turned_back xs = run_onto xs [] ∙ append-nil (run back xs)

  run_turned : (xs : List (Node I T)) → run back (onto xs []) ≡ run front xs
  run_turned xs = sym (run_turned_back (onto xs [])) ∙ ap (run front) (onto_twice xs)

  -- ds with the finger of the cut changed is es
  abbrev pub SwappedAt : (ℕ → Node I T → Node I T) → List (Node I T) → List (Node I T) → Cut I T → Type 0
  SwappedAt f ds es (cutting d x r o) = es ≡ set ds (length d) (f o x)

  -- a swap is at the finger of a cut
  pub swap_cut : (f : ℕ → Node I T → Node I T) (i : ℕ) (done ds : List (Node I T)) → i < count_run ds → SwappedAt f (onto done ds) (onto done (swap f i ds)) (cut i done ds)
  swap_cut f i done [] l = absurd (omega arith)
  swap_cut f i done (a ∷ more) l = go (ltb i (count_node a)) refl (swap_cut f (i - count_node a) (a ∷ done) more)
    where
      go : (y : Bool) → ltb i (count_node a) ≡ y → (i - count_node a < count_run more → SwappedAt f (onto done (a ∷ more)) (onto done (a ∷ swap f (i - count_node a) more)) (cut (i - count_node a) (a ∷ done) more)) → SwappedAt f (onto done (a ∷ more)) (onto done (choose y (f i a ∷ more) (a ∷ swap f (i - count_node a) more))) (choose y (cutting done a more i) (cut (i - count_node a) (a ∷ done) more))
      go true e later = let z : length done ≡ length done + 0 = omega arith in sym (ap (λ n. set (onto done (a ∷ more)) n (f i a)) z ∙ set_onto done (a ∷ more) 0 (f i a))
      go false e later = later (omega (arith, ltb-false i (count_node a) e))

  -- as many fingers, with x at the position i of their items
  abbrev pub Swapped : I → ℕ → ℕ → List (Node I T) → List (Node I T) → Type 0
  Swapped x k i ds es = Each k es × ((run front es ≡ set (run front ds) i x) × (length es ≡ length ds))

  abbrev Replaces : I → ℕ → (ℕ → Node I T → Node I T) → Type 0
  Replaces x k f = (i : ℕ) (a : Node I T) → FormedNode k a → i < count_node a → FormedNode k (f i a) × (items_node (f i a) ≡ set (items_node a) i x)

  swap_keeps : (x : I) (k : ℕ) (f : ℕ → Node I T → Node I T) → Replaces x k f → (i : ℕ) (ds : List (Node I T)) → Each k ds → i < count_run ds → Swapped x k i ds (swap f i ds)
  swap_keeps x k f keeps i [] w l = absurd (omega arith)
  swap_keeps x k f keeps i (a ∷ more) w l =
      let long = count_node_is k a w.0 in
      let xs = items_node a in
      let ys = run front more in
      below (Swapped x k i (a ∷ more)) i (count_node a) (f i a ∷ more) (a ∷ swap f (i - count_node a) more)
      (λ n. let s = keeps i a w.0 n in ((s.0, w.1), (set_first xs ys i x (omega arith) s.1, refl)))
      (λ n. let s = swap_keeps x k f keeps (i - count_node a) more w.1 (omega arith) in ((w.0, s.0), (set_second xs ys (count_node a) i x long n s.1.0, ap suc s.1.1)))

  regroup_formed : {Q : Type 0} (q : Algebra I T Q) (k : ℕ) (ds : List (Node I T)) → Each k ds → 2 ≤ length ds → length ds ≤ 3 → FormedNode (suc k) (regroup q ds) × (items_node (regroup q ds) ≡ run front ds)
  regroup_formed q k [] w l m = absurd (omega arith)
  regroup_formed q k (a ∷ []) w l m = absurd (omega arith)
  regroup_formed q k (a ∷ b ∷ []) w l m = ((refl, (w.0, w.1.0)), simp append-nil)
  regroup_formed q k (a ∷ b ∷ c ∷ []) w l m = ((refl, (w.0, (w.1.0, w.1.1.0))), simp append-nil)
  regroup_formed q k (a ∷ b ∷ c ∷ d ∷ more) w l m = absurd (omega arith)

  pub fingers_few : (k : ℕ) (a : Node I T) → FormedNode (suc k) a → (2 ≤ length (fingers front a)) × (length (fingers front a) ≤ 3)
  fingers_few k (leaf x) w = elim w [ ]
  fingers_few k (two t n a b) w = (omega arith, omega arith)
  fingers_few k (three t n a b c) w = (omega arith, omega arith)
  fingers_few k gap w = elim w [ ]

  module _ {Q : Type 0} (q : Algebra I T Q) (x : I) where
    leaf_set : (i : ℕ) (a : Node I T) → FormedNode 0 a → i < count_node a → x ∷ [] ≡ set (items_node a) i x
    leaf_set zero (leaf y) w l = refl
    leaf_set (suc i) (leaf y) w l = absurd (omega arith)
    leaf_set i (two t n a b) w l = elim w [ ]
    leaf_set i (three t n a b c) w l = elim w [ ]
    leaf_set i gap w l = elim w [ ]

    pub node_keeps : (k : ℕ) → Replaces x k (replaced_node q x k)
    unfolding replaced_node
    node_keeps zero i a w l = (tt, leaf_set i a w l)
    node_keeps (suc k) i a w l =
        let p = fingers_formed front k a w in
        let s = swap_keeps x k (replaced_node q x k) (node_keeps k) i (fingers front a) p.0.1.1 (omega (arith, count_fingers front k a w)) in
        let few = fingers_few k a w in
        let r = regroup_formed q k (swap (replaced_node q x k) i (fingers front a)) s.0 (omega (arith, s.1.1, few.0)) (omega (arith, s.1.1, few.1)) in
        (r.0, r.1 ∙ s.1.0 ∙ ap (λ xs. set xs i x) p.1)

    pub run_keeps : (k i : ℕ) (ds : List (Node I T)) → Each k ds → i < count_run ds → Swapped x k i ds (swap (replaced_node q x k) i ds)
    run_keeps k i ds w l = swap_keeps x k (replaced_node q x k) (node_keeps k) i ds w l

    -- as well formed, with one item set, and as many levels
    abbrev Kept : ℕ → ℕ → Tree I T → Tree I T → Type 0
    Kept k i t u = Formed k u × ((items u ≡ set (items t) i x) × (levels u ≡ levels t))

    pub replaced_well : (k i : ℕ) (t : Tree I T) → Formed k t → i < count t → Kept k i t (replaced q x k i t)
    replaced_well k i none w l = absurd (omega arith)
    replaced_well k i (single a) w l = let s = node_keeps k i a w l in (s.0, (s.1, refl))
    replaced_well k i (deep t n f m b) w l =
        let vf = w.1.0 in
        let u = w.1.1.0 in
        let vb = w.1.1.1 in
        let whole = w.0 in
        let fs = run front f in
        let ms = items m in
        let bs = run back b in
        let cf = count_run_is front k f vf.1.1 in
        let cm = count_is (suc k) m u in
        let cb = count_run_is front k (onto b []) (each_onto k b [] vb.1.1 tt) ∙ ap length (run_turned_back b) ∙ sym (count_run_is back k b vb.1.1) in
        let j = i - count_run f in
        let new = swap (replaced_node q x k) (j - count m) (onto b []) in
        let first = make q (swap (replaced_node q x k) i f) m b in
        let second = make q f (replaced q x (suc k) j m) b in
        let third = make q f m (onto new []) in
        let P = Kept k i (deep t n f m b) in
        below P i (count_run f) first (choose (ltb j (count m)) second third)
        (λ h.
        let s = run_keeps k i f vf.1.1 h in
        ((refl, ((omega (arith, s.1.1, vf.0), (omega (arith, s.1.1, vf.1.0), s.0)), (u, vb))), (set_first fs (ms ++ bs) i x (omega arith) s.1.0, refl)))
        (λ h. below P j (count m) second third
        (λ o.
        let s = replaced_well (suc k) j m u o in
        ((refl, (vf, (s.0, vb))), (set_second fs (ms ++ bs) (count_run f) i x cf h (set_first ms bs j x (omega arith) s.1.0), ap suc s.1.1)))
        (λ o.
        let s = run_keeps k (j - count m) (onto b []) (each_onto k b [] vb.1.1 tt) (omega arith) in
        let same = run_turned new ∙ s.1.0 ∙ ap (λ xs. set xs (j - count m) x) (run_turned_back b) in
        ((refl, (vf, (u, (omega (arith, length_onto new [], s.1.1, length_onto b [], vb.0), (omega (arith, length_onto new [], s.1.1, length_onto b [], vb.1.0), each_onto k new [] s.0 tt))))), (set_second fs (ms ++ bs) (count_run f) i x cf h (set_second ms bs (count m) j x cm o same), refl))))
    replaced_well k i torn w l = elim w [ ]

-- totals
module _ {I T Q : Type 0} {q : Algebra I T Q} (laws : Laws q) (x : I) (hx : q.admitted x ≡ true) where
  swap_weighed : (f : ℕ → Node I T → Node I T) → ((i : ℕ) (a : Node I T) → WeighedNode q a → WeighedNode q (f i a)) → (i : ℕ) (ds : List (Node I T)) → WeighedEach q ds → WeighedEach q (swap f i ds)
  swap_weighed f h i [] w = tt
  swap_weighed f h i (a ∷ more) w = either (WeighedEach q) (ltb i (count_node a)) (f i a ∷ more) (a ∷ swap f (i - count_node a) more) (h i a w.0, w.1) (w.0, swap_weighed f h (i - count_node a) more w.1)

  regroup_weighed : (ds : List (Node I T)) → WeighedEach q ds → WeighedNode q (regroup q ds)
  regroup_weighed [] w = tt
  regroup_weighed (a ∷ []) w = tt
  regroup_weighed (a ∷ b ∷ []) w = weighed_two laws a b w.0 w.1.0
  regroup_weighed (a ∷ b ∷ c ∷ []) w = weighed_three laws a b c w.0 w.1.0 w.1.1.0
  regroup_weighed (a ∷ b ∷ c ∷ d ∷ more) w = tt

  node_weighed : (k i : ℕ) (a : Node I T) → WeighedNode q a → WeighedNode q (replaced_node q x k i a)
  unfolding replaced_node
  node_weighed zero i a w = hx
  node_weighed (suc k) i a w = regroup_weighed (swap (replaced_node q x k) i (fingers front a)) (swap_weighed (replaced_node q x k) (node_weighed k) i (fingers front a) (fingers_weighed q front a w))

  replaced_weighed : (k i : ℕ) (t : Tree I T) → Weighed q t → Weighed q (replaced q x k i t)
  replaced_weighed k i none w = tt
  replaced_weighed k i (single a) w = node_weighed k i a w
  replaced_weighed k i (deep t n f m b) w =
      let vf = w.1.0 in
      let u = w.1.1.0 in
      let vb = w.1.1.1 in
      let j = i - count_run f in
      let fs = swap (replaced_node q x k) i f in
      let ms = replaced q x (suc k) j m in
      let new = swap (replaced_node q x k) (j - count m) (onto b []) in
      let second = make q f ms b in
      let third = make q f m (onto new []) in
      either (Weighed q) (ltb i (count_run f)) (make q fs m b) (choose (ltb j (count m)) second third)
      (weighed_deep laws fs m b (swap_weighed (replaced_node q x k) (node_weighed k) i f vf) u vb)
      (either (Weighed q) (ltb j (count m)) second third (weighed_deep laws f ms b vf (replaced_weighed (suc k) j m u) vb)
      (weighed_deep laws f m (onto new []) vf u (all_onto (WeighedNode q) new [] (swap_weighed (replaced_node q x k) (node_weighed k) (j - count m) (onto b []) (all_onto (WeighedNode q) b [] vb tt)) tt)))
  replaced_weighed k i torn w = tt

pub replaced_keeps : {I T Q : Type 0} (q : Algebra I T Q) → ReplacedKeeps q
replaced_keeps q d t i x h l =
    let w = (decides_formed d 0 t).0 h in
    let r = replaced_well q x 0 i t w.1 (omega (arith, count_is 0 t w.1)) in
    (r.1.0, (decides_formed d 0 (replaced q x 0 i t)).1 (r.1.1 ∙ w.0, r.0))

pub replaced_measures : {I T Q : Type 0} {k : Algebra I T Q} → Laws k → ReplacedMeasures k
replaced_measures {k = k} laws t i x h w = sound k (replaced k x 0 i t) (replaced_weighed laws x h 0 i t (weighed k t w))
