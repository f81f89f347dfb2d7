-- A pop at either end. Assumes nothing.
use Rattle.std.proofs.Common.{◌≡◌, ℕ, suc, ◌≤◌, ◌⊎◌, List, [], ◌∷◌, length, sym, refl, ap, ◌∙◌, subst, inl, inr, append_assoc, append-nil, arith}
use Rattle.model.specs.Tree.{Node, leaf, two, three, gap, Tree, none, single, deep, torn, Side, front, back, along, items_node, run, items, count_node, count_run, levels}
use Rattle.kinds.specs.Algebra.{Algebra, Laws}
use Rattle.model.specs.Ends.{near, other, tree_of, fingers, Popped, empty, got, trim, take_near, pop}
use Rattle.model.specs.Statements.{PoppedWell, PopKeeps, PopMeasures}
use Rattle.model.specs.Forms.{FormedNode, Each, Digit, Formed}
use Rattle.model.proofs.Forms.{decides_formed}
use Rattle.model.proofs.Sides.{along_assoc, along_nil, nil_along, items_deep_at, items_sides, formed_deep_at, levels_deep_at, near_of}
use Rattle.model.proofs.Totals.{WeighedNode, WeighedEach, Weighed, sound, weighed, weighed_deep_at}
use Rattle.model.proofs.Pushing.{push_items, push_formed, push_weighed}

-- what a pop says of the tree that it was put to
abbrev pub Came : {I T : Type 0} → ℕ → Side → Tree I T → Popped I T → Type 0
Came k s t empty = (levels t ≡ 0) × (items t ≡ [])
Came k s t (got x rest) = FormedNode k x × (Formed k rest × ((items t ≡ along s (items_node x) (items rest)) × ((levels t ≡ levels rest) ⊎ (levels t ≡ suc (levels rest)))))

abbrev pub Trimmed : {I T : Type 0} → ℕ → Side → List (Node I T) → Tree I T → List (Node I T) → Tree I T → Type 0
Trimmed k s ds m far u = Formed k u × ((items u ≡ along s (run s ds) (along s (items m) (run (other s) far))) × ((levels u ≡ suc (levels m)) ⊎ (levels u ≡ levels m)))

module _ {I T : Type 0} where
  pub fingers_formed : (s : Side) (k : ℕ) (a : Node I T) → FormedNode (suc k) a → Digit k (fingers s a) × (run s (fingers s a) ≡ items_node a)
  fingers_formed s k (leaf x) w = elim w [ ]
  fingers_formed front k (two t n a b) w = ((omega arith, (omega arith, (w.1.0, (w.1.1, tt)))), simp append-nil)
  fingers_formed back k (two t n a b) w = ((omega arith, (omega arith, (w.1.1, (w.1.0, tt)))), refl)
  fingers_formed front k (three t n a b c) w = ((omega arith, (omega arith, (w.1.0, (w.1.1.0, (w.1.1.1, tt))))), simp append-nil)
  fingers_formed back k (three t n a b c) w = ((omega arith, (omega arith, (w.1.1.1, (w.1.1.0, (w.1.0, tt))))), simp append_assoc)
  fingers_formed s k gap w = elim w [ ]

  pub count_fingers : (s : Side) (k : ℕ) (a : Node I T) → FormedNode (suc k) a → count_run (fingers s a) ≡ count_node a
  count_fingers s k (leaf x) w = elim w [ ]
  count_fingers front k (two t n a b) w = omega (arith, w.0)
  count_fingers back k (two t n a b) w = omega (arith, w.0)
  count_fingers front k (three t n a b c) w = omega (arith, w.0)
  count_fingers back k (three t n a b c) w = omega (arith, w.0)
  count_fingers s k gap w = elim w [ ]

  pub fingers_weighed : {Q : Type 0} (k : Algebra I T Q) (s : Side) (a : Node I T) → WeighedNode k a → WeighedEach k (fingers s a)
  fingers_weighed k front (leaf x) u = tt
  fingers_weighed k back (leaf x) u = tt
  fingers_weighed k front (two t n a b) u = (u.1.0, (u.1.1, tt))
  fingers_weighed k back (two t n a b) u = (u.1.1, (u.1.0, tt))
  fingers_weighed k front (three t n a b c) u = (u.1.0, (u.1.1.0, (u.1.1.1, tt)))
  fingers_weighed k back (three t n a b c) u = (u.1.1.1, (u.1.1.0, (u.1.0, tt)))
  fingers_weighed k front gap u = tt
  fingers_weighed k back gap u = tt

module _ {I T Q : Type 0} (q : Algebra I T Q) where
  pub tree_of_formed : (s : Side) (k : ℕ) (ds : List (Node I T)) → Each k ds → Formed k (tree_of q s ds) × (items (tree_of q s ds) ≡ run s ds)
  tree_of_formed s k [] w = (tt, refl)
  tree_of_formed s k (a ∷ more) w =
      let ih = tree_of_formed s k more w.1 in
      (push_formed q s k a (tree_of q s more) w.0 ih.0, push_items q s k a (tree_of q s more) ih.0 ∙ ap (along s (items_node a)) ih.1)

  pub tree_of_levels : (s : Side) (k : ℕ) (ds : List (Node I T)) → Digit k ds → levels (tree_of q s ds) ≡ 1
  tree_of_levels s k [] w = omega (arith, w.0)
  tree_of_levels s k (a ∷ []) w = refl
  tree_of_levels front k (a ∷ b ∷ []) w = refl
  tree_of_levels back k (a ∷ b ∷ []) w = refl
  tree_of_levels front k (a ∷ b ∷ c ∷ []) w = refl
  tree_of_levels back k (a ∷ b ∷ c ∷ []) w = refl
  tree_of_levels front k (a ∷ b ∷ c ∷ d ∷ []) w = refl
  tree_of_levels back k (a ∷ b ∷ c ∷ d ∷ []) w = refl
  tree_of_levels s k (a ∷ b ∷ c ∷ d ∷ e ∷ more) w = omega (arith, w.1.0)

  pub trimmed : (s : Side) (k : ℕ) (ds : List (Node I T)) (m : Tree I T) (far : List (Node I T)) (r : Popped I T) → Each k ds → length ds ≤ 4 → Formed (suc k) m → Digit k far → Came (suc k) s m r → Trimmed k s ds m far (trim q s ds m far r)
  trimmed s k [] m far empty u l v o h =
      let t = tree_of_formed (other s) k far o.1.1 in
      (t.0, (t.1 ∙ sym (nil_along s _ ∙ ap (λ x. along s x (run (other s) far)) h.1 ∙ nil_along s _), inl (tree_of_levels (other s) k far o ∙ ap suc (sym h.0))))
  trimmed s k [] m far (got a rest) u l v o h =
      let p = fingers_formed s k a h.0 in (
        formed_deep_at q s k (fingers s a) rest far p.0 h.1.0 o,
        (
          items_deep_at q s (fingers s a) rest far ∙ simp (p.1, h.1.1.0, nil_along, along_assoc),
          elim h.1.1.1 [ inl e ↦ inl (levels_deep_at q s (fingers s a) rest far ∙ ap suc (sym e)) | inr e ↦ inr (levels_deep_at q s (fingers s a) rest far ∙ sym e) ],
        ),
      )
  trimmed s k (a ∷ more) m far r u l v o h = (formed_deep_at q s k (a ∷ more) m far (omega arith, (l, u)) v o, (items_deep_at q s (a ∷ more) m far, inl (levels_deep_at q s (a ∷ more) m far)))

  taken : (s : Side) (k : ℕ) (t : Tree I T) (ds : List (Node I T)) (m : Tree I T) (far : List (Node I T)) (r : Popped I T) → items t ≡ along s (run s ds) (along s (items m) (run (other s) far)) → levels t ≡ suc (levels m) → Digit k ds → Formed (suc k) m → Digit k far → Came (suc k) s m r → Came k s t (take_near q s ds m far r)
  taken s k t [] m far r i e u v o h = absurd (omega (arith, u.0))
  taken s k t (a ∷ more) m far r i e u v o h =
      let w = trimmed s k more m far r u.1.1.1 (omega (arith, u.1.0)) v o h in
      (u.1.1.0, (w.0, (i ∙ along_assoc s _ _ _ ∙ ap (along s (items_node a)) (sym w.1.0), elim w.1.1 [ inl x ↦ inl (e ∙ sym x) | inr x ↦ inr (e ∙ ap suc (sym x)) ])))

  pub popped : (s : Side) (k : ℕ) (t : Tree I T) → Formed k t → Came k s t (pop q s t)
  popped s k none w = (refl, refl)
  popped s k (single x) w = (w, (tt, (sym (along_nil s _), inr refl)))
  popped s k (deep t n f m b) w = taken s k (deep t n f m b) (near s f b) m (near (other s) f b) (pop q s m) (items_sides s f m b) refl (near_of (Digit k) s f b w.1.0 w.1.1.1) w.1.1.0 (near_of (Digit k) (other s) f b w.1.0 w.1.1.1) (popped s (suc k) m w.1.1.0)
  popped s k torn w = elim w [ ]

abbrev pub Carried : {I T Q : Type 0} → Algebra I T Q → Popped I T → Type 0
Carried k empty = Unit {0}
Carried k (got x rest) = WeighedNode k x × Weighed k rest

module _ {I T Q : Type 0} {k : Algebra I T Q} (laws : Laws k) where
  pub tree_of_weighed : (s : Side) (ds : List (Node I T)) → WeighedEach k ds → Weighed k (tree_of k s ds)
  tree_of_weighed s [] w = tt
  tree_of_weighed s (a ∷ more) w = push_weighed laws s a (tree_of k s more) w.0 (tree_of_weighed s more w.1)

  pub trim_weighed : (s : Side) (ds : List (Node I T)) (m : Tree I T) (far : List (Node I T)) (r : Popped I T) → WeighedEach k ds → Weighed k m → WeighedEach k far → Carried k r → Weighed k (trim k s ds m far r)
  trim_weighed s [] m far empty u v o h = tree_of_weighed (other s) far o
  trim_weighed s [] m far (got a rest) u v o h = weighed_deep_at laws s (fingers s a) rest far (fingers_weighed k s a h.0) h.1 o
  trim_weighed s (a ∷ more) m far r u v o h = weighed_deep_at laws s (a ∷ more) m far u v o

  take_weighed : (s : Side) (ds : List (Node I T)) (m : Tree I T) (far : List (Node I T)) (r : Popped I T) → WeighedEach k ds → Weighed k m → WeighedEach k far → Carried k r → Carried k (take_near k s ds m far r)
  take_weighed s [] m far r u v o h = tt
  take_weighed s (a ∷ more) m far r u v o h = (u.0, trim_weighed s more m far r u.1 v o h)

  pub pop_weighed : (s : Side) (t : Tree I T) → Weighed k t → Carried k (pop k s t)
  pop_weighed s none w = tt
  pop_weighed s (single x) w = (w, tt)
  pop_weighed s (deep t n f m b) w = take_weighed s (near s f b) m (near (other s) f b) (pop k s m) (near_of (WeighedEach k) s f b w.1.0 w.1.1.1) w.1.1.0 (near_of (WeighedEach k) (other s) f b w.1.0 w.1.1.1) (pop_weighed s m w.1.1.0)
  pop_weighed s torn w = tt

pub pop_keeps : {I T Q : Type 0} (q : Algebra I T Q) → PopKeeps q
pop_keeps {I} {T} q s d t h =
    let w = (decides_formed d 0 t).0 h in
    go (pop q s t) (popped q s 0 t w.1) w.0
  where
    go : (r : Popped I T) → Came 0 s t r → levels t ≡ d → PoppedWell d s t r
    go empty c e = c.1
    go (got (leaf x) rest) c e = (c.1.1.0, elim c.1.1.1 [ inl z ↦ inl ((decides_formed d 0 rest).1 (sym z ∙ e, c.1.0)) | inr z ↦ inr (levels rest, (decides_formed (levels rest) 0 rest).1 (refl, c.1.0), sym z ∙ e) ])
    go (got (two y n a b) rest) c e = elim c.0 [ ]
    go (got (three y n a b o) rest) c e = elim c.0 [ ]
    go (got gap rest) c e = elim c.0 [ ]

pub pop_measures : {I T Q : Type 0} {k : Algebra I T Q} → Laws k → PopMeasures k
pop_measures {k = k} laws s t x rest w e = sound k rest (subst (Carried k) e (pop_weighed laws s t (weighed k t w))).1
