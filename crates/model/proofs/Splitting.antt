-- A tree in two. Assumes nothing.
use Rattle.std.proofs.Common.{◌≡◌, ℕ, suc, ◌+◌, ◌-◌, ◌<◌, ◌≤◌, Bool, true, false, ltb, ◌⊎◌, List, [], ◌∷◌, ◌++◌, length, drop, sym, refl, ap, ◌∙◌, ap₂, inl, inr, append_assoc, append-nil, arith, length-append}
use Rattle.std.proofs.Math.Seq.{take-append_seam, get_or-append_seam}
use Rattle.std.proofs.lemmas.Bool.Decides.{nat_tests}
use Rattle.kinds.specs.Algebra.{Algebra, Laws}
use Rattle.model.specs.Tree.{Node, leaf, two, three, gap, Tree, none, single, deep, torn, Side, front, back, items_node, run, items, count_node, count_run, count, levels}
use Rattle.model.specs.Ends.{tree_of, fingers, trim, pop}
use Rattle.model.specs.Append.{onto}
use Rattle.model.specs.Split.{choose, Cut, cutting, cut, Parts, parts, in_front, in_back, in_node, in_middle, split}
use Rattle.model.specs.Statements.{SplitAt, SoundParts, SplitKeeps, SplitMeasures}
use Rattle.model.specs.Forms.{FormedNode, Each, Digit, Formed}
use Rattle.model.proofs.Forms.{decides_formed, count_node_is, count_run_is, count_is}
use Rattle.model.proofs.Totals.{WeighedNode, WeighedEach, Weighed, admits_node, sound, weighed}
use Rattle.model.proofs.Popping.{Trimmed, fingers_formed, fingers_weighed, tree_of_formed, tree_of_levels, tree_of_weighed, trimmed, popped, trim_weighed, pop_weighed}
use Rattle.model.proofs.Appending.{run_onto, each_onto, length_onto, all_onto}

module _ {A : Type 0} (P : A → Type 0) where
  -- what holds both ways
  pub either : (b : Bool) (x y : A) → P x → P y → P (choose b x y)
  either true x y u v = u
  either false x y u v = v

  -- by whether i is before c
  pub below : (i c : ℕ) (x y : A) → (i < c → P x) → (c ≤ i → P y) → P (choose (ltb i c) x y)
  below i c x y u v = go (ltb i c) refl
    where
      go : (b : Bool) → ltb i c ≡ b → P (choose b x y)
      go true e = u (grind (arith, nat_tests))
      go false e = v (grind (arith, nat_tests))

past_seam : {A : Type 0} (xs : List A) (y : A) (ys : List A) → drop (suc (length xs)) (xs ++ (y ∷ ys)) ≡ ys
past_seam [] y ys = refl
past_seam (x ∷ xs) y ys = past_seam xs y ys

one_more : {a b : ℕ} (e : ℕ) → (a ≡ suc b) ⊎ (a ≡ b) → b ≤ e → a ≤ suc e
one_more e h l = elim h [ inl x ↦ omega arith | inr x ↦ omega arith ]

module _ {I T : Type 0} where
  -- `all`, which `many` fingers of depth k have, cut at the finger that has the position i
  pub record CutWell (k i many : ℕ) (all : List I) (d : List (Node I T)) (x : Node I T) (r : List (Node I T)) (o : ℕ) : Type 0 where
    pub before : Each k d
    pub here : FormedNode k x
    pub after : Each k r
    pub few : length d + suc (length r) ≡ many
    pub rows : run back d ++ (items_node x ++ run front r) ≡ all
    pub place : length (run back d) + o ≡ i
    pub within : o < length (items_node x)

  abbrev pub WellCut : ℕ → ℕ → ℕ → List I → Cut I T → Type 0
  WellCut k i many all (cutting d x r o) = CutWell k i many all d x r o

  pub cut_well : (k i : ℕ) (done ls : List (Node I T)) (at many : ℕ) (all : List I) → Each k done → Each k ls → length (run back done) + i ≡ at → length done + length ls ≡ many → run back done ++ run front ls ≡ all → i < length (run front ls) → WellCut k at many all (cut i done ls)
  cut_well k i done [] at many all u v p n e l = absurd (omega arith)
  cut_well k i done (a ∷ more) at many all u v p n e l =
      let c = count_node_is k a v.0 in
      let long = length-append (items_node a) (run front more) in
      let past = length-append (run back done) (items_node a) in
      below (WellCut k at many all) i (count_node a) (cutting done a more i) (cut (i - count_node a) (a ∷ done) more)
      (λ h. record { before = u; here = v.0; after = v.1; few = n; rows = e; place = p; within = omega arith })
      (λ h. cut_well k (i - count_node a) (a ∷ done) more at many all (v.0, u) v.1 (omega arith) (omega arith) (append_assoc (run back done) (items_node a) (run front more) ∙ e) (omega arith))

  pub cut_counts : {k i many o : ℕ} {all : List I} {d r : List (Node I T)} {x : Node I T} → CutWell k i many all d x r o → count_run d + (count_node x + count_run r) ≡ length all
  cut_counts {k} {d = d} {r} {x} w = omega (arith, count_run_is back k d w.before, count_node_is k x w.here, count_run_is front k r w.after, simp length-append at (ap length w.rows))

  -- `all`, which a tree at depth k of e levels has, in parts at the node that has the position i
  pub record PartsWell (k i e : ℕ) (all : List I) (l : Tree I T) (x : Node I T) (r : Tree I T) (o : ℕ) : Type 0 where
    pub before : Formed k l
    pub here : FormedNode k x
    pub after : Formed k r
    pub rows : items l ++ (items_node x ++ items r) ≡ all
    pub place : length (items l) + o ≡ i
    pub within : o < length (items_node x)
    pub left_levels : levels l ≤ e
    pub right_levels : levels r ≤ e

  abbrev pub WellParted : ℕ → ℕ → ℕ → List I → Parts I T → Type 0
  WellParted k i e all (parts l x r o) = PartsWell k i e all l x r o

  pub parts_counts : {k i e o : ℕ} {all : List I} {l r : Tree I T} {x : Node I T} → PartsWell k i e all l x r o → count l + (count_node x + count r) ≡ length all
  parts_counts {k} {l = l} {r} {x} w = omega (arith, count_is k l w.before, count_node_is k x w.here, count_is k r w.after, simp length-append at (ap length w.rows))

  -- the same, with the items of the two trees known
  build : {k i e : ℕ} {all : List I} (l : Tree I T) (x : Node I T) (r : Tree I T) (o : ℕ) (ls rs : List I) → items l ≡ ls → items r ≡ rs → Formed k l → FormedNode k x → Formed k r → ls ++ (items_node x ++ rs) ≡ all → length ls + o ≡ i → o < length (items_node x) → levels l ≤ e → levels r ≤ e → PartsWell k i e all l x r o
  build l x r o ls rs a b u v w rows p h c d = record { before = u; here = v; after = w; rows = ap₂ (λ y z. y ++ (items_node x ++ z)) a b ∙ rows; place = rw a p; within = h; left_levels = c; right_levels = d }

  module _ {Q : Type 0} (q : Algebra I T Q) where
    tree_of_few : (s : Side) (k : ℕ) (ds : List (Node I T)) → Each k ds → length ds ≤ 4 → levels (tree_of q s ds) ≤ 1
    tree_of_few s k [] w l = omega arith
    tree_of_few s k (a ∷ more) w l = omega (arith, tree_of_levels q s k (a ∷ more) (omega arith, (l, w)))

    pub trim_well : (s : Side) (k : ℕ) (ds : List (Node I T)) (m : Tree I T) (far : List (Node I T)) → Each k ds → length ds ≤ 4 → Formed (suc k) m → Digit k far → Trimmed k s ds m far (trim q s ds m far (pop q s m))
    trim_well s k ds m far u l w o = trimmed q s k ds m far (pop q s m) u l w o (popped q s (suc k) m w)

    -- one level
    module _ (k : ℕ) (f : List (Node I T)) (m : Tree I T) (b : List (Node I T)) (vf : Digit k f) (u : Formed (suc k) m) (vb : Digit k b) where
      whole : List I
      whole = run front f ++ (items m ++ run back b)

      in_front_well : (i : ℕ) (c : Cut I T) → WellCut k i (length f) (run front f) c → WellParted k i (suc (levels m)) whole (in_front q m b c)
      unfolding whole
      in_front_well i (cutting d x r o) w =
          let n = w.few in
          let few = vf.1.0 in
          let l = tree_of_formed q back k d w.before in
          let low = tree_of_few back k d w.before (omega arith) in
          let t = trim_well front k r m b w.after (omega arith) u vb in
          build (tree_of q back d) x (trim q front r m b (pop q front m)) o (run back d) (run front r ++ (items m ++ run back b)) l.1 t.1.0 l.0 w.here t.0
          (simp append_assoc at (ap (λ y. y ++ (items m ++ run back b)) w.rows)) w.place w.within (omega arith) (one_more (levels m) t.1.1 (omega arith))

      in_back_well : (i at : ℕ) (c : Cut I T) → length (run front f) + (length (items m) + i) ≡ at → WellCut k i (length b) (run back b) c → WellParted k at (suc (levels m)) whole (in_back q f m c)
      unfolding whole
      in_back_well i at (cutting d x r o) p w =
          let n = w.few in
          let few = vb.1.0 in
          let l = trim_well back k d m f w.before (omega arith) u vf in
          let t = tree_of_formed q front k r w.after in
          let low = tree_of_few front k r w.after (omega arith) in
          let there = w.place in
          build (trim q back d m f (pop q back m)) x (tree_of q front r) o ((run front f ++ items m) ++ run back d) (run front r) l.1.0 t.1 l.0 w.here t.0
          (simp append_assoc (ap (λ y. run front f ++ (items m ++ y)) w.rows)) (simp length-append (omega arith)) w.within (one_more (levels m) l.1.1 (omega arith)) (omega arith)

      in_node_well : (i at e many : ℕ) (l : Tree I T) (a : Node I T) (r : Tree I T) (o : ℕ) (c : Cut I T) → length (run front f) + i ≡ at → PartsWell (suc k) i e (items m) l a r o → WellCut k o many (items_node a) c → many ≤ 4 → WellParted k at (suc e) whole (in_node q f l r b c)
      unfolding whole
      in_node_well i at e many l a r o (cutting d x z y) p h w few =
          let n = w.few in
          let there = w.place in
          let back_there = h.place in
          let s = trim_well back k d l f w.before (omega arith) h.before vf in
          let t = trim_well front k z r b w.after (omega arith) h.after vb in
          build (trim q back d l f (pop q back l)) x (trim q front z r b (pop q front r)) y ((run front f ++ items l) ++ run back d) (run front z ++ (items r ++ run back b)) s.1.0 t.1.0 s.0 w.here t.0
          (simp append_assoc (simp append_assoc at (ap (λ y. run front f ++ (items l ++ ((y ++ items r) ++ run back b))) w.rows)) ∙ simp append_assoc at (ap (λ y. run front f ++ (y ++ run back b)) h.rows))
          (simp length-append (omega arith)) w.within (one_more e s.1.1 h.left_levels) (one_more e t.1.1 h.right_levels)

      in_middle_well : (i at e : ℕ) (c : Parts I T) → length (run front f) + i ≡ at → WellParted (suc k) i e (items m) c → WellParted k at (suc e) whole (in_middle q f b c)
      in_middle_well i at e (parts l a r o) p h =
          let g = fingers_formed front k a h.here in
          let c = cut_well k o [] (fingers front a) o (length (fingers front a)) (items_node a) tt g.0.1.1 (omega arith) (omega arith) g.1 (rw g.1 h.within) in
          in_node_well i at e (length (fingers front a)) l a r o (cut o [] (fingers front a)) p h c g.0.1.0

    pub split_well : (k i : ℕ) (t : Tree I T) → Formed k t → i < length (items t) → WellParted k i (levels t) (items t) (split q i t)
    unfolding whole
    split_well k i none w l = absurd (omega arith)
    split_well k i (single x) w l = record { before = tt; here = w; after = tt; rows = append-nil (items_node x); place = omega arith; within = l; left_levels = omega arith; right_levels = omega arith }
    split_well k i (deep t n f m b) w l =
        let vf = w.1.0 in
        let u = w.1.1.0 in
        let vb = w.1.1.1 in
        let j = i - count_run f in
        let bs = onto b [] in
        let turned = run_onto b [] ∙ append-nil (run back b) in
        let cf = count_run_is front k f vf.1.1 in
        let cm = count_is (suc k) m u in
        let long = length-append (run front f) (items m ++ run back b) in
        let rest = length-append (items m) (run back b) in
        let P = WellParted k i (suc (levels m)) (run front f ++ (items m ++ run back b)) in
        let middle = in_middle q f b (split q j m) in
        let last = in_back q f m (cut (j - count m) [] bs) in
        below P i (count_run f) (in_front q m b (cut i [] f)) (choose (ltb j (count m)) middle last)
        (λ h. in_front_well k f m b vf u vb i (cut i [] f) (cut_well k i [] f i (length f) (run front f) tt vf.1.1 (omega arith) (omega arith) refl (omega arith)))
        (λ h. below P j (count m) middle last
        (λ o. in_middle_well k f m b vf u vb j i (levels m) (split q j m) (omega arith) (split_well (suc k) j m u (omega arith)))
        (λ o. in_back_well k f m b vf u vb (j - count m) i (cut (j - count m) [] bs) (omega arith) (cut_well k (j - count m) [] bs (j - count m) (length b) (run back b) tt (each_onto k b [] vb.1.1 tt) (omega arith) (omega (arith, length_onto b [])) turned (omega (arith, ap length turned)))))
    split_well k i torn w l = elim w [ ]

pub split_keeps : {I T Q : Type 0} (q : Algebra I T Q) → SplitKeeps q
split_keeps {I} {T} q d t j h l =
    let w = (decides_formed d 0 t).0 h in
    go (split q j t) (split_well q 0 j t w.1 l) w.0
  where
    go : (p : Parts I T) → WellParted 0 j (levels t) (items t) p → levels t ≡ d → SplitAt d t j p
    go (parts l (leaf x) r o) w e =
        let there = w.place in
        let first = w.within in
        let place : j ≡ length (items l) = omega arith in
        record {
          left = sym (rw (place, ← w.rows) (take-append_seam (items l) (x ∷ items r)));
          item = λ c. rw (place, ← w.rows) (get_or-append_seam (items l) x (items r) c);
          right = sym (rw (place, ← w.rows) (past_seam (items l) x (items r)));
          before = (decides_formed (levels l) 0 l).1 (refl, w.before);
          after = (decides_formed (levels r) 0 r).1 (refl, w.after);
          left_levels = omega (arith, w.left_levels);
          right_levels = omega (arith, w.right_levels);
        }
    go (parts l (two y n a b) r o) w e = elim w.here [ ]
    go (parts l (three y n a b c) r o) w e = elim w.here [ ]
    go (parts l gap r o) w e = elim w.here [ ]

-- totals
module _ {I T Q : Type 0} {k : Algebra I T Q} (laws : Laws k) where
  abbrev WeighedCut : Cut I T → Type 0
  WeighedCut (cutting d x r o) = WeighedEach k d × (WeighedNode k x × WeighedEach k r)

  abbrev WeighedParts : Parts I T → Type 0
  WeighedParts (parts l x r o) = Weighed k l × (WeighedNode k x × Weighed k r)

  cut_weighed : (i : ℕ) (done ls : List (Node I T)) → WeighedEach k done → WeighedEach k ls → WeighedCut (cut i done ls)
  cut_weighed i done [] u v = (u, (tt, tt))
  cut_weighed i done (a ∷ more) u v = either WeighedCut (ltb i (count_node a)) (cutting done a more i) (cut (i - count_node a) (a ∷ done) more) (u, v) (cut_weighed (i - count_node a) (a ∷ done) more (v.0, u) v.1)

  trim_right : (s : Side) (ds : List (Node I T)) (m : Tree I T) (far : List (Node I T)) → WeighedEach k ds → Weighed k m → WeighedEach k far → Weighed k (trim k s ds m far (pop k s m))
  trim_right s ds m far u v o = trim_weighed laws s ds m far (pop k s m) u v o (pop_weighed laws s m v)

  front_weighed : (m : Tree I T) (b : List (Node I T)) (c : Cut I T) → Weighed k m → WeighedEach k b → WeighedCut c → WeighedParts (in_front k m b c)
  front_weighed m b (cutting d x r o) u v w = (tree_of_weighed laws back d w.0, (w.1.0, trim_right front r m b w.1.1 u v))

  back_weighed : (f : List (Node I T)) (m : Tree I T) (c : Cut I T) → WeighedEach k f → Weighed k m → WeighedCut c → WeighedParts (in_back k f m c)
  back_weighed f m (cutting d x r o) u v w = (trim_right back d m f w.0 v u, (w.1.0, tree_of_weighed laws front r w.1.1))

  node_weighed : (f : List (Node I T)) (l r : Tree I T) (b : List (Node I T)) (c : Cut I T) → WeighedEach k f → Weighed k l → Weighed k r → WeighedEach k b → WeighedCut c → WeighedParts (in_node k f l r b c)
  node_weighed f l r b (cutting d x e o) u v y z w = (trim_right back d l f w.0 v u, (w.1.0, trim_right front e r b w.1.1 y z))

  middle_weighed : (f b : List (Node I T)) (p : Parts I T) → WeighedEach k f → WeighedEach k b → WeighedParts p → WeighedParts (in_middle k f b p)
  middle_weighed f b (parts l a r o) u v w = node_weighed f l r b (cut o [] (fingers front a)) u w.0 w.1.1 v (cut_weighed o [] (fingers front a) tt (fingers_weighed k front a w.1.0))

  split_weighed : (i : ℕ) (t : Tree I T) → Weighed k t → WeighedParts (split k i t)
  split_weighed i none w = (tt, (tt, tt))
  split_weighed i (single x) w = (tt, (w, tt))
  split_weighed i (deep t n f m b) w =
      let vf = w.1.0 in
      let u = w.1.1.0 in
      let vb = w.1.1.1 in
      let j = i - count_run f in
      let first = in_front k m b (cut i [] f) in
      let middle = in_middle k f b (split k j m) in
      let last = in_back k f m (cut (j - count m) [] (onto b [])) in
      either WeighedParts (ltb i (count_run f)) first (choose (ltb j (count m)) middle last)
      (front_weighed m b (cut i [] f) u vb (cut_weighed i [] f tt vf))
      (either WeighedParts (ltb j (count m)) middle last (middle_weighed f b (split k j m) vf vb (split_weighed j m u)) (back_weighed f m (cut (j - count m) [] (onto b [])) vf u (cut_weighed (j - count m) [] (onto b []) tt (all_onto (WeighedNode k) b [] vb tt))))
  split_weighed i torn w = (tt, (tt, tt))

  pub split_measures : SplitMeasures k
  split_measures t j s = go (split k j t) (split_weighed j t (weighed k t s))
    where
      go : (p : Parts I T) → WeighedParts p → SoundParts k p
      go (parts l x r o) w = (sound k l w.0, (admits_node k x w.1.0, sound k r w.1.1))
