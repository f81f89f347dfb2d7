-- Two trees as one. Assumes nothing.
use Rattle.std.proofs.Common.{◌≡◌, ℕ, suc, ◌+◌, ◌*◌, ◌≤◌, List, [], ◌∷◌, ◌++◌, length, sym, refl, ap, ◌∙◌, append_assoc, append-nil, arith, length-append}
use Rattle.std.specs.List.{AllByRecursion}
use Rattle.std.proofs.ByRecursion.{All-append}
use Rattle.model.specs.Tree.{Node, Tree, none, single, deep, torn, Side, front, back, along, items_node, run, items}
use Rattle.kinds.specs.Algebra.{Algebra, Laws}
use Rattle.model.specs.Ends.{make3}
use Rattle.model.specs.Append.{onto, pushed, group, append}
use Rattle.model.specs.Statements.{AppendKeeps, AppendMeasures}
use Rattle.model.specs.Forms.{Each, Formed}
use Rattle.model.proofs.Forms.{decides_formed}
use Rattle.model.proofs.Sides.{along_assoc, nil_along}
use Rattle.model.proofs.Totals.{WeighedNode, WeighedEach, Weighed, sound, weighed, weighed_two, weighed_three, weighed_deep}
use Rattle.model.proofs.Pushing.{push_items, push_formed, push_weighed}

module _ {I T : Type 0} where
  pub run_append : (xs ys : List (Node I T)) → run front (xs ++ ys) ≡ run front xs ++ run front ys
  run_append [] ys = refl
  run_append (a ∷ more) ys = ap (λ r. items_node a ++ r) (run_append more ys) ∙ sym (append_assoc (items_node a) (run front more) (run front ys))

  pub run_onto : (xs ys : List (Node I T)) → run front (onto xs ys) ≡ run back xs ++ run front ys
  run_onto [] ys = refl
  run_onto (a ∷ more) ys = run_onto more (a ∷ ys) ∙ sym (append_assoc (run back more) (items_node a) (run front ys))

  run_back_onto : (xs ys : List (Node I T)) → run back (onto xs ys) ≡ run back ys ++ run front xs
  run_back_onto [] ys = sym (append-nil _)
  run_back_onto (a ∷ more) ys = run_back_onto more (a ∷ ys) ∙ append_assoc (run back ys) (items_node a) (run front more)

  pub each_append : (k : ℕ) (xs ys : List (Node I T)) → Each k xs → Each k ys → Each k (xs ++ ys)
  each_append k [] ys u v = v
  each_append k (a ∷ more) ys u v = (u.0, each_append k more ys u.1 v)

  pub each_onto : (k : ℕ) (xs ys : List (Node I T)) → Each k xs → Each k ys → Each k (onto xs ys)
  each_onto k [] ys u v = v
  each_onto k (a ∷ more) ys u v = each_onto k more (a ∷ ys) u.1 (u.0, v)

  pub length_onto : (xs ys : List (Node I T)) → length (onto xs ys) ≡ length xs + length ys
  length_onto [] ys = omega arith
  length_onto (a ∷ more) ys = omega (arith, length_onto more (a ∷ ys))

  module _ {Q : Type 0} (q : Algebra I T Q) where
    pub pushed_formed : (s : Side) (k : ℕ) (ds : List (Node I T)) (t : Tree I T) → Each k ds → Formed k t → Formed k (pushed q s ds t)
    pushed_formed s k [] t u w = w
    pushed_formed s k (a ∷ more) t u w = push_formed q s k a (pushed q s more t) u.0 (pushed_formed s k more t u.1 w)

    pub pushed_items : (s : Side) (k : ℕ) (ds : List (Node I T)) (t : Tree I T) → Each k ds → Formed k t → items (pushed q s ds t) ≡ along s (run s ds) (items t)
    pushed_items s k [] t u w = sym (nil_along s (items t))
    pushed_items s k (a ∷ more) t u w = push_items q s k a (pushed q s more t) (pushed_formed s k more t u.1 w) ∙ ap (along s (items_node a)) (pushed_items s k more t u.1 w) ∙ sym (along_assoc s _ _ _)

    pub group_formed : (k : ℕ) (ds : List (Node I T)) → Each k ds → Each (suc k) (group q ds)
    group_formed k [] w = tt
    group_formed k (a ∷ []) w = tt
    group_formed k (a ∷ b ∷ []) w = ((refl, (w.0, w.1.0)), tt)
    group_formed k (a ∷ b ∷ c ∷ []) w = ((refl, (w.0, (w.1.0, w.1.1.0))), tt)
    group_formed k (a ∷ b ∷ c ∷ d ∷ []) w = ((refl, (w.0, w.1.0)), ((refl, (w.1.1.0, w.1.1.1.0)), tt))
    group_formed k (a ∷ b ∷ c ∷ d ∷ e ∷ more) w = ((refl, (w.0, (w.1.0, w.1.1.0))), group_formed k (d ∷ e ∷ more) w.1.1.1)

    pub group_short : (ds : List (Node I T)) → 3 * length (group q ds) ≤ length ds + 2
    group_short [] = omega arith
    group_short (a ∷ []) = omega arith
    group_short (a ∷ b ∷ []) = omega arith
    group_short (a ∷ b ∷ c ∷ []) = omega arith
    group_short (a ∷ b ∷ c ∷ d ∷ []) = omega arith
    group_short (a ∷ b ∷ c ∷ d ∷ e ∷ more) = omega (arith, group_short (d ∷ e ∷ more))

    pub group_items : (ds : List (Node I T)) → 2 ≤ length ds → run front (group q ds) ≡ run front ds
    group_items [] h = refl
    group_items (a ∷ []) h = absurd (omega arith)
    group_items (a ∷ b ∷ []) h = simp (append_assoc, append-nil)
    group_items (a ∷ b ∷ c ∷ []) h = simp (append_assoc, append-nil)
    group_items (a ∷ b ∷ c ∷ d ∷ []) h = simp (append_assoc, append-nil)
    group_items (a ∷ b ∷ c ∷ d ∷ e ∷ more) h = ap (λ r. items_node (make3 q a b c) ++ r) (group_items (d ∷ e ∷ more) (omega arith)) ∙ simp append_assoc

    pub append_formed : (k : ℕ) (t : Tree I T) (ls : List (Node I T)) (u : Tree I T) → Formed k t → Each k ls → length ls ≤ 4 → Formed k u → Formed k (append q t ls u)
    append_formed k none ls u w e l v = pushed_formed front k ls u e v
    append_formed k (single x) ls u w e l v = push_formed q front k x (pushed q front ls u) w (pushed_formed front k ls u e v)
    append_formed k (deep y n f m b) ls none w e l v = pushed_formed back k (onto ls []) (deep y n f m b) (each_onto k ls [] e tt) w
    append_formed k (deep y n f m b) ls (single x) w e l v = push_formed q back k x (pushed q back (onto ls []) (deep y n f m b)) v (pushed_formed back k (onto ls []) (deep y n f m b) (each_onto k ls [] e tt) w)
    append_formed k (deep y n f m b) ls (deep z o g r c) w e l v =
        let mid = onto b (ls ++ g) in
        let short : length (group q mid) ≤ 4 = omega (arith, group_short mid, length_onto b (ls ++ g), length-append ls g, w.1.1.1.1.0, v.1.0.1.0) in
        (refl, (w.1.0, (append_formed (suc k) m (group q mid) r w.1.1.0 (group_formed k mid (each_onto k b (ls ++ g) w.1.1.1.1.1 (each_append k ls g e v.1.0.1.1))) short v.1.1.0, v.1.1.1)))
    append_formed k (deep y n f m b) ls torn w e l v = elim v [ ]
    append_formed k torn ls u w e l v = elim w [ ]

    pub append_items : (k : ℕ) (t : Tree I T) (ls : List (Node I T)) (u : Tree I T) → Formed k t → Each k ls → Formed k u → items (append q t ls u) ≡ items t ++ (run front ls ++ items u)
    append_items k none ls u w e v = pushed_items front k ls u e v
    append_items k (single x) ls u w e v = push_items q front k x (pushed q front ls u) (pushed_formed front k ls u e v) ∙ ap (λ r. items_node x ++ r) (pushed_items front k ls u e v)
    append_items k (deep y n f m b) ls none w e v = pushed_items back k (onto ls []) (deep y n f m b) (each_onto k ls [] e tt) w ∙ simp (run_back_onto, append-nil)
    append_items k (deep y n f m b) ls (single x) w e v =
        let o = each_onto k ls [] e tt in
        push_items q back k x (pushed q back (onto ls []) (deep y n f m b)) (pushed_formed back k (onto ls []) (deep y n f m b) o w) ∙ ap (λ r. r ++ items_node x) (pushed_items back k (onto ls []) (deep y n f m b) o w) ∙ simp (run_back_onto, append_assoc)
    append_items k (deep y n f m b) ls (deep z o g r c) w e v =
        let mid = onto b (ls ++ g) in
        let long : 2 ≤ length mid = omega (arith, length_onto b (ls ++ g), length-append ls g, w.1.1.1.0, v.1.0.0) in
        let ih = append_items (suc k) m (group q mid) r w.1.1.0 (group_formed k mid (each_onto k b (ls ++ g) w.1.1.1.1.1 (each_append k ls g e v.1.0.1.1))) v.1.1.0 in
        ap (λ x. run front f ++ (x ++ run back c)) (ih ∙ ap (λ x. items m ++ (x ++ items r)) (group_items mid long ∙ run_onto b (ls ++ g) ∙ ap (λ x. run back b ++ x) (run_append ls g))) ∙ simp append_assoc
    append_items k (deep y n f m b) ls torn w e v = elim v [ ]
    append_items k torn ls u w e v = elim w [ ]

pub all_onto : {A : Type 0} (P : A → Type 0) (xs ys : List A) → AllByRecursion P xs → AllByRecursion P ys → AllByRecursion P (onto xs ys)
all_onto P [] ys u v = v
all_onto P (x ∷ xs) ys u v = all_onto P xs (x ∷ ys) u.1 (u.0, v)

module _ {I T Q : Type 0} {k : Algebra I T Q} (laws : Laws k) where
  pub pushed_weighed : (s : Side) (ds : List (Node I T)) (t : Tree I T) → WeighedEach k ds → Weighed k t → Weighed k (pushed k s ds t)
  pushed_weighed s [] t u w = w
  pushed_weighed s (a ∷ more) t u w = push_weighed laws s a (pushed k s more t) u.0 (pushed_weighed s more t u.1 w)

  group_weighed : (ds : List (Node I T)) → WeighedEach k ds → WeighedEach k (group k ds)
  group_weighed [] w = tt
  group_weighed (a ∷ []) w = tt
  group_weighed (a ∷ b ∷ []) w = (weighed_two laws a b w.0 w.1.0, tt)
  group_weighed (a ∷ b ∷ c ∷ []) w = (weighed_three laws a b c w.0 w.1.0 w.1.1.0, tt)
  group_weighed (a ∷ b ∷ c ∷ d ∷ []) w = (weighed_two laws a b w.0 w.1.0, (weighed_two laws c d w.1.1.0 w.1.1.1.0, tt))
  group_weighed (a ∷ b ∷ c ∷ d ∷ e ∷ more) w = (weighed_three laws a b c w.0 w.1.0 w.1.1.0, group_weighed (d ∷ e ∷ more) w.1.1.1)

  pub append_weighed : (t : Tree I T) (ls : List (Node I T)) (u : Tree I T) → Weighed k t → WeighedEach k ls → Weighed k u → Weighed k (append k t ls u)
  append_weighed none ls u w e v = pushed_weighed front ls u e v
  append_weighed (single x) ls u w e v = push_weighed laws front x (pushed k front ls u) w (pushed_weighed front ls u e v)
  append_weighed (deep y n f m b) ls none w e v = pushed_weighed back (onto ls []) (deep y n f m b) (all_onto (WeighedNode k) ls [] e tt) w
  append_weighed (deep y n f m b) ls (single x) w e v = push_weighed laws back x (pushed k back (onto ls []) (deep y n f m b)) v (pushed_weighed back (onto ls []) (deep y n f m b) (all_onto (WeighedNode k) ls [] e tt) w)
  append_weighed (deep y n f m b) ls (deep z o g r c) w e v =
      let mid = onto b (ls ++ g) in
      let all = all_onto (WeighedNode k) b (ls ++ g) w.1.1.1 (All-append (WeighedNode k) ls g e v.1.0) in
      weighed_deep laws f (append k m (group k mid) r) c w.1.0 (append_weighed m (group k mid) r w.1.1.0 (group_weighed mid all) v.1.1.0) v.1.1.1
  append_weighed (deep y n f m b) ls torn w e v = tt
  append_weighed torn ls u w e v = tt

pub append_keeps : {I T Q : Type 0} (q : Algebra I T Q) → AppendKeeps q
append_keeps q d e t u h i =
    let w = (decides_formed d 0 t).0 h in
    let v = (decides_formed e 0 u).0 i in
    ((decides_formed _ 0 (append q t [] u)).1 (refl, append_formed q 0 t [] u w.1 tt (omega arith) v.1), append_items q 0 t [] u w.1 tt v.1)

pub append_measures : {I T Q : Type 0} {k : Algebra I T Q} → Laws k → AppendMeasures k
append_measures {k = k} laws t u w v = sound k (append k t [] u) (append_weighed laws t [] u (weighed k t w) tt (weighed k u v))
