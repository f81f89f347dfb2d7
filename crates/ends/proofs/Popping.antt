-- That a pop in cells is a pop. Assumes nothing.
use Rattle.std.proofs.Common.{◌≡◌, ℕ, suc, ◌+◌, ◌≤◌, List, [], ◌∷◌, ◌++◌, length, Some, None, Option, sym, refl, ap, ◌∙◌, subst, inl, inr, arith}
use Rattle.std.proofs.lemmas.List.{length-map, map-append}
use Rattle.model.specs.Tree.{Node, Tree, none, Side, front, back, count_run, count, levels, items_node, items}
use Rattle.kinds.specs.Algebra.{Algebra}
use Rattle.model.specs.Ends.{deep_at, tree_of, trim, pop, empty, got}
use Rattle.model.specs.Ends.{Popped as Taken}
use Rattle.model.specs.Forms.{Each, Formed}
use Rattle.model.proofs.Forms.{count_is, count_node_is, length_along}
use Rattle.model.proofs.Popping.{Came, popped}
use Rattle.cells.specs.Cells.{node, nodes, tree, rooted}
use Rattle.cells.specs.Fingers.{listed}
use Rattle.cells.specs.Made.{MadeTree, deep_of, SeenDeep}
use Rattle.cells.specs.declared.cell.Cell.{Cell}
use Rattle.cells.specs.declared.cell.Root.{Root}
use Rattle.cells.specs.declared.fingers.Digit.{Digit as Filled}
use Rattle.cells.proofs.Frames.{keep_node, keep_nodes, grown_more}
use Rattle.cells.proofs.Opened.{levels_read, tree_none}
use Rattle.ends.specs.Pops.{popped_of, PoppedWell, popped_levels, count_popped, MadePop}
use Rattle.ends.specs.declared.pop.Popped.{Popped}
use Rattle.ends.proofs.Pushing.{made_as}

module _ {I T Q : Type 0} (q : Algebra I T Q) where
  tree_of_pair : (s : Side) (ds : List (Node I T)) (a : Node I T) → 1 ≤ length ds → length ds ≤ 3 → deep_at q s ds none (a ∷ []) ≡ tree_of q s (ds ++ (a ∷ []))
  tree_of_pair s [] a l m = absurd (omega arith)
  tree_of_pair s (x ∷ []) a l m = refl
  tree_of_pair front (x ∷ y ∷ []) a l m = refl
  tree_of_pair back (x ∷ y ∷ []) a l m = refl
  tree_of_pair front (x ∷ y ∷ z ∷ []) a l m = refl
  tree_of_pair back (x ∷ y ∷ z ∷ []) a l m = refl
  tree_of_pair s (x ∷ y ∷ z ∷ w ∷ more) a l m = absurd (omega arith)

  pop_near : (s : Side) (t : T) (n : ℕ) (a : Node I T) (ds : List (Node I T)) (m : Tree I T) (far : List (Node I T)) → pop q s (deep_of s t n (a ∷ ds) m far) ≡ got a (trim q s ds m far (pop q s m))
  pop_near front t n a ds m far = refl
  pop_near back t n a ds m far = refl

  trim_some : (s : Side) (ds : List (Node I T)) (m : Tree I T) (far : List (Node I T)) (p : Taken I T) → 1 ≤ length ds → deep_at q s ds m far ≡ trim q s ds m far p
  trim_some s [] m far p l = absurd (omega arith)
  trim_some s (a ∷ ds) m far p l = refl

  trim_none : (s : Side) (m : Tree I T) (far : List (Node I T)) (p : Taken I T) → trim q s [] none far p ≡ trim q s [] m far p
  trim_none s m far empty = refl
  trim_none s m far (got a rest) = refl

  pub tree_from_more : (s : Side) (h : List (Cell I T)) (k : ℕ) (ps ns fs : List ℕ) (a : ℕ) → ps ≡ ns ++ (a ∷ []) → fs ≡ a ∷ [] → 1 ≤ length ns → length ns ≤ 3 → deep_at q s (nodes h k ns) (tree h 0 (suc k) 0) (nodes h k fs) ≡ tree_of q s (nodes h k ps)
  tree_from_more s h k ps ns fs a e f l m =
      let some : 1 ≤ length (nodes h k ns) = simp length-map (omega arith) in
      let few : length (nodes h k ns) ≤ 3 = simp length-map (omega arith) in
      rw (e, f, tree_none h 0 (suc k) 0 refl, map-append) (tree_of_pair s (nodes h k ns) (node h k a) some few)

module _ {I T : Type 0} (h : List (Cell I T)) (k : ℕ) where
  pub each_append : (ps rs : List ℕ) → Each k (nodes h k (ps ++ rs)) → Each k (nodes h k ps) × Each k (nodes h k rs)
  each_append [] rs w = (tt, w)
  each_append (p ∷ ps) rs w = let v = each_append ps rs w.1 in ((w.0, v.0), v.1)

  pub count_append : (ps rs : List ℕ) → count_run (nodes h k (ps ++ rs)) ≡ count_run (nodes h k ps) + count_run (nodes h k rs)
  count_append [] rs = omega arith
  count_append (p ∷ ps) rs = omega (arith, count_append ps rs)

module _ {I T : Type 0} where
  -- what came of a tree m
  came_well : (s : Side) (h : List (Cell I T)) (k : ℕ) (m : Tree I T) (r : Option (Popped ℕ)) → Formed k m → Came k s m (popped_of h k r) → PoppedWell h k r × ((popped_levels r ≤ levels m) × (count_popped (popped_of h k r) ≤ count m))
  came_well s h k m None w c = (tt, (omega arith, omega arith))
  came_well s h k m (Some x) w c =
      let l = levels_read h x.rest.levels k x.rest.at c.1.0 in
      let n = count_is k m w ∙ ap length c.1.1.0 ∙ length_along s (items_node (node h k x.taken)) (items (rooted h k x.rest)) in
      ((c.0, c.1.0), (elim c.1.1.1 [ inl e ↦ omega arith | inr e ↦ omega arith ], omega (arith, n, count_node_is k _ c.0, count_is k _ c.1.0)))

-- the middle m of a level whose fingers at the side are gone
module _ {I T Q : Type 0} (q : Algebra I T Q) (s : Side) (h : List (Cell I T)) (k : ℕ) (m : Root) (w : Formed (suc k) (rooted h (suc k) m)) (far : List ℕ) (v : Each k (nodes h k far)) {h₁ : List (Cell I T)} {c k' : ℕ} {r : Option (Popped ℕ)} (i : suc k ≡ k') (below : MadePop h h₁ c k' r (pop q s (tree h m.levels k' m.at))) where
  below_reads : popped_of h₁ (suc k) r ≡ pop q s (rooted h (suc k) m)
  below_reads = subst (λ j. popped_of h₁ j r ≡ pop q s (rooted h j m)) (sym i) below.reads

  well : PoppedWell h₁ (suc k) r × ((popped_levels r ≤ levels (rooted h (suc k) m)) × (count_popped (popped_of h₁ (suc k) r) ≤ count (rooted h (suc k) m)))
  well = came_well s h₁ (suc k) (rooted h (suc k) m) r w (subst (Came (suc k) s (rooted h (suc k) m)) (sym below_reads) (popped q s (suc k) (rooted h (suc k) m) w))

  pub below_well : PoppedWell h₁ (suc k) r
  below_well = well.0

  pub below_shallow : popped_levels r ≤ m.levels
  below_shallow = let l = levels_read h m.levels (suc k) m.at w in let u = well.1.0 in omega arith

  far_kept : nodes h₁ k far ≡ nodes h k far
  far_kept = keep_nodes below.grown.extends k far v

  pub far_ready : Each k (nodes h₁ k far)
  far_ready = subst (Each k) (sym far_kept) v

  pub refill_count : count_popped (popped_of h₁ (suc k) r) + count_run (nodes h₁ k far) ≤ count (rooted h (suc k) m) + count_run (nodes h k far)
  refill_count = let n = ap count_run far_kept in let u = well.1.1 in omega arith

  pub emptied : {h₂ : List (Cell I T)} {o : Root} (e : ℕ) → c + 1 ≤ e → MadeTree h₁ h₂ 1 k o (trim q s [] none (nodes h₁ k far) (popped_of h₁ (suc k) r)) → MadeTree h h₂ e k o (trim q s [] (rooted h (suc k) m) (nodes h k far) (pop q s (rooted h (suc k) m)))
  emptied e l u = record {
    grown = grown_more e below.grown u.grown l;
    reads = u.reads ∙ rw (far_kept, below_reads) (trim_none q s (rooted h (suc k) m) (nodes h k far) (pop q s (rooted h (suc k) m)));
  }

-- a tree that has fingers a and then `others` at the side
module _ {I T Q : Type 0} (q : Algebra I T Q) (s : Side) (h : List (Cell I T)) (k : ℕ) (root : Root) {near far : Filled} {m : Root} (seen : SeenDeep h k s root near m far) (a : ℕ) (others : List ℕ) (split : listed near ≡ a ∷ others) where
  popped_is : pop q s (rooted h k root) ≡ got (node h k a) (trim q s (nodes h k others) (rooted h (suc k) m) (nodes h k (listed far)) (pop q s (rooted h (suc k) m)))
  popped_is = ap (pop q s) (seen.is ∙ ap (λ ps. deep_of s seen.total seen.items (nodes h k ps) (rooted h (suc k) m) (nodes h k (listed far))) split) ∙ pop_near q s seen.total seen.items (node h k a) (nodes h k others) _ _

  first_formed : Each k (nodes h k (a ∷ others))
  first_formed = subst (λ ps. Each k (nodes h k ps)) split seen.near_formed

  pub pop_first : {h' : List (Cell I T)} {o : Root} → MadeTree h h' root.levels k o (trim q s (nodes h k others) (rooted h (suc k) m) (nodes h k (listed far)) (pop q s (rooted h (suc k) m))) → MadePop h h' root.levels k (Some (record { taken = a; rest = o })) (pop q s (rooted h k root))
  pop_first u = record { grown = u.grown; reads = rw (keep_node u.grown.extends k a first_formed.0, u.reads) (sym popped_is) }

-- fingers that are left at the side
pub trimmed_near : {I T : Type 0} {Q : Type 0} (q : Algebra I T Q) (s : Side) {h h' : List (Cell I T)} {k : ℕ} {o : Root} (near : List ℕ) (m : Tree I T) (far : List (Node I T)) (e : ℕ) → 1 ≤ length near → 1 ≤ e → MadeTree h h' 1 k o (deep_at q s (nodes h k near) m far) → MadeTree h h' e k o (trim q s (nodes h k near) m far (pop q s m))
trimmed_near q s {h} {h'} {k} near m far e l z u =
    let some : 1 ≤ length (nodes h k near) = simp length-map l in
    made_as e _ u (trim_some q s (nodes h k near) m far (pop q s m) some) z
