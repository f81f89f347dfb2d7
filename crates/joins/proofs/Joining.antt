-- That an append in cells is an append. Assumes nothing.
use Rattle.std.proofs.Common.{◌≡◌, ℕ, suc, ◌+◌, ◌*◌, ◌≤◌, List, [], ◌∷◌, ◌++◌, length, sym, refl, ap, ◌∙◌, subst, mul-le-mul_right, arith, length-append}
use Rattle.std.proofs.lemmas.List.{length-map, map-append}
use Rattle.model.specs.Tree.{Node, Tree, none, single, deep, front, back, run, items, count_run, count, levels}
use Rattle.kinds.specs.Algebra.{Algebra}
use Rattle.model.specs.Ends.{make}
use Rattle.model.specs.Append.{onto, pushed, group, append}
use Rattle.model.specs.Forms.{Each, Formed}
use Rattle.model.proofs.Forms.{count_is, count_run_is}
use Rattle.model.proofs.Appending.{each_append, each_onto, group_formed, group_items, append_formed, append_items}
use Rattle.cells.specs.Cells.{node, nodes, tree, rooted}
use Rattle.cells.specs.Chain.{Extends}
use Rattle.cells.specs.Fingers.{listed}
use Rattle.cells.specs.Made.{MadeTree, SeenDeep}
use Rattle.cells.specs.declared.cell.Cell.{Cell}
use Rattle.cells.specs.declared.cell.Root.{Root}
use Rattle.cells.specs.declared.fingers.Digit.{Digit as Filled}
use Rattle.cells.proofs.Frames.{keep_nodes, keep_tree, extends_more, grown_more}
use Rattle.cells.proofs.Fours.{listed_length}
use Rattle.cells.proofs.Opened.{levels_read}
use Rattle.cells.specs.Made.{MadeRun}
use Rattle.ends.proofs.Pushing.{made_levels, made_as}
use Rattle.cells.proofs.Turned.{nodes_onto, count_onto, turned_nodes}

module _ {I T : Type 0} where
  -- five pushes at most
  pub base_room : (n : ℕ) (ps : List ℕ) (t u : Tree I T) → t ≡ u → length ps ≤ 5 → 10 * levels t ≤ n → 2 * (length ps * levels u) ≤ n
  base_room n ps t u e few l = let m = mul-le-mul_right (levels u) few in omega (arith, m, ap levels e)

  pub base_made : {h h' : List (Cell I T)} {k : ℕ} {r : Root} (ps : List ℕ) (t u : Tree I T) → t ≡ u → length ps ≤ 5 → MadeTree h h' (2 * (length ps * r.levels)) k r u → MadeTree h h' (10 * r.levels) k r t
  base_made {h} {h'} {k} {r} ps t u e few v = let m = mul-le-mul_right r.levels few in made_as (10 * r.levels) t v (sym e) (omega (arith, m))

  count_both : (xs ys : List (Node I T)) → count_run (xs ++ ys) ≡ count_run xs + count_run ys
  count_both [] ys = omega arith
  count_both (x ∷ xs) ys = omega (arith, count_both xs ys)

  count_group : {Q : Type 0} (q : Algebra I T Q) (k : ℕ) (ds : List (Node I T)) → Each k ds → 2 ≤ length ds → count_run (group q ds) ≡ count_run ds
  count_group q k ds w l = count_run_is front (suc k) (group q ds) (group_formed q k ds w) ∙ ap length (group_items q ds l) ∙ sym (count_run_is front k ds w)

  count_append : {Q : Type 0} (q : Algebra I T Q) (k : ℕ) (t : Tree I T) (ls : List (Node I T)) (u : Tree I T) → Formed k t → Each k ls → length ls ≤ 4 → Formed k u → count (append q t ls u) ≡ count t + (count_run ls + count u)
  count_append q k t ls u w e l v =
      let a = count_is k (append q t ls u) (append_formed q k t ls u w e l v) ∙ ap length (append_items q k t ls u w e v) ∙ length-append (items t) (run front ls ++ items u) in
      omega (arith, a, length-append (run front ls) (items u), count_is k t w, count_run_is front k ls e, count_is k u v)

onto_append : {A : Type 0} (xs zs ys : List A) → onto xs zs ++ ys ≡ onto xs (zs ++ ys)
onto_append [] zs ys = refl
onto_append (x ∷ xs) zs ys = onto_append xs (x ∷ zs) ys

-- a tree at one end is empty or single
module _ {I T Q : Type 0} (q : Algebra I T Q) (h : List (Cell I T)) (k : ℕ) where
  pub onto_empty : (t : Tree I T) (ls : List (Node I T)) (u : Tree I T) → t ≡ none → append q t ls u ≡ pushed q front ls u
  onto_empty t ls u e = ap (λ t. append q t ls u) e

  pub onto_single : (t : Tree I T) (x : ℕ) (ls : List ℕ) (u : Tree I T) → t ≡ single (node h k x) → append q t (nodes h k ls) u ≡ pushed q front (nodes h k (x ∷ ls)) u
  onto_single t x ls u e = ap (λ t. append q t (nodes h k ls) u) e

  -- the loose fingers, turned round
  module _ (ls turned : List ℕ) (o : turned ≡ onto ls []) where
    pub with_empty : (t : Tree I T) (y : T) (n : ℕ) (f : List (Node I T)) (m : Tree I T) (b : List (Node I T)) (u : Tree I T) → t ≡ deep y n f m b → u ≡ none → append q t (nodes h k ls) u ≡ pushed q back (nodes h k turned) t
    with_empty t y n f m b u e i = rw (e, i, turned_nodes h k ls turned o)

    pub with_single : (t : Tree I T) (y : T) (n : ℕ) (f : List (Node I T)) (m : Tree I T) (b : List (Node I T)) (u : Tree I T) (x : ℕ) → t ≡ deep y n f m b → u ≡ single (node h k x) → append q t (nodes h k ls) u ≡ pushed q back (nodes h k (x ∷ turned)) t
    with_single t y n f m b u x e i = rw (e, i, turned_nodes h k ls turned o)

-- two trees that have both ends; ps is the row between them
module _ {I T Q : Type 0} (q : Algebra I T Q) (h : List (Cell I T)) (k : ℕ) (left right : Root) (ls : List ℕ) (v : Each k (nodes h k ls)) {f₁ b₁ f₂ b₂ : Filled} {m r : Root} (a : SeenDeep h k front left f₁ m b₁) (b : SeenDeep h k front right f₂ r b₂) (ps : List ℕ) (e : ps ≡ onto (listed b₁) [] ++ (ls ++ listed f₂)) where
  row_nodes : nodes h k ps ≡ onto (nodes h k (listed b₁)) (nodes h k ls ++ nodes h k (listed f₂))
  row_nodes = ap (nodes h k) (e ∙ onto_append (listed b₁) [] (ls ++ listed f₂)) ∙ nodes_onto h k (listed b₁) (ls ++ listed f₂) ∙ ap (onto (nodes h k (listed b₁))) (map-append (node h k) ls (listed f₂))

  pub row_formed : Each k (nodes h k ps)
  row_formed = subst (Each k) (sym row_nodes) (each_onto k (nodes h k (listed b₁)) (nodes h k ls ++ nodes h k (listed f₂)) a.far_formed (each_append k (nodes h k ls) (nodes h k (listed f₂)) v b.near_formed))

  pub row_counts : count_run (nodes h k ps) ≡ count_run (nodes h k (listed b₁)) + (count_run (nodes h k ls) + count_run (nodes h k (listed f₂)))
  row_counts = omega (arith, ap count_run row_nodes, count_onto (nodes h k (listed b₁)) (nodes h k ls ++ nodes h k (listed f₂)), count_both (nodes h k ls) (nodes h k (listed f₂)))

  pub row_long : 2 ≤ length ps
  row_long =
      omega (arith, ap length e, length-append (onto (listed b₁) []) (ls ++ listed f₂), length-append ls (listed f₂), onto_length (listed b₁) [], listed_length b₁, b₁.filled.0, listed_length f₂, f₂.filled.0)
    where
      onto_length : (xs ys : List ℕ) → length (onto xs ys) ≡ length xs + length ys
      onto_length [] ys = omega arith
      onto_length (x ∷ xs) ys = omega (arith, onto_length xs (x ∷ ys))

  joined_is : append q (rooted h k left) (nodes h k ls) (rooted h k right) ≡ make q (nodes h k (listed f₁)) (append q (rooted h (suc k) m) (group q (nodes h k ps)) (rooted h (suc k) r)) (nodes h k (listed b₂))
  joined_is = rw (a.is, b.is, row_nodes)

  pub joined_depth : levels (append q (rooted h k left) (nodes h k ls) (rooted h k right)) ≡ suc (levels (append q (rooted h (suc k) m) (group q (nodes h k ps)) (rooted h (suc k) r)))
  joined_depth = ap levels joined_is

  module _ {h₁ : List (Cell I T)} (gs : Filled) (u : MadeRun h h₁ (length (listed gs)) (suc k) (listed gs) (group q (nodes h k ps))) {k' : ℕ} (i : suc k ≡ k') where
    left_kept : tree h₁ m.levels k' m.at ≡ rooted h (suc k) m
    left_kept = subst (λ j. rooted h₁ j m ≡ rooted h (suc k) m) i (keep_tree u.grown.extends m.levels (suc k) m.at a.middle_formed)

    right_kept : tree h₁ r.levels k' r.at ≡ rooted h (suc k) r
    right_kept = subst (λ j. rooted h₁ j r ≡ rooted h (suc k) r) i (keep_tree u.grown.extends r.levels (suc k) r.at b.middle_formed)

    groups_read : nodes h₁ k' (listed gs) ≡ group q (nodes h k ps)
    groups_read = subst (λ j. nodes h₁ j (listed gs) ≡ group q (nodes h k ps)) i u.reads

    groups_formed : Each (suc k) (group q (nodes h k ps))
    groups_formed = group_formed q k (nodes h k ps) row_formed

    groups_few : length (group q (nodes h k ps)) ≤ 4
    groups_few = omega (arith, sym (length-map (listed gs) (node h₁ k')) ∙ ap length groups_read, listed_length gs, gs.filled.1)

    groups_count : count_run (group q (nodes h k ps)) ≡ count_run (nodes h k ps)
    groups_count = let l : 2 ≤ length (nodes h k ps) = simp length-map row_long in count_group q k (nodes h k ps) row_formed l

    pub inner_is : append q (tree h₁ m.levels k' m.at) (nodes h₁ k' (listed gs)) (tree h₁ r.levels k' r.at) ≡ append q (rooted h (suc k) m) (group q (nodes h k ps)) (rooted h (suc k) r)
    inner_is = rw (left_kept, right_kept, groups_read)

    pub left_ready : Formed k' (tree h₁ m.levels k' m.at)
    left_ready = rw left_kept (subst (λ j. Formed j (rooted h (suc k) m)) i a.middle_formed)

    pub right_ready : Formed k' (tree h₁ r.levels k' r.at)
    right_ready = rw right_kept (subst (λ j. Formed j (rooted h (suc k) r)) i b.middle_formed)

    pub groups_ready : Each k' (nodes h₁ k' (listed gs))
    groups_ready = rw groups_read (subst (λ j. Each j (group q (nodes h k ps))) i groups_formed)

    pub inner_count : count (tree h₁ m.levels k' m.at) + (count_run (nodes h₁ k' (listed gs)) + count (tree h₁ r.levels k' r.at)) ≤ count (rooted h k left) + (count_run (nodes h k ls) + count (rooted h k right))
    inner_count = omega (arith, ap count left_kept, ap count right_kept, ap count_run groups_read, groups_count, row_counts, a.counts, b.counts)

    module _ {h₂ : List (Cell I T)} {o : Root} (below : MadeTree h₁ h₂ (10 * o.levels) k' o (append q (tree h₁ m.levels k' m.at) (nodes h₁ k' (listed gs)) (tree h₁ r.levels k' r.at))) where
      below_reads : rooted h₂ (suc k) o ≡ append q (rooted h (suc k) m) (group q (nodes h k ps)) (rooted h (suc k) r)
      below_reads = subst (λ j. rooted h₂ j o ≡ append q (rooted h (suc k) m) (group q (nodes h k ps)) (rooted h (suc k) r)) (sym i) (below.reads ∙ inner_is)

      pub below_ready : Formed (suc k) (rooted h₂ (suc k) o)
      below_ready = subst (Formed (suc k)) (sym below_reads) (append_formed q (suc k) (rooted h (suc k) m) (group q (nodes h k ps)) (rooted h (suc k) r) a.middle_formed groups_formed groups_few b.middle_formed)

      pub below_depth : o.levels ≡ levels (append q (rooted h (suc k) m) (group q (nodes h k ps)) (rooted h (suc k) r))
      below_depth = sym (levels_read h₂ o.levels (suc k) o.at below_ready) ∙ ap levels below_reads

      after : Extends h h₂
      after = extends_more u.grown.extends below.grown.extends

      front_kept : nodes h₂ k (listed f₁) ≡ nodes h k (listed f₁)
      front_kept = keep_nodes after k (listed f₁) a.near_formed

      back_kept : nodes h₂ k (listed b₂) ≡ nodes h k (listed b₂)
      back_kept = keep_nodes after k (listed b₂) b.far_formed

      pub front_ready : Each k (nodes h₂ k (listed f₁))
      front_ready = subst (Each k) (sym front_kept) a.near_formed

      pub back_ready : Each k (nodes h₂ k (listed b₂))
      back_ready = subst (Each k) (sym back_kept) b.far_formed

      pub joined_count : count_run (nodes h₂ k (listed f₁)) + (count (rooted h₂ (suc k) o) + count_run (nodes h₂ k (listed b₂))) ≡ count (rooted h k left) + (count_run (nodes h k ls) + count (rooted h k right))
      joined_count =
          let n = count_append q (suc k) (rooted h (suc k) m) (group q (nodes h k ps)) (rooted h (suc k) r) a.middle_formed groups_formed groups_few b.middle_formed in
          omega (arith, n, ap count below_reads, ap count_run front_kept, ap count_run back_kept, groups_count, row_counts, a.counts, b.counts)

      pub appended : {h₃ : List (Cell I T)} {z : Root} → Formed k (rooted h k left) → Formed k (rooted h k right) → length ls ≤ 4 → MadeTree h₂ h₃ 1 k z (make q (nodes h₂ k (listed f₁)) (rooted h₂ (suc k) o) (nodes h₂ k (listed b₂))) → MadeTree h h₃ (10 * z.levels) k z (append q (rooted h k left) (nodes h k ls) (rooted h k right))
      appended {h₃} {z} wl wr short w =
          let few : length (listed gs) ≤ 4 = omega (arith, listed_length gs, gs.filled.1) in
          let same : make q (nodes h₂ k (listed f₁)) (rooted h₂ (suc k) o) (nodes h₂ k (listed b₂)) ≡ append q (rooted h k left) (nodes h k ls) (rooted h k right) = rw (front_kept, back_kept, below_reads) (sym joined_is) in
          let formed : Formed k (append q (rooted h k left) (nodes h k ls) (rooted h k right)) = append_formed q k (rooted h k left) (nodes h k ls) (rooted h k right) wl v (simp length-map short) wr in
          let depth = made_levels (made_as 1 _ w same (omega arith)) formed ∙ joined_depth in
          record {
            grown = grown_more (10 * z.levels) u.grown (grown_more (10 * o.levels + 1) below.grown w.grown (omega arith)) (omega (arith, depth, below_depth));
            reads = w.reads ∙ same;
          }
