-- That a split in cells is a split. Assumes nothing.
use Rattle.std.proofs.Common.{◌≡◌, ℕ, suc, ◌+◌, ◌-◌, ◌*◌, ◌<◌, ◌≤◌, Bool, true, false, ltb, List, Option, [], sym, refl, ap, ◌∙◌, subst, suc-mul, arith}
use borrow.Author.Tests.{lt-true, le-false}
use Rattle.model.specs.Tree.{Tree, single, front, items, count_node, count_run, count, levels}
use Rattle.kinds.specs.Algebra.{Algebra}
use Rattle.model.specs.Ends.{fingers}
use Rattle.model.specs.Append.{onto}
use Rattle.model.specs.Split.{choose, cut, Parts, parts, in_front, in_back, in_node, in_middle, split}
use Rattle.model.specs.Forms.{Each}
use Rattle.model.proofs.Forms.{count_node_is, count_is}
use Rattle.model.proofs.Splitting.{PartsWell, WellParted, parts_counts, split_well}
use Rattle.cells.specs.Cells.{node, nodes, rooted}
use Rattle.cells.specs.Fingers.{listed}
use Rattle.cells.specs.Made.{SeenDeep}
use Rattle.cells.specs.declared.cell.Cell.{Cell}
use Rattle.cells.specs.declared.cell.Root.{Root}
use Rattle.cells.specs.declared.fingers.Digit.{Digit as Filled}
use Rattle.cells.proofs.Frames.{keep_nodes, grown_none, grown_more, grown_most}
use Rattle.cells.proofs.Opened.{levels_read, tree_none}
use Rattle.cuts.specs.Cuts.{cut_at}
use Rattle.cuts.specs.declared.cut.Split.{Split}
use Rattle.splits.specs.Halves.{parts_at, MadeParts}
use Rattle.cells.proofs.Turned.{nodes_onto}

pub squares : (e d : ℕ) → suc e ≡ d → d * d + d ≡ (e * e + e) + (2 * e + 2)
squares e d s = subst (λ d. d * d + d ≡ (e * e + e) + (2 * e + 2)) s (omega (arith, suc-mul e e))

module _ {I T : Type 0} where
  pub parts_as : {h h' : List (Cell I T)} {m k : ℕ} {r : Split Root} {p : Parts I T} (c : ℕ) (p' : Parts I T) → MadeParts h h' m k r p → p ≡ p' → m ≤ c → MadeParts h h' c k r p'
  parts_as c p' u e l = record { grown = grown_most c u.grown l; reads = u.reads ∙ e }

  pub single_done : {Q : Type 0} (q : Algebra I T Q) (h : List (Cell I T)) (c k x i : ℕ) (t : Tree I T) → t ≡ single (node h k x) → MadeParts h h c k (record { before = record { levels = 0; at = 0 }; finger = x; offset = i; after = record { levels = 0; at = 0 } }) (split q i t)
  single_done q h c k x i t e = record { grown = grown_none c; reads = ap (λ t. parts t (node h k x) t i) (tree_none h 0 k 0 refl) ∙ ap (split q i) (sym e) }

  -- a level whose middle is in halves
  pub middle_is : {Q : Type 0} (q : Algebra I T Q) (h : List (Cell I T)) (k : ℕ) (near far : List ℕ) (o : Split Root) (ps : List ℕ) → nodes h k ps ≡ fingers front (node h (suc k) o.finger) → (r : Split (Option Filled)) → cut_at h k r ≡ cut o.offset [] (nodes h k ps) → in_node q (nodes h k near) (rooted h (suc k) o.before) (rooted h (suc k) o.after) (nodes h k far) (cut_at h k r) ≡ in_middle q (nodes h k near) (nodes h k far) (parts_at h (suc k) o)
  middle_is q h k near far o ps opened r e = ap (in_node q (nodes h k near) (rooted h (suc k) o.before) (rooted h (suc k) o.after) (nodes h k far)) (e ∙ ap (cut o.offset []) opened)

-- a level, from the left
module _ {I T Q : Type 0} (q : Algebra I T Q) (h : List (Cell I T)) (k i : ℕ) (root : Root) {near far : Filled} {m : Root} (seen : SeenDeep h k front root near m far) where
  middle : Tree I T
  middle = rooted h (suc k) m

  -- what the answers y and z make of it, where j is the position past its front
  levelled : ℕ → Bool → Bool → Parts I T
  levelled j y z = choose y (in_front q middle (nodes h k (listed far)) (cut i [] (nodes h k (listed near)))) (choose z (in_middle q (nodes h k (listed near)) (nodes h k (listed far)) (split q j middle)) (in_back q (nodes h k (listed near)) middle (cut (j - count middle) [] (onto (nodes h k (listed far)) []))))

  level_is : (j : ℕ) (y z : Bool) → j ≡ i - count_run (nodes h k (listed near)) → y ≡ ltb i (count_run (nodes h k (listed near))) → z ≡ ltb j (count middle) → levelled j y z ≡ split q i (rooted h k root)
  unfolding middle levelled
  level_is j y z ej ey ez = ap (levelled j y) ez ∙ ap (λ y. levelled j y (ltb j (count middle))) ey ∙ ap (λ j. levelled j (ltb i (count_run (nodes h k (listed near)))) (ltb j (count middle))) ej ∙ sym (ap (split q i) seen.is)

  -- it is cut at its front
  pub front_done : {h' : List (Cell I T)} {o : Split Root} (j : ℕ) → (i ≡ j) × (j < count_run (nodes h k (listed near))) → (r : Split (Option Filled)) → cut_at h k r ≡ cut j [] (nodes h k (listed near)) → (c : ℕ) → m.levels + 2 ≤ c → MadeParts h h' (m.levels + 2) k o (in_front q (rooted h (suc k) m) (nodes h k (listed far)) (cut_at h k r)) → MadeParts h h' c k o (split q i (rooted h k root))
  unfolding middle levelled
  front_done j y r e c l u =
      let here = e ∙ ap (λ j. cut j [] (nodes h k (listed near))) (sym y.0) in
      parts_as c _ u (ap (in_front q middle (nodes h k (listed far))) here ∙ level_is (i - count_run (nodes h k (listed near))) true (ltb (i - count_run (nodes h k (listed near))) (count middle)) refl (lt-true i (count_run (nodes h k (listed near))) (omega (arith, y.0, y.1))) refl) l

  -- it is cut past its front, at n from there on
  module _ (n : ℕ) (past : i ≡ count_run (nodes h k (listed near)) + n) where
    past_front : false ≡ ltb i (count_run (nodes h k (listed near)))
    past_front = le-false i (count_run (nodes h k (listed near))) (omega (arith, past))

    at : n ≡ i - count_run (nodes h k (listed near))
    at = omega (arith, past)

    -- it is cut at its back
    pub back_done : {h' : List (Cell I T)} {o : Split Root} (j : ℕ) → n ≡ count (rooted h (suc k) m) + j → (ps : List ℕ) → ps ≡ onto (listed far) [] → (r : Split (Option Filled)) → cut_at h k r ≡ cut j [] (nodes h k ps) → (c : ℕ) → m.levels + 2 ≤ c → MadeParts h h' (m.levels + 2) k o (in_back q (nodes h k (listed near)) (rooted h (suc k) m) (cut_at h k r)) → MadeParts h h' c k o (split q i (rooted h k root))
    unfolding middle levelled
    back_done j ej ps turned r e c l u =
        let to : j ≡ n - count middle = omega (arith, ej) in
        let here = e ∙ ap (λ j. cut j [] (nodes h k ps)) to ∙ ap (cut (n - count middle) []) (ap (nodes h k) turned ∙ nodes_onto h k (listed far) []) in
        parts_as c _ u (ap (in_back q (nodes h k (listed near)) middle) here ∙ level_is n false false at past_front (le-false n (count middle) (omega (arith, ej)))) l

    -- it is cut in its middle
    module _ (within : n < count (rooted h (suc k) m)) (k' : ℕ) (s : suc k ≡ k') {h₁ : List (Cell I T)} {c : ℕ} (o : Split Root) (made : MadeParts h h₁ c k' o (split q n (rooted h k' m))) where
      inner_is : parts_at h₁ (suc k) o ≡ split q n middle
      unfolding middle
      inner_is = subst (λ j. parts_at h₁ j o ≡ split q n (rooted h j m)) (sym s) made.reads

      pub inner : PartsWell (suc k) n (levels (rooted h (suc k) m)) (items (rooted h (suc k) m)) (rooted h₁ (suc k) o.before) (node h₁ (suc k) o.finger) (rooted h₁ (suc k) o.after) o.offset
      unfolding middle
      inner = subst (WellParted (suc k) n (levels middle) (items middle)) (sym inner_is) (split_well q (suc k) n middle seen.middle_formed (let c = count_is (suc k) middle seen.middle_formed in omega (arith, c, within)))

      pub inner_within : o.offset < count_node (node h₁ (suc k) o.finger)
      inner_within = omega (arith, inner.within, count_node_is (suc k) (node h₁ (suc k) o.finger) inner.here)

      pub left_levels : o.before.levels ≤ m.levels
      left_levels = let a = levels_read h₁ o.before.levels (suc k) o.before.at inner.before in let b = levels_read h m.levels (suc k) m.at seen.middle_formed in let l = inner.left_levels in omega arith

      pub right_levels : o.after.levels ≤ m.levels
      right_levels = let a = levels_read h₁ o.after.levels (suc k) o.after.at inner.after in let b = levels_read h m.levels (suc k) m.at seen.middle_formed in let l = inner.right_levels in omega arith

      near_kept : nodes h₁ k (listed near) ≡ nodes h k (listed near)
      near_kept = keep_nodes made.grown.extends k (listed near) seen.near_formed

      far_kept : nodes h₁ k (listed far) ≡ nodes h k (listed far)
      far_kept = keep_nodes made.grown.extends k (listed far) seen.far_formed

      pub near_ready : Each k (nodes h₁ k (listed near))
      near_ready = subst (Each k) (sym near_kept) seen.near_formed

      pub far_ready : Each k (nodes h₁ k (listed far))
      far_ready = subst (Each k) (sym far_kept) seen.far_formed

      pub inner_fits : count_run (nodes h₁ k (listed near)) + (count (rooted h₁ (suc k) o.before) + (count_node (node h₁ (suc k) o.finger) + (count (rooted h₁ (suc k) o.after) + count_run (nodes h₁ k (listed far))))) ≡ count (rooted h k root)
      inner_fits = omega (arith, seen.counts, parts_counts inner, count_is (suc k) (rooted h (suc k) m) seen.middle_formed, ap count_run near_kept, ap count_run far_kept)

      pub middle_done : {h₂ : List (Cell I T)} {x : Split Root} (d : ℕ) → c + (o.before.levels + o.after.levels + 2) ≤ d → MadeParts h₁ h₂ (o.before.levels + o.after.levels + 2) k x (in_middle q (nodes h₁ k (listed near)) (nodes h₁ k (listed far)) (parts_at h₁ (suc k) o)) → MadeParts h h₂ d k x (split q i (rooted h k root))
      unfolding middle levelled
      middle_done d e x =
          let kept = ap (λ x. in_middle q x (nodes h₁ k (listed far)) (parts_at h₁ (suc k) o)) near_kept ∙ ap (λ x. in_middle q (nodes h k (listed near)) x (parts_at h₁ (suc k) o)) far_kept ∙ ap (in_middle q (nodes h k (listed near)) (nodes h k (listed far))) inner_is in
          record { grown = grown_more d made.grown x.grown e; reads = x.reads ∙ kept ∙ level_is n false true at past_front (lt-true n (count middle) within) }
