-- That a change of a finger in cells is one. Assumes nothing.
use Rattle.std.proofs.Common.{◌≡◌, ℕ, suc, ◌+◌, ◌<◌, ◌≤◌, List, [], length, set, Option, sym, ap, ◌∙◌, subst, arith}
use Rattle.std.proofs.lemmas.List.{length-set, length-map, map-set}
use Rattle.model.specs.Tree.{Node, front, run, count_run}
use Rattle.kinds.specs.Algebra.{Algebra}
use Rattle.model.specs.Ends.{fingers}
use Rattle.model.specs.Split.{cut}
use Rattle.model.specs.Replace.{swap, regroup, replaced_node}
use Rattle.model.specs.Forms.{FormedNode, Each}
use Rattle.model.proofs.Forms.{count_run_is}
use Rattle.model.proofs.Replacing.{SwappedAt, swap_cut, run_keeps, fingers_few}
use Rattle.cells.specs.Cells.{leaf_of, node, nodes}
use Rattle.cells.specs.Chain.{Taken}
use Rattle.cells.specs.Fingers.{listed_some}
use Rattle.cells.specs.Made.{MadeNode, MadeRun}
use Rattle.cells.specs.declared.cell.Cell.{Cell}
use Rattle.cells.specs.declared.cell.Body.TheVariants.{Item}
use Rattle.cells.specs.declared.fingers.Digit.{Digit as Filled}
use Rattle.cells.proofs.Frames.{keep_nodes, grown_more, grown_most}
use Rattle.cuts.specs.Cuts.{cut_at}
use Rattle.cuts.specs.declared.cut.Split.{Split}
use Rattle.cuts.proofs.Cutting.{cut_known}

-- a cut is at one of the fingers
pub index_within : {I T : Type 0} (h : List (Cell I T)) (k i : ℕ) (ps : List ℕ) → Each k (nodes h k ps) → i < count_run (nodes h k ps) → (r : Split (Option Filled)) → cut_at h k r ≡ cut i [] (nodes h k ps) → length (listed_some r.before) < length ps
index_within h k i ps v l r p = omega (arith, (cut_known h k i ps v l r p).few, length-map (listed_some r.before) (node h k), length-map ps (node h k))

module _ {I T Q : Type 0} (q : Algebra I T Q) (x : I) (h : List (Cell I T)) where
  pub leaf_made : {h' : List (Cell I T)} {r : ℕ} (k i : ℕ) (a : Node I T) → k ≡ 0 → Taken h h' r (Item x) → MadeNode h h' (k + 1) k r (replaced_node q x k i a)
  unfolding node replaced_node
  leaf_made {h'} {r} k i a z t = record { grown = grown_most (k + 1) t.grown (omega arith); reads = subst (λ k. node h' k r ≡ replaced_node q x k i a) (sym z) (ap leaf_of t.holds) }

  module _ (k : ℕ) (ps : List ℕ) (v : Each k (nodes h k ps)) (i : ℕ) (l : i < count_run (nodes h k ps)) where
    -- fingers cut at one of them, which was made anew
    module _ (r : Split (Option Filled)) (p : cut_at h k r ≡ cut i [] (nodes h k ps)) where
      pub run_made : {h₁ : List (Cell I T)} {c y : ℕ} → MadeNode h h₁ c k y (replaced_node q x k r.offset (node h k r.finger)) → (n : ℕ) → n ≡ length (listed_some r.before) → (ns : List ℕ) → ns ≡ set ps n y → MadeRun h h₁ c k ns (swap (replaced_node q x k) i (nodes h k ps))
      run_made {h₁} {c} {y} made n en ns e =
          let index : n ≡ length (nodes h k (listed_some r.before)) = en ∙ sym (length-map (listed_some r.before) (node h k)) in
          let same = subst (SwappedAt (replaced_node q x k) (nodes h k ps) (swap (replaced_node q x k) i (nodes h k ps))) (sym p) (swap_cut (replaced_node q x k) i [] (nodes h k ps) l) in
          record {
            grown = made.grown;
            reads = ap (nodes h₁ k) e ∙ map-set (node h₁ k) ps n y ∙ ap (λ xs. set xs n (node h₁ k y)) (keep_nodes made.grown.extends k ps v) ∙ ap (set (nodes h k ps) n) made.reads ∙ ap (λ n. set (nodes h k ps) n (replaced_node q x k r.offset (node h k r.finger))) index ∙ sym same;
          }

    -- fingers of which one was made anew
    module _ {h₁ : List (Cell I T)} {c : ℕ} {ns : List ℕ} (made : MadeRun h h₁ c k ns (swap (replaced_node q x k) i (nodes h k ps))) where
      pub swapped_ready : Each k (nodes h₁ k ns)
      swapped_ready = subst (Each k) (sym made.reads) (run_keeps q x k i (nodes h k ps) v l).0

      pub swapped_count : count_run (nodes h₁ k ns) ≡ count_run (nodes h k ps)
      swapped_count = count_run_is front k (nodes h₁ k ns) swapped_ready ∙ ap length (ap (run front) made.reads ∙ (run_keeps q x k i (nodes h k ps) v l).1.0) ∙ length-set (run front (nodes h k ps)) i x ∙ sym (count_run_is front k (nodes h k ps) v)

      -- as few as a node's fingers, where they were those of one
      pub swapped_few : (k' at : ℕ) → suc k ≡ k' → FormedNode k' (node h k' at) → nodes h k ps ≡ fingers front (node h (suc k) at) → (2 ≤ length ns) × (length ns ≤ 3)
      swapped_few k' at s w opened =
          let few = fingers_few k (node h (suc k) at) (subst (λ j. FormedNode j (node h j at)) (sym s) w) in
          let long = sym (length-map ns (node h₁ k)) ∙ ap length made.reads ∙ (run_keeps q x k i (nodes h k ps) v l).1.1 ∙ ap length opened in
          (omega (arith, long, few.0), omega (arith, long, few.1))

  -- a node of such fingers
  pub node_made : {h₁ h₂ : List (Cell I T)} {c o : ℕ} {ns : List ℕ} (k k' at i : ℕ) → suc k ≡ k' → (ps : List ℕ) → nodes h k ps ≡ fingers front (node h (suc k) at) → MadeRun h h₁ c k ns (swap (replaced_node q x k) i (nodes h k ps)) → c + 1 ≤ k' + 1 → MadeNode h₁ h₂ 1 (suc k) o (regroup q (nodes h₁ k ns)) → MadeNode h h₂ (k' + 1) k' o (replaced_node q x k' i (node h k' at))
  unfolding replaced_node
  node_made {h₁} {h₂} {c} {o} k k' at i s ps opened made d z = record {
    grown = grown_more (k' + 1) made.grown z.grown d;
    reads = subst (λ j. node h₂ j o ≡ replaced_node q x j i (node h j at)) s (z.reads ∙ ap (regroup q) (made.reads ∙ ap (swap (replaced_node q x k) i) opened));
  }
