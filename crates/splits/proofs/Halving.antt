-- What the halves of a tree are made of. Assumes nothing.
use Rattle.std.proofs.Common.{◌≡◌, ℕ, suc, ◌+◌, ◌≤◌, List, Option, sym, refl, ap, ◌∙◌, subst, arith}
use Rattle.std.proofs.lemmas.List.{length-map}
use Rattle.model.specs.Tree.{Node, Tree, Side, front, back, count_run, count}
use Rattle.kinds.specs.Algebra.{Algebra}
use Rattle.model.specs.Ends.{other, tree_of, trim, pop}
use Rattle.model.specs.Split.{cutting, parts}
use Rattle.model.specs.Forms.{FormedNode, Each, Digit, Formed}
use Rattle.cells.specs.Cells.{in_order, node, nodes, rooted}
use Rattle.cells.specs.Fingers.{listed, listed_some}
use Rattle.cells.specs.Chain.{Extends}
use Rattle.cells.specs.Made.{MadeTree}
use Rattle.cells.specs.declared.cell.Cell.{Cell}
use Rattle.cells.specs.declared.cell.Root.{Root}
use Rattle.cells.specs.declared.fingers.Digit.{Digit as Filled}
use Rattle.cells.proofs.Fours.{listed_length}
use Rattle.cells.proofs.Frames.{keep_node, keep_nodes, keep_tree, extends_more, grown_more}
use Rattle.splits.specs.Halves.{at_side, MadeParts}

module _ {I T : Type 0} where
  pub digit_of : (h : List (Cell I T)) (k : ℕ) (d : Filled) → Each k (nodes h k (listed d)) → Digit k (nodes h k (listed d))
  digit_of h k d w = let n = length-map (listed d) (node h k) ∙ listed_length d in let low = d.filled.0 in let top = d.filled.1 in (omega arith, (omega arith, w))

  -- two trees that were built one after the other, the first at the other end of what they are the halves of
  pub both_built : {h h₁ h₂ : List (Cell I T)} {c₁ c₂ k : ℕ} {a b : Root} {t u : Tree I T} (s : Side) (c x i : ℕ) → MadeTree h h₁ c₁ k a t → Formed k t → MadeTree h₁ h₂ c₂ k b u → FormedNode k (node h k x) → c₁ + c₂ ≤ c → (o : Root × Root) → o ≡ in_order s a b → MadeParts h h₂ c k (record { before = o.0; finger = x; offset = i; after = o.1 }) (parts (in_order s t u).0 (node h k x) (in_order s t u).1 i)
  both_built {h} {h₁} {h₂} {c₁} {c₂} {k} {a} {b} {t} {u} s c x i v w b-built y n o e =
      let kept : rooted h₂ k a ≡ t = keep_tree b-built.grown.extends a.levels k a.at (subst (Formed k) (sym v.reads) w) ∙ v.reads in
      let same = keep_node (extends_more v.grown.extends b-built.grown.extends) k x y in
      rw e (record { grown = grown_more c v.grown b-built.grown n; reads = go s kept same })
    where
      go : (s : Side) → rooted h₂ k a ≡ t → node h₂ k x ≡ node h k x → parts (rooted h₂ k (in_order s a b).0) (node h₂ k x) (rooted h₂ k (in_order s a b).1) i ≡ parts (in_order s t u).0 (node h k x) (in_order s t u).1 i
      go front kept same = rw (kept, same, b-built.reads)
      go back kept same = rw (kept, same, b-built.reads)

-- a level read before and after more cells were taken
module _ {I T Q : Type 0} (q : Algebra I T Q) (s : Side) {h h₁ : List (Cell I T)} (x : Extends h h₁) (k : ℕ) (near : List ℕ) (m : Root) (far : List ℕ) (u : Each k (nodes h k near)) (w : Formed (suc k) (rooted h (suc k) m)) (o : Each k (nodes h k far)) where
  near_kept : nodes h₁ k near ≡ nodes h k near
  near_kept = keep_nodes x k near u

  middle_kept : rooted h₁ (suc k) m ≡ rooted h (suc k) m
  middle_kept = keep_tree x m.levels (suc k) m.at w

  far_kept : nodes h₁ k far ≡ nodes h k far
  far_kept = keep_nodes x k far o

  pub near_ready : Each k (nodes h₁ k near)
  near_ready = subst (Each k) (sym near_kept) u

  pub middle_ready : Formed (suc k) (rooted h₁ (suc k) m)
  middle_ready = subst (Formed (suc k)) (sym middle_kept) w

  pub far_ready : Each k (nodes h₁ k far)
  far_ready = subst (Each k) (sym far_kept) o

  pub level_count : count_run (nodes h₁ k near) + (count (rooted h₁ (suc k) m) + count_run (nodes h₁ k far)) ≡ count_run (nodes h k near) + (count (rooted h (suc k) m) + count_run (nodes h k far))
  level_count = omega (arith, ap count_run near_kept, ap count middle_kept, ap count_run far_kept)

  pub trim_kept : {h₂ : List (Cell I T)} {c : ℕ} {r : Root} → MadeTree h₁ h₂ c k r (trim q s (nodes h₁ k near) (rooted h₁ (suc k) m) (nodes h₁ k far) (pop q s (rooted h₁ (suc k) m))) → MadeTree h₁ h₂ c k r (trim q s (nodes h k near) (rooted h (suc k) m) (nodes h k far) (pop q s (rooted h (suc k) m)))
  trim_kept v = record { grown = v.grown; reads = v.reads ∙ rw (near_kept, middle_kept, far_kept) }

pub tree_of_kept : {I T : Type 0} {Q : Type 0} (q : Algebra I T Q) (s : Side) {h h₁ h₂ : List (Cell I T)} {c k : ℕ} {r : Root} (x : Extends h h₁) (ps : List ℕ) (u : Each k (nodes h k ps)) → MadeTree h₁ h₂ c k r (tree_of q s (nodes h₁ k ps)) → MadeTree h₁ h₂ c k r (tree_of q s (nodes h k ps))
tree_of_kept q s {k = k} x ps u v = record { grown = v.grown; reads = v.reads ∙ ap (tree_of q s) (keep_nodes x k ps u) }

-- the fingers of a cut, as they lie from a side
module _ {I T Q : Type 0} (q : Algebra I T Q) (h : List (Cell I T)) (k : ℕ) (s : Side) (b a : Option Filled) (r : Option Filled × Option Filled) (e : r ≡ in_order s b a) where
  pub both_formed : Each k (nodes h k (listed_some b)) → Each k (nodes h k (listed_some a)) → Each k (nodes h k (listed_some r.0)) × Each k (nodes h k (listed_some r.1))
  both_formed u v = rw e (go s)
    where
      go : (s : Side) → Each k (nodes h k (listed_some (in_order s b a).0)) × Each k (nodes h k (listed_some (in_order s b a).1))
      go front = (u, v)
      go back = (v, u)

  pub both_count : count_run (nodes h k (listed_some r.0)) + count_run (nodes h k (listed_some r.1)) ≡ count_run (nodes h k (listed_some b)) + count_run (nodes h k (listed_some a))
  both_count = rw e (go s)
    where
      go : (s : Side) → count_run (nodes h k (listed_some (in_order s b a).0)) + count_run (nodes h k (listed_some (in_order s b a).1)) ≡ count_run (nodes h k (listed_some b)) + count_run (nodes h k (listed_some a))
      go front = refl
      go back = omega arith

  -- what a level is that is cut at the side
  pub side_is : (m : Tree I T) (far : List (Node I T)) (x : Node I T) (i : ℕ) → parts (in_order s (tree_of q (other s) (nodes h k (listed_some r.0))) (trim q s (nodes h k (listed_some r.1)) m far (pop q s m))).0 x (in_order s (tree_of q (other s) (nodes h k (listed_some r.0))) (trim q s (nodes h k (listed_some r.1)) m far (pop q s m))).1 i ≡ at_side q s m far (cutting (nodes h k (listed_some b)) x (nodes h k (listed_some a)) i)
  side_is m far x i = rw e (go s)
    where
      go : (s : Side) → parts (in_order s (tree_of q (other s) (nodes h k (listed_some (in_order s b a).0))) (trim q s (nodes h k (listed_some (in_order s b a).1)) m far (pop q s m))).0 x (in_order s (tree_of q (other s) (nodes h k (listed_some (in_order s b a).0))) (trim q s (nodes h k (listed_some (in_order s b a).1)) m far (pop q s m))).1 i ≡ at_side q s m far (cutting (nodes h k (listed_some b)) x (nodes h k (listed_some a)) i)
      go front = refl
      go back = refl
