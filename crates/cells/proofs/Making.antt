-- What a new cell reads as. Assumes nothing.
use Rattle.std.proofs.Common.{◌≡◌, ℕ, zero, suc, ◌+◌, ◌≤◌, true, eqb, List, [], ◌∷◌, length, get_or, ap, ◌∙◌, arith}
use Rattle.std.proofs.lemmas.Bool.Decides.{nat_tests}
use Rattle.std.proofs.lemmas.List.{length-map}
use Rattle.model.specs.Tree.{Node, single, deep, count_node, count_run, count, front, back}
use Rattle.kinds.specs.Algebra.{Algebra}
use Rattle.model.specs.Measures.{sum_node, sum_run, sum}
use Rattle.model.specs.Ends.{make}
use Rattle.model.specs.Replace.{regroup}
use Rattle.model.specs.Forms.{FormedNode, Each, Formed}
use Rattle.cells.specs.Cells.{node_from, branch_of, node, nodes, level_of, tree, rooted}
use Rattle.cells.specs.Fingers.{front_of, held}
use Rattle.cells.specs.Chain.{Taken}
use Rattle.cells.specs.Made.{MadeNode, MadeTree, Weighed}
use Rattle.cells.specs.declared.cell.Cell.{Cell}
use Rattle.cells.specs.declared.cell.Weight.{Weight}
use Rattle.cells.specs.declared.cell.Root.{Root}
use Rattle.cells.specs.declared.fingers.Fingers.{Fingers}
use Rattle.cells.specs.declared.cell.Body.TheVariants.{Node as Branch, Single, Deep}
use Rattle.cells.proofs.Frames.{keep_node, keep_nodes, keep_tree}

module _ {I T Q : Type 0} (q : Algebra I T Q) where
  -- a node of two or three fingers that was given the total and the count of what it is made of
  regrouped : (w : Weight T) (ns : List (Node I T)) → 2 ≤ length ns → length ns ≤ 3 → Weighed (sum_node q (regroup q ns)) (count_node (regroup q ns)) w → node_from w.total w.items ns ≡ regroup q ns
  regrouped w [] some few is = absurd (omega arith)
  regrouped w (a ∷ []) some few is = absurd (omega arith)
  regrouped w (a ∷ b ∷ []) some few is = rw (is.total_is, is.items_are)
  regrouped w (a ∷ b ∷ c ∷ []) some few is = rw (is.total_is, is.items_are)
  regrouped w (a ∷ b ∷ c ∷ d ∷ more) some few is = absurd (omega arith)

module _ {I T Q : Type 0} (q : Algebra I T Q) {h h' : List (Cell I T)} {r : ℕ} (k : ℕ) where
  pub made_node : {w : Weight T} {f : Fingers} (ps : List ℕ) → held f ≡ ps → Taken h h' r (Branch w f) → 2 ≤ length ps → length ps ≤ 3 → Each k (nodes h k ps) → Weighed (sum_node q (regroup q (nodes h k ps))) (count_node (regroup q (nodes h k ps))) w → MadeNode h h' 1 (suc k) r (regroup q (nodes h k ps))
  unfolding node
  made_node {w} {f} ps x u some few formed is = record {
    grown = u.grown;
    reads = ap (branch_of (node h' k)) u.holds ∙ rw (x, keep_nodes u.grown.extends k ps formed) (regrouped q w (nodes h k ps) (simp length-map some) (simp length-map few) is);
  }

  pub made_single : {f : ℕ} → Taken h h' r (Single f) → FormedNode k (node h k f) → MadeTree h h' 1 k (record { levels = 1; at = r }) (single (node h k f))
  unfolding tree
  made_single {f} u v = record {
    grown = u.grown;
    reads = ap (level_of 0 (node h' k) (tree h' 0 (suc k))) u.holds ∙ ap single (keep_node u.grown.extends k f v);
  }

  made_level : {w : Weight T} {m : Root} {f b : Fingers} (e : ℕ) → e ≡ suc m.levels → Taken h h' r (Deep w f m b) → tree h' e k r ≡ deep w.total w.items (nodes h' k (held f)) (rooted h' (suc k) m) (nodes h' k (held b))
  unfolding tree
  made_level {w} {m} {f} {b} e i u =
      let o : eqb m.levels m.levels ≡ true = grind (arith, nat_tests) in
      rw i (ap (level_of m.levels (node h' k) (tree h' m.levels (suc k))) u.holds ∙ rw o)

  pub made_deep : {w : Weight T} {e : ℕ} {m : Root} {f b : Fingers} (fs bs : List ℕ) → e ≡ m.levels + 1 → held f ≡ fs → held b ≡ bs → Taken h h' r (Deep w f m b) → Each k (nodes h k fs) → Formed (suc k) (rooted h (suc k) m) → Each k (nodes h k bs) → w.total ≡ q.joined (sum_run q front (nodes h k fs)) (q.joined (sum q (rooted h (suc k) m)) (sum_run q back (nodes h k bs))) → w.items ≡ count_run (nodes h k fs) + (count (rooted h (suc k) m) + count_run (nodes h k bs)) → MadeTree h h' 1 k (record { levels = e; at = r }) (make q (nodes h k fs) (rooted h (suc k) m) (nodes h k bs))
  made_deep {w} {e} {m} {f} {b} fs bs i x y u v formed z o c = record {
    grown = u.grown;
    reads = made_level e (omega arith) u ∙ rw (x, y, keep_nodes u.grown.extends k fs v, keep_tree u.grown.extends m.levels (suc k) m.at formed, keep_nodes u.grown.extends k bs z, o, c);
  }

-- two or three nodes, weighed
module _ {I T Q : Type 0} (q : Algebra I T Q) (h : List (Cell I T)) (k n : ℕ) (at : List ℕ) where
  abbrev of_at : ℕ → Node I T
  of_at i = node h k (get_or at i 0)

  abbrev pub Regrouped : Weight T → Type 0
  Regrouped w = Weighed (sum_node q (regroup q (nodes h k (front_of n at)))) (count_node (regroup q (nodes h k (front_of n at)))) w

  pub pair : (x y w : Weight T) → n ≡ 2 → Weighed (sum_node q (of_at 0)) (count_node (of_at 0)) x → Weighed (sum_node q (of_at 1)) (count_node (of_at 1)) y → Weighed (q.joined x.total y.total) (x.items + y.items) w → Regrouped w
  pair x y w e u v r = rw e (record { total_is = r.total_is ∙ rw (u.total_is, v.total_is); items_are = r.items_are ∙ rw (u.items_are, v.items_are) })

  pub triple : (x y z o w : Weight T) → n ≡ 3 → Weighed (sum_node q (of_at 0)) (count_node (of_at 0)) x → Weighed (sum_node q (of_at 1)) (count_node (of_at 1)) y → Weighed (sum_node q (of_at 2)) (count_node (of_at 2)) z → Weighed (q.joined y.total z.total) (y.items + z.items) o → Weighed (q.joined x.total o.total) (x.items + o.items) w → Regrouped w
  triple x y z o w e u v p r t = rw e (record { total_is = t.total_is ∙ rw (u.total_is, r.total_is, v.total_is, p.total_is); items_are = t.items_are ∙ rw (u.items_are, r.items_are, v.items_are, p.items_are) })

-- two or three nodes, each formed and no more than all of them
pub two_formed : {I T : Type 0} (h : List (Cell I T)) (k n : ℕ) (at : List ℕ) → 2 ≤ n → Each k (nodes h k (front_of n at)) → FormedNode k (node h k (get_or at 0 0)) × FormedNode k (node h k (get_or at 1 0))
two_formed h k zero at l w = absurd (omega arith)
two_formed h k (suc zero) at l w = absurd (omega arith)
two_formed h k (suc (suc n)) at l w = (w.0, w.1.0)

pub third_formed : {I T : Type 0} (h : List (Cell I T)) (k n : ℕ) (at : List ℕ) → 3 ≤ n → Each k (nodes h k (front_of n at)) → FormedNode k (node h k (get_or at 2 0))
third_formed h k zero at l w = absurd (omega arith)
third_formed h k (suc zero) at l w = absurd (omega arith)
third_formed h k (suc (suc zero)) at l w = absurd (omega arith)
third_formed h k (suc (suc (suc n))) at l w = w.1.1.0

pub two_counted : {I T : Type 0} (h : List (Cell I T)) (k n : ℕ) (at : List ℕ) → 2 ≤ n → count_node (node h k (get_or at 0 0)) + count_node (node h k (get_or at 1 0)) ≤ count_run (nodes h k (front_of n at))
two_counted h k zero at l = absurd (omega arith)
two_counted h k (suc zero) at l = absurd (omega arith)
two_counted h k (suc (suc n)) at l = omega arith

pub three_counted : {I T : Type 0} (h : List (Cell I T)) (k n : ℕ) (at : List ℕ) → 3 ≤ n → count_node (node h k (get_or at 0 0)) + (count_node (node h k (get_or at 1 0)) + count_node (node h k (get_or at 2 0))) ≤ count_run (nodes h k (front_of n at))
three_counted h k zero at l = absurd (omega arith)
three_counted h k (suc zero) at l = absurd (omega arith)
three_counted h k (suc (suc zero)) at l = absurd (omega arith)
three_counted h k (suc (suc (suc n))) at l = omega arith
