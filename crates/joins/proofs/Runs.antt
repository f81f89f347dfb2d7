-- Pushes one after another. Assumes nothing.
use Rattle.std.proofs.Common.{◌≡◌, ℕ, suc, ◌+◌, ◌-◌, ◌*◌, ◌≤◌, List, [], ◌∷◌, length, sym, ap, ◌∙◌, subst, inl, inr, suc-mul, mul-le-mul_left, arith}
use Rattle.model.specs.Tree.{Node, Tree, Side, count_node, count_run, count, levels}
use Rattle.kinds.specs.Algebra.{Algebra}
use Rattle.model.specs.Ends.{push}
use Rattle.model.specs.Append.{pushed}
use Rattle.model.specs.Forms.{FormedNode, Each, Formed}
use Rattle.model.proofs.Pushing.{push_formed, push_levels}
use Rattle.model.proofs.Appending.{pushed_formed}
use Rattle.cells.specs.Cells.{node, nodes, rooted}
use Rattle.cells.specs.Chain.{free_cells}
use Rattle.cells.specs.Made.{MadeTree}
use Rattle.cells.specs.declared.cell.Cell.{Cell}
use Rattle.cells.specs.declared.cell.Root.{Root}
use Rattle.cells.proofs.Frames.{keep_node, grown_more}
use Rattle.ends.proofs.Counting.{push_count}
use Rattle.ends.proofs.Pushing.{made_levels}

module _ {I T Q : Type 0} (q : Algebra I T Q) (s : Side) where
  push_deeper : (k : ℕ) (x : Node I T) (t : Tree I T) → Formed k t → levels t ≤ levels (push q s x t)
  push_deeper k x t w = elim (push_levels q s k x t w) [ inl e ↦ omega arith | inr e ↦ omega arith ]

  pub pushed_count : (k : ℕ) (ds : List (Node I T)) (t : Tree I T) → Each k ds → Formed k t → count (pushed q s ds t) ≡ count_run ds + count t
  pushed_count k [] t u w = omega arith
  pushed_count k (a ∷ ds) t u w = omega (arith, push_count q s k a (pushed q s ds t) (pushed_formed q s k ds t u.1 w), pushed_count k ds t u.1 w)

  pub pushed_deeper : (k : ℕ) (ds : List (Node I T)) (t : Tree I T) → Each k ds → Formed k t → levels t ≤ levels (pushed q s ds t)
  pushed_deeper k [] t u w = omega arith
  pushed_deeper k (a ∷ ds) t u w = let m = pushed_deeper k ds t u.1 w in let l = push_deeper k a (pushed q s ds t) (pushed_formed q s k ds t u.1 w) in omega arith

-- the fingers ps are x and then qs
module _ {I T Q : Type 0} (q : Algebra I T Q) (s : Side) (h : List (Cell I T)) (k : ℕ) (root : Root) (w : Formed k (rooted h k root)) (ps : List ℕ) (v : Each k (nodes h k ps)) (x : ℕ) (qs : List ℕ) (e : ps ≡ x ∷ qs) where
  all_of : pushed q s (nodes h k ps) (rooted h k root) ≡ push q s (node h k x) (pushed q s (nodes h k qs) (rooted h k root))
  all_of = ap (λ ps. pushed q s (nodes h k ps) (rooted h k root)) e

  parts : Each k (nodes h k (x ∷ qs))
  parts = subst (λ ps. Each k (nodes h k ps)) e v

  pub others_ready : Each k (nodes h k qs)
  others_ready = parts.1

  pub others_count : count_run (nodes h k ps) ≡ count_node (node h k x) + count_run (nodes h k qs)
  others_count = ap (λ ps. count_run (nodes h k ps)) e

  others_formed : Formed k (pushed q s (nodes h k qs) (rooted h k root))
  others_formed = pushed_formed q s k (nodes h k qs) (rooted h k root) parts.1 w

  pub others_levels : levels (pushed q s (nodes h k qs) (rooted h k root)) ≤ levels (pushed q s (nodes h k ps) (rooted h k root))
  others_levels = let l = push_deeper q s k (node h k x) (pushed q s (nodes h k qs) (rooted h k root)) others_formed in rw all_of l

  one_longer : length ps ≡ suc (length qs)
  one_longer = ap length e

  -- n turns of a and one of b, and n of the smaller a
  pub others_room : (n : ℕ) → 2 * (length ps * levels (pushed q s (nodes h k ps) (rooted h k root))) ≤ n → 2 * (length qs * levels (pushed q s (nodes h k qs) (rooted h k root))) ≤ n
  others_room n l =
      let a = levels (pushed q s (nodes h k qs) (rooted h k root)) in
      let b = levels (pushed q s (nodes h k ps) (rooted h k root)) in
      let less : a ≤ b = omega (arith, others_levels) in
      let m = mul-le-mul_left (length qs) less in
      let c = ap (λ i. i * b) one_longer ∙ suc-mul (length qs) b in
      omega (arith, m, c)

  module _ {h₁ : List (Cell I T)} {r : Root} (u : MadeTree h h₁ (2 * (length qs * r.levels)) k r (pushed q s (nodes h k qs) (rooted h k root))) where
    pub others_depth : r.levels ≡ levels (pushed q s (nodes h k qs) (rooted h k root))
    others_depth = made_levels u others_formed

    first_kept : node h₁ k x ≡ node h k x
    first_kept = keep_node u.grown.extends k x parts.0

    next_is : push q s (node h₁ k x) (rooted h₁ k r) ≡ pushed q s (nodes h k ps) (rooted h k root)
    next_is = rw (first_kept, u.reads) (sym all_of)

    pub next_levels : levels (push q s (node h₁ k x) (rooted h₁ k r)) ≡ levels (pushed q s (nodes h k ps) (rooted h k root))
    next_levels = ap levels next_is

    pub next_room : 2 * (length ps * levels (pushed q s (nodes h k ps) (rooted h k root))) ≤ free_cells h → 2 * levels (push q s (node h₁ k x) (rooted h₁ k r)) ≤ free_cells h₁ + 1
    next_room l =
        let b = levels (pushed q s (nodes h k ps) (rooted h k root)) in
        let less : r.levels ≤ b = omega (arith, others_levels, others_depth) in
        let m = mul-le-mul_left (length qs) less in
        let c = ap (λ i. i * b) one_longer ∙ suc-mul (length qs) b in
        omega (arith, m, c, u.grown.spent, next_levels)

    pub next_formed : Formed k (rooted h₁ k r)
    next_formed = subst (Formed k) (sym u.reads) others_formed

    pub first_ready : FormedNode k (node h₁ k x)
    first_ready = subst (FormedNode k) (sym first_kept) parts.0

    pub next_count : count_node (node h₁ k x) + count (rooted h₁ k r) ≡ count_run (nodes h k ps) + count (rooted h k root)
    next_count = omega (arith, ap count_node first_kept, ap count u.reads, pushed_count q s k (nodes h k qs) (rooted h k root) parts.1 w, others_count)

    pub pushed_all : {h₂ : List (Cell I T)} {o : Root} → MadeTree h₁ h₂ (2 * o.levels - 1) k o (push q s (node h₁ k x) (rooted h₁ k r)) → MadeTree h h₂ (2 * (length ps * o.levels)) k o (pushed q s (nodes h k ps) (rooted h k root))
    pushed_all {h₂} {o} z =
        let depth = made_levels z (push_formed q s k (node h₁ k x) (rooted h₁ k r) first_ready next_formed) in
        let deeper = push_deeper q s k (node h₁ k x) (rooted h₁ k r) next_formed in
        let same = ap levels u.reads in
        let less : r.levels ≤ o.levels = omega (arith, others_depth) in
        let m = mul-le-mul_left (length qs) less in
        let c = ap (λ i. i * o.levels) one_longer ∙ suc-mul (length qs) o.levels in
        record {
          grown = grown_more (2 * (length ps * o.levels)) u.grown z.grown (omega (arith, m, c));
          reads = z.reads ∙ next_is;
        }
