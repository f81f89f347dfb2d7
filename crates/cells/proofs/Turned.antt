-- Fingers listed from the other end. Assumes nothing.
use Rattle.std.proofs.Common.{◌≡◌, ℕ, ◌+◌, List, [], ◌∷◌, sym, refl, ap, ◌∙◌, subst, arith}
use Rattle.model.specs.Tree.{Node, count_run}
use Rattle.model.specs.Append.{onto}
use Rattle.model.specs.Forms.{Each}
use Rattle.model.proofs.Appending.{each_onto}
use Rattle.cells.specs.Cells.{nodes}
use Rattle.cells.specs.declared.cell.Cell.{Cell}

module _ {I T : Type 0} where
  pub nodes_onto : (h : List (Cell I T)) (k : ℕ) (xs ys : List ℕ) → nodes h k (onto xs ys) ≡ onto (nodes h k xs) (nodes h k ys)
  nodes_onto h k [] ys = refl
  nodes_onto h k (x ∷ xs) ys = nodes_onto h k xs (x ∷ ys)

  pub count_onto : (xs ys : List (Node I T)) → count_run (onto xs ys) ≡ count_run xs + count_run ys
  count_onto [] ys = omega arith
  count_onto (x ∷ xs) ys = omega (arith, count_onto xs (x ∷ ys))

-- the fingers ps turned round
module _ {I T : Type 0} (h : List (Cell I T)) (k : ℕ) (ps qs : List ℕ) (e : qs ≡ onto ps []) where
  pub turned_nodes : nodes h k qs ≡ onto (nodes h k ps) []
  turned_nodes = ap (nodes h k) e ∙ nodes_onto h k ps []

  pub turned_formed : Each k (nodes h k ps) → Each k (nodes h k qs)
  turned_formed w = subst (Each k) (sym turned_nodes) (each_onto k (nodes h k ps) [] w tt)

  pub turned_count : count_run (nodes h k qs) ≡ count_run (nodes h k ps)
  turned_count = ap count_run turned_nodes ∙ omega (arith, count_onto (nodes h k ps) [])
