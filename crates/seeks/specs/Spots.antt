-- In which part of a row a question is met. Assumes nothing.
use Rattle.std.specs.Prelude.{◌≡◌, ℕ, ◌+◌, ◌≤◌, true, List, length}
use Rattle.std.specs.List.{AllByRecursion}
use Rattle.kinds.specs.Algebra.{Algebra}
use Rattle.model.specs.Tree.{Node, Tree, single, front, items_node, run, items, count_node}
use Rattle.model.specs.Forms.{FormedNode}
use Rattle.model.specs.Measures.{total}
use Rattle.model.specs.Seek.{seek_from}
use Rattle.model.specs.Statements.{Sound}
use Rattle.cells.specs.Cells.{node}
use Rattle.cells.specs.declared.cell.Cell.{Cell}
use Rattle.cells.specs.declared.cell.Weight.{Weight}
use Rattle.seeks.specs.declared.spot.Spot.{Spot}

-- sought among the items xs, before which p stands, is what is sought in the node a alone, before which w stands
pub record MetIn {I T Q : Type 0} (k : Algebra I T Q) (q : Q) (p : Weight T) (xs : List I) (w : Weight T) (a : Node I T) : Type 0 where
  pub sound : Sound k (single a)
  pub fair : k.fair w.total
  pub met : k.met (k.joined w.total (total k (items_node a))) q ≡ true
  pub same : seek_from k q p.items p.total xs ≡ seek_from k q w.items w.total (items_node a)

-- r is a finger within xs, before which p stands; it is the right one where what is stored is right and all of xs meet the question
pub record Spotted {I T Q : Type 0} (k : Algebra I T Q) (h : List (Cell I T)) (level : ℕ) (q : Q) (p : Weight T) (stored : Type 0) (xs : List I) (r : Spot T) : Type 0 where
  pub formed : FormedNode level (node h level r.finger)
  pub within : r.passed.items + count_node (node h level r.finger) ≤ p.items + length xs
  pub right : stored → k.fair p.total → k.met (k.joined p.total (total k xs)) q ≡ true → MetIn k q p xs r.passed (node h level r.finger)

abbrev pub SoundEach : {I T Q : Type 0} → Algebra I T Q → List (Node I T) → Type 0
SoundEach k ds = AllByRecursion (λ a. Sound k (single a)) ds

-- of fingers listed from the left
abbrev pub SpottedRun : {I T Q : Type 0} → Algebra I T Q → List (Cell I T) → ℕ → Q → Weight T → List (Node I T) → Spot T → Type 0
SpottedRun k h level q p ds r = Spotted k h level q p (SoundEach k ds) (run front ds) r

abbrev pub SpottedTree : {I T Q : Type 0} → Algebra I T Q → List (Cell I T) → ℕ → Q → Weight T → Tree I T → Spot T → Type 0
SpottedTree k h level q p t r = Spotted k h level q p (Sound k t) (items t) r
