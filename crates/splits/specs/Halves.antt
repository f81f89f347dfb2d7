-- What a split gives. Assumes nothing.
use Rattle.std.specs.Prelude.{◌≡◌, ℕ, List}
use Rattle.kinds.specs.Algebra.{Algebra}
use Rattle.model.specs.Tree.{Node, Tree, Side, front, back}
use Rattle.model.specs.Split.{Cut, Parts, parts, in_front, in_back}
use Rattle.cells.specs.Cells.{node, rooted}
use Rattle.cells.specs.Chain.{Grown}
use Rattle.cells.specs.declared.cell.Cell.{Cell}
use Rattle.cells.specs.declared.cell.Root.{Root}
use Rattle.cuts.specs.declared.cut.Split.{Split}

-- a level that is cut at a side; `far` are the fingers at the other
abbrev pub at_side : {I T Q : Type 0} → Algebra I T Q → Side → Tree I T → List (Node I T) → Cut I T → Parts I T
at_side q front m far c = in_front q m far c
at_side q back m far c = in_back q far m c

module _ {I T : Type 0} where
  abbrev pub parts_at : List (Cell I T) → ℕ → Split Root → Parts I T
  parts_at h k r = parts (rooted h k r.before) (node h k r.finger) (rooted h k r.after) r.offset

  pub record MadeParts (h h' : List (Cell I T)) (cost k : ℕ) (r : Split Root) (p : Parts I T) : Type 0 where
    pub grown : Grown h h' cost
    pub reads : parts_at h' k r ≡ p
