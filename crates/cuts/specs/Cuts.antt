-- What a cut of fingers gives. Assumes nothing.
use Rattle.std.specs.Prelude.{ℕ, List, Option}
use Rattle.model.specs.Split.{Cut, cutting}
use Rattle.cells.specs.Cells.{node, nodes}
use Rattle.cells.specs.Fingers.{listed_some}
use Rattle.cells.specs.declared.cell.Cell.{Cell}
use Rattle.cells.specs.declared.fingers.Digit.{Digit}
use Rattle.cuts.specs.declared.cut.Split.{Split}

abbrev pub cut_at : {I T : Type 0} → List (Cell I T) → ℕ → Split (Option Digit) → Cut I T
cut_at h k c = cutting (nodes h k (listed_some c.before)) (node h k c.finger) (nodes h k (listed_some c.after)) c.offset
