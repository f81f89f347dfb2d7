-- What a pop gives. Assumes nothing.
use Rattle.std.specs.Prelude.{◌≡◌, ℕ, ◌+◌, List, Some, None, Option}
use Rattle.model.specs.Tree.{count_node, count}
use Rattle.model.specs.Ends.{Popped as Taken, empty, got}
use Rattle.model.specs.Forms.{FormedNode, Formed}
use Rattle.cells.specs.Cells.{node, rooted}
use Rattle.cells.specs.Chain.{Grown}
use Rattle.cells.specs.declared.cell.Cell.{Cell}
use Rattle.ends.specs.declared.pop.Popped.{Popped}

abbrev pub popped_levels : Option (Popped ℕ) → ℕ
popped_levels None = 0
popped_levels (Some x) = x.rest.levels

abbrev pub count_popped : {I T : Type 0} → Taken I T → ℕ
count_popped empty = 0
count_popped (got x rest) = count_node x + count rest

module _ {I T : Type 0} where
  abbrev pub popped_of : List (Cell I T) → ℕ → Option (Popped ℕ) → Taken I T
  popped_of h k None = empty
  popped_of h k (Some x) = got (node h k x.taken) (rooted h k x.rest)

  abbrev pub PoppedWell : List (Cell I T) → ℕ → Option (Popped ℕ) → Type 0
  PoppedWell h k None = Unit {0}
  PoppedWell h k (Some x) = FormedNode k (node h k x.taken) × Formed k (rooted h k x.rest)

  pub record MadePop (h h' : List (Cell I T)) (cost k : ℕ) (r : Option (Popped ℕ)) (p : Taken I T) : Type 0 where
    pub grown : Grown h h' cost
    pub reads : popped_of h' k r ≡ p
