-- What a memory holds, and how it reads. No contract cites these definitions yet. Assumes nothing.
use Rattle.std.specs.Prelude.{◌≡◌, ℕ, ◌+◌, ◌≤◌, List, [], map, length, Some, None, Option, slice_index_or}
use Rattle.std.specs.Option.{option_map, unwrap_or}
use Rattle.std.specs.List.{AllByRecursion}
use Rattle.kinds.specs.Algebra.{Algebra}
use Rattle.cells.specs.declared.cell.Cell.{Cell}
use Rattle.cells.specs.declared.cell.FreeList.{FreeList}
use Rattle.cells.specs.declared.cell.Root.{Root}
use Rattle.cells.specs.Chain.{Sound}
use Rattle.lists.specs.Lists.{tree_at, list_at, Whole, Right}
use Rattle.sweep.specs.declared.version.Version.{Version}
use Rattle.memory.specs.declared.memory.Memory.{Memory}

-- The cells, the table of version records and the list of the free cells, as values.
pub record State (I T : Type 0) : Type 0 where
  pub cells : List (Cell I T)
  pub table : List Version
  pub free : FreeList

abbrev pub state : {K I T Q : Type 0} → Memory K I T Q → State I T
state m = record { cells = m.cells.now; table = m.table.now; free = m.free }

-- At each place no version, or a list of items.
abbrev pub Book : Type 0 → Type 0
Book I = List (Option (List I))

module _ {I : Type 0} where
  -- What stands at a place; past the end, nothing.
  abbrev pub at : Book I → ℕ → Option (List I)
  at b p = slice_index_or b p None

  -- The items there; none where there is no version.
  abbrev pub items : Book I → ℕ → List I
  items b p = unwrap_or (at b p) []

module _ {I T : Type 0} where
  -- The book that a memory reads as.
  abbrev pub read : List (Cell I T) → Version → Option (List I)
  read h v = option_map (list_at h) v.root

  abbrev pub reads : State I T → Book I
  reads s = map (read s.cells) s.table

  -- The tree of a version is whole, and its list no longer than that of any kind.
  abbrev pub Held : List (Cell I T) → Option Root → Type 0
  Held h None = Unit {0}
  Held h (Some r) = Whole h r × (length (list_at h r) ≤ 65535)

  -- What every call finds and leaves, whatever the kind.
  pub record Intact (s : State I T) : Type 0 where
    pub cells_few : length s.cells ≤ 262144
    pub places_few : length s.table ≤ 64
    pub listed : Sound s.cells s.free
    pub held : AllByRecursion (λ v. Held s.cells v.root) s.table

  -- The stored totals of a version are those of its items, which the kind admits.
  abbrev pub Rightly : {Q : Type 0} → Algebra I T Q → List (Cell I T) → Option Root → Type 0
  Rightly k h None = Unit {0}
  Rightly k h (Some r) = Right k h r

  -- That of every version.
  abbrev pub Lawful : {Q : Type 0} → Algebra I T Q → State I T → Type 0
  Lawful k s = AllByRecursion (λ v. Rightly k s.cells v.root) s.table

  -- A draft is made, a list that has no place yet: at most `cost` free cells were taken, every place and every other
  -- draft reads as before, and r stands for xs.
  pub record Drafted (s s' : State I T) (cost : ℕ) (r : Root) (xs : List I) : Type 0 where
    pub intact : Intact s'
    pub table : s'.table ≡ s.table
    pub reads_same : reads s' ≡ reads s
    pub stays : (old : Root) → Whole s.cells old → tree_at s'.cells old ≡ tree_at s.cells old
    pub spent : s.free.count ≤ s'.free.count + cost
    pub whole : Whole s'.cells r
    pub list : list_at s'.cells r ≡ xs
