-- What the steps of the marking do. Assumes nothing.
use Rattle.std.specs.Prelude.{◌≡◌, ℕ, ◌+◌, ◌-◌, ◌^◌, ◌<◌, ◌≤◌, true, not, cond, ◌⊎◌, List, [], ◌∷◌, ◌++◌, length, Some, None, Option, count_by, nat_le}
use Rattle.std.specs.List.{flat_map}
use Rattle.cells.specs.Cells.{body, link, marked}
use Rattle.cells.specs.Chain.{chain}
use Rattle.cells.specs.Fingers.{held}
use Rattle.cells.specs.declared.cell.Cell.{Cell}
use Rattle.cells.specs.declared.cell.Body.{Body}
use Rattle.cells.specs.declared.cell.Body.TheVariants.{Free, Item, Node as Branch, Single, Deep}
use Rattle.cells.specs.declared.cell.Root.{Root}
use Rattle.sweep.specs.declared.mark.WorkList.{WorkList}
use Rattle.sweep.specs.declared.version.Version.{Version}
use Rattle.sweep.specs.Kept.{stood_on}

-- q is one of them: by recursion, as a chain goes, where the library's `Contains` goes by index
abbrev pub In : List ℕ → ℕ → Type 0
In [] q = ⊥
In (p ∷ more) q = (p ≡ q) ⊎ In more q

abbrev pub first_cell : Root → List ℕ
first_cell r = cond (nat_le 1 r.levels) (r.at ∷ []) []

abbrev pub first_of : Option Root → List ℕ
first_of None = []
first_of (Some r) = first_cell r

abbrev pub root_cell : Version → List ℕ
root_cell v = first_of v.root

abbrev pub root_cells : List Version → List ℕ
root_cells table = flat_map root_cell table

module _ {I T : Type 0} where
  abbrev pub children : Body I T → List ℕ
  children Free = []
  children (Item i) = []
  children (Branch w f) = held f
  children (Single f) = f ∷ []
  children (Deep w f m b) = held f ++ (first_cell m ++ held b)

  abbrev pub AllNear : List (Cell I T) → List ℕ → Type 0
  AllNear h ps = (q : ℕ) → In ps q → q < length h

  abbrev pub unmarked : List (Cell I T) → ℕ
  unmarked h = count_by (λ (c : Cell I T). not c.marked) h

  -- the cell q is on the work list
  abbrev pub Waits : List (Cell I T) → WorkList → ℕ → Type 0
  Waits h w q = In (chain h w.count w.first) q

  -- what is on the work list is marked, and what is not marked has place there
  pub record Ready (h : List (Cell I T)) (w : WorkList) : Type 0 where
    pub few : length h < 2 ^ 32
    pub room : w.count + unmarked h ≤ length h
    pub listed : (q : ℕ) → Waits h w q → marked h q ≡ true

  -- the cells ps are marked, and those of them that were not wait now; no mark is lost, and nothing else changed
  pub record Marks (h : List (Cell I T)) (w : WorkList) (ps : List ℕ) (h' : List (Cell I T)) (w' : WorkList) : Type 0 where
    pub ready : Ready h' w'
    pub long : length h' ≡ length h
    pub same : (q : ℕ) → body h' q ≡ body h q
    pub keeps : (q : ℕ) → marked h q ≡ true → marked h' q ≡ true
    pub here : (q : ℕ) → In ps q → marked h' q ≡ true
    pub fresh : (q : ℕ) → marked h' q ≡ true → (marked h q ≡ true) ⊎ (In ps q × Waits h' w' q)
    pub waiting : (q : ℕ) → Waits h w q → Waits h' w' q
    pub tally : w'.count + unmarked h' ≡ w.count + unmarked h

  -- the work list without its first cell
  abbrev pub popped : List (Cell I T) → WorkList → WorkList
  popped h w = record { first = link h w.first; count = w.count - 1 }

  -- the marked cells are those that the kept versions stand on
  pub record Marked (h : List (Cell I T)) (table : List Version) (h' : List (Cell I T)) : Type 0 where
    pub long : length h' ≡ length h
    pub same : (q : ℕ) → body h' q ≡ body h q
    pub are : (q : ℕ) → marked h' q ≡ stood_on h table q
