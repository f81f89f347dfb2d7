-- What the pass over the cells does. Assumes nothing.
use Rattle.std.specs.Prelude.{◌≡◌, ℕ, ◌+◌, ◌<◌, ◌≤◌, true, false, cond, List, drop, slice_index_or, slice_set}
use Rattle.cells.specs.Cells.{blank, body, marked}
use Rattle.cells.specs.Chain.{chain, Linked, free_cells}
use Rattle.cells.specs.declared.cell.Cell.{Cell}
use Rattle.cells.specs.declared.cell.Body.TheVariants.{Free}
use Rattle.cells.specs.declared.cell.FreeList.{FreeList}
use Rattle.sweep.specs.Marks.{In}

module _ {I T : Type 0} where
  -- a marked cell loses its mark, and any other is freed
  pub data Judged (h : List (Cell I T)) (f : FreeList) (q : ℕ) (h' : List (Cell I T)) (f' : FreeList) : Type 0 where
    kept : marked h q ≡ true → h' ≡ slice_set h q (record { marked = false; link = 0; body = body h q }) → f' ≡ f → Judged h f q h' f'
    freed : marked h q ≡ false → h' ≡ slice_set h q (record { marked = false; link = f.first; body = Free }) → f' ≡ record { first = q; count = f.count + 1 } → Judged h f q h' f'

  -- the cells from i on are judged, and the list has those of them that are free
  pub record Judging (h : List (Cell I T)) (i : ℕ) (h' : List (Cell I T)) (f' : FreeList) : Type 0 where
    pub low : (q : ℕ) → q < i → slice_index_or h' q blank ≡ slice_index_or h q blank
    pub clear : (q : ℕ) → i ≤ q → marked h' q ≡ false
    pub high : (q : ℕ) → i ≤ q → body h' q ≡ cond (marked h q) (body h q) Free
    pub linked : Linked h' f'.count f'.first
    pub above : (q : ℕ) → In (chain h' f'.count f'.first) q → i ≤ q
    pub all : free_cells (drop i h') ≡ f'.count
