-- What a sweep leaves. Assumes nothing.
use Rattle.std.specs.Prelude.{◌≡◌, ℕ, zero, suc, ◌+◌, true, false, cond, List, length}
use Rattle.cells.specs.Cells.{body, rooted}
use Rattle.cells.specs.Chain.{free_cells}
use Rattle.cells.specs.declared.cell.Cell.{Cell}
use Rattle.cells.specs.declared.cell.Body.TheVariants.{Free}
use Rattle.cells.specs.declared.cell.Root.{Root}
use Rattle.sweep.specs.declared.version.Version.{Version}
use Rattle.sweep.specs.Kept.{Kept, stood_on}

module _ {I T : Type 0} where
  -- how many of the first n cells no kept version stands on
  abbrev pub left_over : List (Cell I T) → List Version → ℕ → ℕ
  left_over h table zero = 0
  left_over h table (suc n) = cond (stood_on h table n) 0 1 + left_over h table n

  -- the cells that kept versions stand on have the bodies that they had, and every other cell is free
  pub record Swept (h : List (Cell I T)) (table : List Version) (h' : List (Cell I T)) : Type 0 where
    pub long : length h' ≡ length h
    pub kept : (p : ℕ) → stood_on h table p ≡ true → body h' p ≡ body h p
    pub freed : (p : ℕ) → stood_on h table p ≡ false → body h' p ≡ Free
    pub reads : (v : ℕ) (r : Root) → Kept table v r → rooted h' 0 r ≡ rooted h 0 r
    pub free : free_cells h' ≡ left_over h table (length h)
