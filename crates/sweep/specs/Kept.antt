-- The kept versions of a table, and the cells that they stand on. Assumes nothing.
use Rattle.std.specs.Prelude.{◌≡◌, ℕ, zero, suc, Bool, true, List, [], ◌∷◌, ◌++◌, Some, None, Option, slice_index_or, ◌==◌}
use Rattle.std.specs.List.{flat_map, list_any}
use Rattle.model.specs.Tree.{formed}
use Rattle.cells.specs.Cells.{body, rooted}
use Rattle.cells.specs.Fingers.{held}
use Rattle.cells.specs.declared.cell.Cell.{Cell}
use Rattle.cells.specs.declared.cell.Body.{Body}
use Rattle.cells.specs.declared.cell.Body.TheVariants.{Free, Item, Node as Branch, Single, Deep}
use Rattle.cells.specs.declared.cell.Root.{Root}
use Rattle.sweep.specs.declared.version.Version.{Version}

abbrev pub vacant : Version
vacant = record { root = None }

abbrev pub Kept : List Version → ℕ → Root → Type 0
Kept table v root = (slice_index_or table v vacant).root ≡ Some root

-- whether p is one of them
abbrev pub among : List ℕ → ℕ → Bool
among ps p = list_any (λ q. q == p) ps

module _ {I T : Type 0} where
  -- each kept version's tree is formed, of as many levels as its root says
  abbrev pub KeptWhole : List (Cell I T) → List Version → Type 0
  KeptWhole h table = (v : ℕ) (r : Root) → Kept table v r → formed r.levels 0 (rooted h 0 r) ≡ true

  abbrev pub parts_cells : (ℕ → List ℕ) → Body I T → List ℕ
  parts_cells below Free = []
  parts_cells below (Item i) = []
  parts_cells below (Branch w f) = flat_map below (held f)
  parts_cells below (Single f) = []
  parts_cells below (Deep w f m b) = []

  -- the cells of the node of depth k at p: its own, and those of its parts
  unfoldable pub node_cells : List (Cell I T) → ℕ → ℕ → List ℕ
  node_cells h zero p = p ∷ []
  node_cells h (suc k) p = p ∷ parts_cells (node_cells h k) (body h p)

  abbrev pub level_cells : (ℕ → List ℕ) → (ℕ → List ℕ) → Body I T → List ℕ
  level_cells here below Free = []
  level_cells here below (Item i) = []
  level_cells here below (Branch w f) = []
  level_cells here below (Single f) = here f
  level_cells here below (Deep w f m b) = flat_map here (held f) ++ (below m.at ++ flat_map here (held b))

  -- the cells of the tree of d levels at depth k whose first level is the cell p: its levels, nodes and items
  unfoldable pub tree_cells : List (Cell I T) → ℕ → ℕ → ℕ → List ℕ
  tree_cells h zero k p = []
  tree_cells h (suc d) k p = p ∷ level_cells (node_cells h k) (tree_cells h d (suc k)) (body h p)

  abbrev pub version_cells : List (Cell I T) → Option Root → List ℕ
  version_cells h None = []
  version_cells h (Some r) = tree_cells h r.levels 0 r.at

  -- whether some kept version stands on the cell p
  abbrev pub stood_on : List (Cell I T) → List Version → ℕ → Bool
  stood_on h table p = among (flat_map (λ v. version_cells h v.root) table) p
