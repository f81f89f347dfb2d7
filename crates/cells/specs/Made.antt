-- What the making of a node or a tree promises. Assumes nothing.
use Rattle.std.specs.Prelude.{◌≡◌, ℕ, suc, ◌+◌, List}
use Rattle.model.specs.Tree.{Node, none, single, deep, Tree, count_run, count}
use Rattle.model.specs.Tree.{Side as End, front, back}
use Rattle.model.specs.Forms.{Each, Formed}
use Rattle.cells.specs.Cells.{node, nodes, rooted}
use Rattle.cells.specs.Fingers.{listed}
use Rattle.cells.specs.Chain.{Grown}
use Rattle.cells.specs.declared.cell.Cell.{Cell}
use Rattle.cells.specs.declared.cell.Root.{Root}
use Rattle.cells.specs.declared.cell.Weight.{Weight}
use Rattle.cells.specs.declared.fingers.Digit.{Digit}
use Rattle.cells.specs.declared.view.View.{View}
use Rattle.cells.specs.declared.view.View.TheVariants.{Empty, Single, Deep}

module _ {I T : Type 0} where
  pub record MadeNode (h h' : List (Cell I T)) (cost k p : ℕ) (a : Node I T) : Type 0 where
    pub grown : Grown h h' cost
    pub reads : node h' k p ≡ a

  pub record MadeTree (h h' : List (Cell I T)) (cost k : ℕ) (root : Root) (t : Tree I T) : Type 0 where
    pub grown : Grown h h' cost
    pub reads : rooted h' k root ≡ t

-- the fingers ps read as the nodes ns
pub record MadeRun {I T : Type 0} (h h' : List (Cell I T)) (cost k : ℕ) (ps : List ℕ) (ns : List (Node I T)) : Type 0 where
  pub grown : Grown h h' cost
  pub reads : nodes h' k ps ≡ ns

pub record Weighed {T : Type 0} (total : T) (items : ℕ) (w : Weight T) : Type 0 where
  pub total_is : w.total ≡ total
  pub items_are : w.items ≡ items

-- a level with its fingers at a side, and those at the other
abbrev pub deep_of : {I T : Type 0} → End → T → ℕ → List (Node I T) → Tree I T → List (Node I T) → Tree I T
deep_of front t n near m far = deep t n near m far
deep_of back t n near m far = deep t n far m near

module _ {I T : Type 0} where
  -- a level that has both ends, as it is seen from a side; its parts are formed
  pub record SeenDeep (h : List (Cell I T)) (k : ℕ) (s : End) (root : Root) (near : Digit) (m : Root) (far : Digit) : Type 0 where
    pub total : T
    pub items : ℕ
    pub is : rooted h k root ≡ deep_of s total items (nodes h k (listed near)) (rooted h (suc k) m) (nodes h k (listed far))
    pub levels : suc m.levels ≡ root.levels
    pub near_formed : Each k (nodes h k (listed near))
    pub middle_formed : Formed (suc k) (rooted h (suc k) m)
    pub far_formed : Each k (nodes h k (listed far))
    pub counts : count (rooted h k root) ≡ count_run (nodes h k (listed near)) + (count (rooted h (suc k) m) + count_run (nodes h k (listed far)))

  -- what a tree shows at its first level
  abbrev pub Seen : List (Cell I T) → ℕ → End → Root → View → Type 0
  Seen h k s root Empty = (rooted h k root ≡ none) × (root.levels ≡ 0)
  Seen h k s root (Single f) = (rooted h k root ≡ single (node h k f)) × (root.levels ≡ 1)
  Seen h k s root (Deep near m far) = SeenDeep h k s root near m far
