-- One list after another. Assumes nothing.
use Rattle.std.proofs.Common.{◌≡◌, ◌+◌, ◌*◌, ◌^◌, ◌<◌, ◌≤◌, List, [], ◌++◌, length, arith, length-append}
use Rattle.kinds.specs.Algebra.{Algebra, Laws}
use Rattle.model.specs.Tree.{items, levels}
use Rattle.model.specs.Append.{append}
use Rattle.model.specs.Forms.{Formed}
use Rattle.model.specs.Levels.{most_levels}
use Rattle.model.proofs.Appending.{append_formed, append_items, append_measures}
use Rattle.cells.specs.Made.{MadeTree}
use Rattle.cells.specs.declared.cell.Cell.{Cell}
use Rattle.cells.specs.declared.cell.Root.{Root}
use Rattle.lists.specs.Lists.{tree_at, list_at, Whole, Right, Made}
use Rattle.lists.proofs.Roots.{formed_at, low_levels, shallow, made_from, right_from}

module _ {I T Q : Type 0} (k : Algebra I T Q) (h : List (Cell I T)) (left right : Root) (u : Whole h left) (v : Whole h right) where
  formed : Formed 0 (append k (tree_at h left) [] (tree_at h right))
  formed = append_formed k 0 (tree_at h left) [] (tree_at h right) (formed_at h left u) tt (omega arith) (formed_at h right v)

  list : items (append k (tree_at h left) [] (tree_at h right)) ≡ list_at h left ++ list_at h right
  list = append_items k 0 (tree_at h left) [] (tree_at h right) (formed_at h left u) tt (formed_at h right v)

  pub join_levels : levels (append k (tree_at h left) [] (tree_at h right)) ≤ most_levels (length (list_at h left) + length (list_at h right))
  join_levels = rw (← length-append (list_at h left) (list_at h right), ← list) (low_levels (append k (tree_at h left) [] (tree_at h right)) formed)

  pub join_shallow : length (list_at h left) + length (list_at h right) < 2 ^ 32 → levels (append k (tree_at h left) [] (tree_at h right)) < 64
  join_shallow fits = omega (arith, join_levels, shallow (length (list_at h left) + length (list_at h right)) fits)

  module _ {h' : List (Cell I T)} {r : Root} (made : MadeTree h h' (10 * r.levels) 0 r (append k (tree_at h left) [] (tree_at h right))) where
    pub joined_made : Made h h' (10 * r.levels) r (list_at h left ++ list_at h right)
    joined_made = made_from (10 * r.levels) (list_at h left ++ list_at h right) made formed list (omega arith)

    pub joined_right : Laws k → Right k h left → Right k h right → Right k h' r
    joined_right laws a b = right_from k made (append_measures laws (tree_at h left) (tree_at h right) a b)
