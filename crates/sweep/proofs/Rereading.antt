-- A tree reads the same where the cells that it stands on have the same bodies. Assumes nothing.
use Rattle.std.proofs.Common.{◌≡◌, ℕ, zero, suc, cond, eqb, List, [], ◌∷◌, refl, ap, ◌∙◌, inl, inr}
use Rattle.std.specs.List.{flat_map}
use Rattle.model.specs.Tree.{single, torn}
use Rattle.cells.specs.Cells.{body, leaf_of, node_from, branch_of, node, nodes, level_of, tree}
use Rattle.cells.specs.Fingers.{held}
use Rattle.cells.specs.declared.cell.Cell.{Cell}
use Rattle.cells.specs.declared.cell.Body.{Body}
use Rattle.cells.specs.declared.cell.Body.TheVariants.{Free, Item, Node as Branch, Single, Deep}
use Rattle.sweep.specs.Kept.{parts_cells, node_cells, level_cells, tree_cells}
use Rattle.sweep.specs.Marks.{In}
use Rattle.sweep.proofs.Members.{in_left, in_right}

module _ {I T : Type 0} (h h' : List (Cell I T)) where
  abbrev Same : List ℕ → Type 0
  Same ps = (q : ℕ) → In ps q → body h' q ≡ body h q

  same_list : (k : ℕ) → ((p : ℕ) → Same (node_cells h k p) → node h' k p ≡ node h k p) → (ps : List ℕ) → Same (flat_map (node_cells h k) ps) → nodes h' k ps ≡ nodes h k ps
  same_list k below [] s = refl
  same_list k below (p ∷ ps) s =
      rw (below p (λ q i. s q (in_left (node_cells h k p) _ q i)), same_list k below ps (λ q i. s q (in_right (node_cells h k p) _ q i)))

  same_branch : (k : ℕ) (b : Body I T) → ((p : ℕ) → Same (node_cells h k p) → node h' k p ≡ node h k p) → Same (parts_cells (node_cells h k) b) → branch_of (node h' k) b ≡ branch_of (node h k) b
  same_branch k Free below s = refl
  same_branch k (Item i) below s = refl
  same_branch k (Branch n f) below s = ap (node_from n.total n.items) (same_list k below (held f) s)
  same_branch k (Single f) below s = refl
  same_branch k (Deep n f m b) below s = refl

  pub same_node : (k p : ℕ) → Same (node_cells h k p) → node h' k p ≡ node h k p
  unfolding node node_cells
  same_node zero p s = ap leaf_of (s p (inl refl))
  same_node (suc k) p s = ap (branch_of (node h' k)) (s p (inl refl)) ∙ same_branch k (body h p) (same_node k) (λ q i. s q (inr i))

  same_level : (d k : ℕ) (b : Body I T) → ((p : ℕ) → Same (tree_cells h d (suc k) p) → tree h' d (suc k) p ≡ tree h d (suc k) p) → Same (level_cells (node_cells h k) (tree_cells h d (suc k)) b) → level_of d (node h' k) (tree h' d (suc k)) b ≡ level_of d (node h k) (tree h d (suc k)) b
  same_level d k Free below s = refl
  same_level d k (Item i) below s = refl
  same_level d k (Branch n f) below s = refl
  same_level d k (Single f) below s = ap (λ a. cond (eqb d 0) (single a) torn) (same_node k f s)
  same_level d k (Deep n f m b) below s =
      let front = same_list k (same_node k) (held f) (λ q i. s q (in_left (flat_map (node_cells h k) (held f)) _ q i)) in
      let middle = below m.at (λ q i. s q (in_right (flat_map (node_cells h k) (held f)) _ q (in_left (tree_cells h d (suc k) m.at) _ q i))) in
      let back = same_list k (same_node k) (held b) (λ q i. s q (in_right (flat_map (node_cells h k) (held f)) _ q (in_right (tree_cells h d (suc k) m.at) _ q i))) in
      ap (λ t. cond (eqb m.levels d) t torn) (rw (front, middle, back) refl)

  pub same_tree : (d k p : ℕ) → Same (tree_cells h d k p) → tree h' d k p ≡ tree h d k p
  unfolding tree tree_cells
  same_tree zero k p s = refl
  same_tree (suc d) k p s = ap (level_of d (node h' k) (tree h' d (suc k))) (s p (inl refl)) ∙ same_level d k (body h p) (same_tree d (suc k)) (λ q i. s q (inr i))
