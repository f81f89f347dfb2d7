-- A list in two. Assumes nothing.
use Rattle.std.proofs.Common.{◌≡◌, ℕ, suc, ◌+◌, ◌-◌, ◌*◌, ◌^◌, ◌<◌, ◌≤◌, List, ◌∷◌, length, take, drop, sym, refl, ap, ◌∙◌, subst, arith, length-drop, drop-cons}
use Rattle.kinds.specs.Algebra.{Algebra, Laws}
use Rattle.model.specs.Tree.{Node, leaf, two, three, gap, Tree, front, count_node, count, items_node, items, levels}
use Rattle.model.specs.Ends.{push}
use Rattle.model.specs.Split.{parts, split}
use Rattle.model.specs.Forms.{FormedNode, Formed}
use Rattle.model.specs.Levels.{most_levels}
use Rattle.model.specs.Measures.{Admitted}
use Rattle.model.specs.Statements.{Sound, Parted, SplitAt, SoundParts}
use Rattle.model.proofs.Forms.{decides_formed, count_is}
use Rattle.model.proofs.Pushing.{push_formed, push_items, push_measures}
use Rattle.model.proofs.Rooms.{Pushes, split_pushes}
use Rattle.model.proofs.Splitting.{split_keeps, split_measures}
use Rattle.cells.specs.Cells.{node}
use Rattle.cells.specs.Made.{MadeTree}
use Rattle.cells.specs.declared.cell.Cell.{Cell}
use Rattle.cells.specs.declared.cell.Root.{Root}
use Rattle.cells.proofs.Frames.{keep_tree, extends_more, grown_more}
use Rattle.cells.proofs.Opened.{levels_read}
use Rattle.ends.proofs.Pushing.{made_levels}
use Rattle.splits.specs.Halves.{parts_at, MadeParts}
use Rattle.cells.specs.Chain.{free_cells}
use Rattle.cuts.specs.declared.cut.Split.{Split as SplitIn}
use Rattle.lists.specs.Lists.{tree_at, list_at, Whole, Right, MadeTwo}
use Rattle.lists.proofs.Roots.{formed_at, low_at, shallow, whole_from, stays_from}

-- what stands between two parts is an item
leafed : {I T : Type 0} (d : ℕ) (t : Tree I T) (j : ℕ) (l : Tree I T) (x : Node I T) (r : Tree I T) (o : ℕ) → SplitAt d t j (parts l x r o) → (i : I) × (x ≡ leaf i) × Parted d t j l i r
leafed d t j l (leaf i) r o w = (i, refl, w)
leafed d t j l (two y n a b) r o w = elim w [ ]
leafed d t j l (three y n a b c) r o w = elim w [ ]
leafed d t j l gap r o w = elim w [ ]

module _ {I T Q : Type 0} (k : Algebra I T Q) (h : List (Cell I T)) (root : Root) (w : Whole h root) (fits : length (list_at h root) < 2 ^ 32) where
  pub root_low : root.levels ≤ most_levels (length (list_at h root))
  root_low = low_at h root w

  pub root_shallow : 2 * root.levels < 64
  root_shallow = omega (arith, root_low, shallow (length (list_at h root)) fits)

  module _ (j : ℕ) (within : j < length (list_at h root)) {h₁ : List (Cell I T)} (o : SplitIn Root) (u : MadeParts h h₁ (root.levels * root.levels + root.levels) 0 o (split k j (tree_at h root))) where
    well : SplitAt root.levels (tree_at h root) j (parts_at h₁ 0 o)
    well = subst (SplitAt root.levels (tree_at h root) j) (sym u.reads) (split_keeps k root.levels (tree_at h root) j w within)

    found : (i : I) × (node h₁ 0 o.finger ≡ leaf i) × Parted root.levels (tree_at h root) j (tree_at h₁ o.before) i (tree_at h₁ o.after)
    found = leafed root.levels (tree_at h root) j (tree_at h₁ o.before) (node h₁ 0 o.finger) (tree_at h₁ o.after) o.offset well

    abbrev parted : Parted root.levels (tree_at h root) j (tree_at h₁ o.before) found.0 (tree_at h₁ o.after)
    parted = found.2

    pub finger_ready : FormedNode 0 (node h₁ 0 o.finger)
    finger_ready = subst (FormedNode 0) (sym found.1) tt

    pub left_ready : Formed 0 (tree_at h₁ o.before)
    left_ready = ((decides_formed (levels (tree_at h₁ o.before)) 0 (tree_at h₁ o.before)).0 parted.before).1

    pub right_ready : Formed 0 (tree_at h₁ o.after)
    right_ready = ((decides_formed (levels (tree_at h₁ o.after)) 0 (tree_at h₁ o.after)).0 parted.after).1

    abbrev pushed : Tree I T
    pushed = push k front (node h₁ 0 o.finger) (tree_at h₁ o.after)

    formed : Formed 0 pushed
    formed = push_formed k front 0 (node h₁ 0 o.finger) (tree_at h₁ o.after) finger_ready right_ready

    list : items pushed ≡ drop j (list_at h root)
    list =
        let rest = drop-cons (list_at h root) j found.0 within in
        push_items k front 0 (node h₁ 0 o.finger) (tree_at h₁ o.after) right_ready
        ∙ rw found.1 (ap (λ ys. found.0 ∷ ys) parted.right)
        ∙ sym (rest ∙ ap (λ y. y ∷ drop (suc j) (list_at h root)) (parted.item found.0))

    depth : levels pushed ≤ root.levels
    depth =
        let p = subst (Pushes k (levels (tree_at h root))) (sym u.reads) (split_pushes k 0 j (tree_at h root) (formed_at h root w) within) in
        omega (arith, p, levels_read h root.levels 0 root.at (formed_at h root w))

    pub push_room : root.levels * root.levels + 3 * root.levels ≤ free_cells h → 2 * levels pushed ≤ free_cells h₁ + 1
    push_room l = omega (arith, depth, u.grown.spent)

    pub right_shallow : o.after.levels < 64
    right_shallow = omega (arith, levels_read h₁ o.after.levels 0 o.after.at right_ready, parted.right_levels, root_shallow)

    pub push_fits : count_node (node h₁ 0 o.finger) + count (tree_at h₁ o.after) < 2 ^ 32
    push_fits =
        omega (arith, ap count_node found.1, count_is 0 (tree_at h₁ o.after) right_ready, ap length parted.right, length-drop (suc j) (list_at h root))

    module _ {h₂ : List (Cell I T)} {r : Root} (v : MadeTree h₁ h₂ (2 * r.levels - 1) 0 r pushed) where
      left_kept : tree_at h₂ o.before ≡ tree_at h₁ o.before
      left_kept = keep_tree v.grown.extends o.before.levels 0 o.before.at left_ready

      pub parted_made : MadeTwo h h₂ (root.levels * root.levels + 3 * root.levels) (record { left = o.before; right = r }) (take j (list_at h root)) (drop j (list_at h root))
      parted_made =
          record {
            grown = grown_more (root.levels * root.levels + 3 * root.levels) u.grown v.grown (omega (arith, depth, made_levels v formed));
            stays = stays_from (extends_more u.grown.extends v.grown.extends);
            left_whole = whole_from h₂ o.before (subst (Formed 0) (sym left_kept) left_ready);
            left_list = ap items left_kept ∙ parted.left;
            right_whole = whole_from h₂ r (subst (Formed 0) (sym v.reads) formed);
            right_list = ap items v.reads ∙ list;
          }

      pub parted_right : Laws k → Right k h root → Right k h₂ o.before × Right k h₂ r
      parted_right laws sound =
          let s = subst (SoundParts k) (sym u.reads) (split_measures laws (tree_at h root) j sound) in
          let fair = (subst (λ a. Admitted k (items_node a)) found.1 s.1.0).0 in
          let all = subst (λ a. Sound k (push k front a (tree_at h₁ o.after))) (sym found.1) (push_measures laws front found.0 (tree_at h₁ o.after) fair s.1.1) in
          (subst (Sound k) (sym left_kept) s.0, subst (Sound k) (sym v.reads) all)
