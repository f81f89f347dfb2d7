-- One item more or fewer. Assumes nothing.
use Rattle.std.proofs.Common.{◌≡◌, ℕ, ◌+◌, ◌-◌, ◌*◌, ◌^◌, ◌<◌, ◌≤◌, true, List, [], ◌∷◌, length, Some, None, sym, refl, ap, ◌∙◌, subst, ap₂, arith}
use Rattle.kinds.specs.Algebra.{Algebra, Laws}
use Rattle.model.specs.Tree.{leaf, Side, along, count, count_node, items_node, items, levels}
use Rattle.model.specs.Ends.{push, pop, got}
use Rattle.model.specs.Forms.{FormedNode, Formed}
use Rattle.model.specs.Levels.{most_levels}
use Rattle.model.proofs.Forms.{length_along}
use Rattle.model.proofs.Pushing.{push_formed, push_items, push_measures}
use Rattle.model.proofs.Popping.{Came, Carried, popped, pop_weighed}
use Rattle.model.proofs.Totals.{WeighedNode, weighed, sound}
use Rattle.cells.specs.Cells.{leaf_of, node}
use Rattle.cells.specs.Chain.{Taken, free_cells}
use Rattle.cells.specs.Made.{MadeTree}
use Rattle.cells.specs.declared.cell.Body.TheVariants.{Item}
use Rattle.cells.specs.declared.cell.Cell.{Cell}
use Rattle.cells.specs.declared.cell.Root.{Root}
use Rattle.cells.proofs.Frames.{grown_more}
use Rattle.cells.proofs.Opened.{levels_read, tree_none}
use Rattle.ends.specs.Pops.{MadePop}
use Rattle.ends.specs.declared.pop.Popped.{Popped}
use Rattle.ends.proofs.Pushing.{some_levels, made_levels}
use Rattle.lists.specs.Lists.{tree_at, list_at, Whole, Right, Made, Took}
use Rattle.lists.proofs.Roots.{formed_at, count_at, low_at, low_levels, shallow, whole_from, stays_from, made_from, right_from}

-- an item in a cell of its own, and the tree that it is pushed to
module _ {I T Q : Type 0} (k : Algebra I T Q) (s : Side) {h h₁ : List (Cell I T)} {x : ℕ} (item : I) (root : Root) (w : Whole h root) (fits : length (list_at h root) + 1 < 2 ^ 32) (t : Taken h h₁ x (Item item)) where
  leaf_read : node h₁ 0 x ≡ leaf item
  unfolding node
  leaf_read = ap leaf_of t.holds

  kept : tree_at h₁ root ≡ tree_at h root
  kept = stays_from t.grown.extends root w

  pushed_is : push k s (node h₁ 0 x) (tree_at h₁ root) ≡ push k s (leaf item) (tree_at h root)
  pushed_is = ap₂ (push k s) leaf_read kept

  formed : Formed 0 (push k s (leaf item) (tree_at h root))
  formed = push_formed k s 0 (leaf item) (tree_at h root) tt (formed_at h root w)

  list : items (push k s (leaf item) (tree_at h root)) ≡ along s (item ∷ []) (list_at h root)
  list = push_items k s 0 (leaf item) (tree_at h root) (formed_at h root w)

  long : length (items (push k s (leaf item) (tree_at h root))) ≡ length (list_at h root) + 1
  long = ap length list ∙ length_along s (item ∷ []) (list_at h root) ∙ omega arith

  depth : levels (push k s (leaf item) (tree_at h root)) ≤ most_levels (length (list_at h root) + 1)
  depth = rw (← long) (low_levels (push k s (leaf item) (tree_at h root)) formed)

  pub push_room : 2 * most_levels (length (list_at h root) + 1) ≤ free_cells h → 2 * levels (push k s (node h₁ 0 x) (tree_at h₁ root)) ≤ free_cells h₁ + 1
  push_room room = rw pushed_is (omega (arith, depth, t.grown.spent))

  pub push_shallow : root.levels < 64
  push_shallow = omega (arith, low_at h root w, shallow (length (list_at h root)) (omega arith))

  pub root_ready : Formed 0 (tree_at h₁ root)
  root_ready = subst (Formed 0) (sym kept) (formed_at h root w)

  pub item_ready : FormedNode 0 (node h₁ 0 x)
  item_ready = subst (FormedNode 0) (sym leaf_read) tt

  pub push_fits : count_node (node h₁ 0 x) + count (tree_at h₁ root) < 2 ^ 32
  push_fits = omega (arith, ap count_node leaf_read, ap count kept, count_at h root w)

  module _ {h₂ : List (Cell I T)} {r : Root} (u : MadeTree h₁ h₂ (2 * r.levels - 1) 0 r (push k s (node h₁ 0 x) (tree_at h₁ root))) where
    whole : MadeTree h h₂ (2 * r.levels) 0 r (push k s (leaf item) (tree_at h root))
    whole =
        let some : 1 ≤ r.levels = omega (arith, made_levels u (push_formed k s 0 (node h₁ 0 x) (tree_at h₁ root) item_ready root_ready), some_levels k s 0 (node h₁ 0 x) (tree_at h₁ root) root_ready) in
        record { grown = grown_more (2 * r.levels) t.grown u.grown (omega arith); reads = u.reads ∙ pushed_is }

    pub pushed_made : Made h h₂ (2 * r.levels) r (along s (item ∷ []) (list_at h root))
    pushed_made = made_from (2 * r.levels) _ whole formed list (omega arith)

    pub pushed_right : Laws k → Right k h root → k.admitted item ≡ true → Right k h₂ r
    pushed_right laws sound fair = right_from k whole (push_measures laws s item (tree_at h root) fair sound)

-- what a pop gives, with its item read
module _ {I T Q : Type 0} (k : Algebra I T Q) (s : Side) (h : List (Cell I T)) (root : Root) (w : Whole h root) where
  pub pop_shallow : length (list_at h root) < 2 ^ 32 → root.levels < 64
  pop_shallow fits = omega (arith, low_at h root w, shallow (length (list_at h root)) fits)

  pub none_left : root.levels ≡ 0 → list_at h root ≡ []
  none_left e = ap items (tree_none h root.levels 0 root.at e)

  came : Came 0 s (tree_at h root) (pop k s (tree_at h root))
  came = popped k s 0 (tree_at h root) (formed_at h root w)

  pub never_none : {h' : List (Cell I T)} → (root.levels ≡ 0 → ⊥) → MadePop h h' root.levels 0 None (pop k s (tree_at h root)) → ⊥
  never_none some u =
      let c = subst (Came 0 s (tree_at h root)) (sym u.reads) came in
      some (sym (levels_read h root.levels 0 root.at (formed_at h root w)) ∙ c.0)

  module _ {h' : List (Cell I T)} (x : Popped ℕ) (u : MadePop h h' root.levels 0 (Some x) (pop k s (tree_at h root))) where
    got_well : Came 0 s (tree_at h root) (got (node h' 0 x.taken) (tree_at h' x.rest))
    got_well = subst (Came 0 s (tree_at h root)) (sym u.reads) came

    pub finger_ready : FormedNode 0 (node h' 0 x.taken)
    finger_ready = got_well.0

    module _ (item : I) (is : node h' 0 x.taken ≡ leaf item) where
      pub took : Took h h' root.levels s (list_at h root) item x.rest
      took =
          record {
            rest = list_at h' x.rest;
            made = record { grown = u.grown; stays = stays_from u.grown.extends; whole = whole_from h' x.rest got_well.1.0; list = refl };
            was = got_well.1.1.0 ∙ ap (λ a. along s (items_node a) (list_at h' x.rest)) is;
          }

      pub took_right : Laws k → Right k h root → Right k h' x.rest × (k.admitted item ≡ true)
      took_right laws right =
          let c = subst (Carried k) (sym u.reads) (pop_weighed laws s (tree_at h root) (weighed k (tree_at h root) right)) in
          (sound k (tree_at h' x.rest) c.1, subst (WeighedNode k) is c.0)
