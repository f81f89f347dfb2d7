-- The cells that a tree stands on: none is free, and they have their children among them. Assumes nothing.
use Rattle.std.proofs.Common.{◌≡◌, ℕ, zero, suc, ◌≤◌, Bool, true, false, cond, eqb, List, [], ◌∷◌, ◌++◌, sym, refl, ap, ◌∙◌, subst, inl, inr, ⊎_elim, arith, eqb-true, le-leb}
use Rattle.std.specs.Prelude.{nat_le}
use Rattle.std.specs.List.{flat_map}
use Rattle.model.specs.Tree.{single, deep, torn}
use Rattle.model.specs.Forms.{FormedNode, Each, Formed}
use Rattle.cells.specs.Cells.{body, is_free, leaf_of, branch_of, node, nodes, level_of, tree}
use Rattle.cells.specs.Fingers.{held}
use Rattle.cells.specs.declared.cell.Cell.{Cell}
use Rattle.cells.specs.declared.cell.Root.{Root}
use Rattle.cells.specs.declared.cell.Body.{Body}
use Rattle.cells.specs.declared.cell.Body.TheVariants.{Free, Item, Node as Branch, Single, Deep}
use Rattle.cells.proofs.Frames.{branch_parts}
use Rattle.sweep.specs.Kept.{parts_cells, node_cells, level_cells, tree_cells}
use Rattle.sweep.specs.Marks.{In, children, first_cell}
use Rattle.sweep.proofs.Members.{in_left, in_right, in_either, in_one, in_flat, from_flat}

module _ {I T : Type 0} (h : List (Cell I T)) where
  -- none of the cells ps is free, and the children of each are among them
  pub record Stands (ps : List ℕ) : Type 0 where
    pub live : (q : ℕ) → In ps q → is_free (body h q) ≡ false
    pub closed : (q : ℕ) → In ps q → (r : ℕ) → In (children (body h q)) r → In ps r

  pub stands_both : (ps qs : List ℕ) → Stands ps → Stands qs → Stands (ps ++ qs)
  stands_both ps qs u v = record {
    live = λ q i. ⊎_elim (u.live q) (v.live q) (in_either ps qs q i);
    closed = λ q i r j. ⊎_elim (λ a. in_left ps qs r (u.closed q a r j)) (λ a. in_right ps qs r (v.closed q a r j)) (in_either ps qs q i);
  }

  pub stands_none : Stands []
  stands_none = record { live = λ q i. absurd i; closed = λ q i. absurd i }

  -- one cell more, whose children are among the others
  stands_more : (p : ℕ) (ps : List ℕ) → is_free (body h p) ≡ false → ((r : ℕ) → In (children (body h p)) r → In ps r) → Stands ps → Stands (p ∷ ps)
  stands_more p ps used below u = record {
    live = λ q i. ⊎_elim (λ (e : p ≡ q). ap (λ x. is_free (body h x)) (sym e) ∙ used) (u.live q) i;
    closed = λ q i r j. inr (⊎_elim (λ (e : p ≡ q). below r (subst (λ x. In (children (body h x)) r) (sym e) j)) (λ a. u.closed q a r j) i);
  }

  head_node : (k p : ℕ) → In (node_cells h k p) p
  unfolding node_cells
  head_node zero p = inl refl
  head_node (suc k) p = inl refl

  head_nodes : (k : ℕ) (ps : List ℕ) (r : ℕ) → In ps r → In (flat_map (node_cells h k) ps) r
  head_nodes k ps r i = in_flat (node_cells h k) ps r r i (head_node k r)

  stands_list : (k : ℕ) → ((p : ℕ) → FormedNode k (node h k p) → Stands (node_cells h k p)) → (ps : List ℕ) → Each k (nodes h k ps) → Stands (flat_map (node_cells h k) ps)
  stands_list k below [] w = stands_none
  stands_list k below (p ∷ ps) w = stands_both (node_cells h k p) (flat_map (node_cells h k) ps) (below p w.0) (stands_list k below ps w.1)

  stands_item : (p : ℕ) (b : Body I T) → body h p ≡ b → FormedNode 0 (leaf_of b) → Stands (p ∷ [])
  stands_item p Free e w = elim w [ ]
  stands_item p (Item i) e w = stands_more p [] (ap is_free e) (λ r j. subst (λ b. In (children b) r) e j) stands_none
  stands_item p (Branch n f) e w = elim w [ ]
  stands_item p (Single f) e w = elim w [ ]
  stands_item p (Deep n f m b) e w = elim w [ ]

  stands_branch : (k p : ℕ) (b : Body I T) → body h p ≡ b → FormedNode (suc k) (branch_of (node h k) b) → ((p : ℕ) → FormedNode k (node h k p) → Stands (node_cells h k p)) → Stands (p ∷ parts_cells (node_cells h k) b)
  stands_branch k p Free e w below = elim w [ ]
  stands_branch k p (Item i) e w below = elim w [ ]
  stands_branch k p (Branch n f) e w below =
      stands_more p (flat_map (node_cells h k) (held f)) (ap is_free e) (λ r j. head_nodes k (held f) r (subst (λ b. In (children b) r) e j)) (stands_list k below (held f) (branch_parts n.total n.items (nodes h k (held f)) k w).1.1)
  stands_branch k p (Single f) e w below = elim w [ ]
  stands_branch k p (Deep n f m b) e w below = elim w [ ]

  pub stands_node : (k p : ℕ) → FormedNode k (node h k p) → Stands (node_cells h k p)
  unfolding node node_cells
  stands_node zero p w = stands_item p (body h p) refl w
  stands_node (suc k) p w = stands_branch k p (body h p) refl w (stands_node k)

  stands_nodes : (k : ℕ) (ps : List ℕ) → Each k (nodes h k ps) → Stands (flat_map (node_cells h k) ps)
  stands_nodes k ps w = stands_list k (stands_node k) ps w

  head_tree : (d k p : ℕ) → 1 ≤ d → In (tree_cells h d k p) p
  unfolding tree_cells
  head_tree zero k p l = absurd (omega arith)
  head_tree (suc d) k p l = inl refl

  -- the first cell of a middle is among its cells
  pub first_in : (m : Root) (d k : ℕ) → m.levels ≡ d → (r : ℕ) → In (first_cell m) r → In (tree_cells h d k m.at) r
  first_in m d k e r i = go d (subst (λ n. In (cond (nat_le 1 n) (m.at ∷ []) []) r) e i)
    where
      go : (d : ℕ) → In (cond (nat_le 1 d) (m.at ∷ []) []) r → In (tree_cells h d k m.at) r
      go zero i = absurd i
      go (suc d) i =
          let i' : In (m.at ∷ []) r = subst (λ t. In (cond t (m.at ∷ []) []) r) (le-leb 1 (suc d) (omega arith)) i in
          subst (In (tree_cells h (suc d) k m.at)) (in_one m.at r i') (head_tree (suc d) k m.at (omega arith))

  stands_level : (d k p : ℕ) (b : Body I T) → body h p ≡ b → Formed k (level_of d (node h k) (tree h d (suc k)) b) → ((p : ℕ) → Formed (suc k) (tree h d (suc k) p) → Stands (tree_cells h d (suc k) p)) → Stands (p ∷ level_cells (node_cells h k) (tree_cells h d (suc k)) b)
  stands_level d k p Free e w below = elim w [ ]
  stands_level d k p (Item i) e w below = elim w [ ]
  stands_level d k p (Branch n f) e w below = elim w [ ]
  stands_level d k p (Single f) e w below = one (eqb d 0) w
    where
      one : (x : Bool) → Formed k (cond x (single (node h k f)) torn) → Stands (p ∷ node_cells h k f)
      one true w = stands_more p (node_cells h k f) (ap is_free e) (λ r j. subst (In (node_cells h k f)) (in_one f r (subst (λ b. In (children b) r) e j)) (head_node k f)) (stands_node k f w)
      one false w = elim w [ ]
  stands_level d k p (Deep n f m b) e w below = both (eqb m.levels d) refl w
    where
      rest : List ℕ
      rest = flat_map (node_cells h k) (held f) ++ (tree_cells h d (suc k) m.at ++ flat_map (node_cells h k) (held b))

      among_rest : m.levels ≡ d → (r : ℕ) → In (held f ++ (first_cell m ++ held b)) r → In rest r
      among_rest l r i =
          ⊎_elim
          (λ a. in_left (flat_map (node_cells h k) (held f)) _ r (head_nodes k (held f) r a))
          (λ a. in_right (flat_map (node_cells h k) (held f)) _ r (⊎_elim
          (λ x. in_left (tree_cells h d (suc k) m.at) _ r (first_in m d (suc k) l r x))
          (λ x. in_right (tree_cells h d (suc k) m.at) _ r (head_nodes k (held b) r x))
          (in_either (first_cell m) (held b) r a)))
          (in_either (held f) (first_cell m ++ held b) r i)

      both : (x : Bool) → eqb m.levels d ≡ x → Formed k (cond x (deep n.total n.items (nodes h k (held f)) (tree h d (suc k) m.at) (nodes h k (held b))) torn) → Stands (p ∷ rest)
      both true t w =
          stands_more p rest (ap is_free e) (λ r j. among_rest (eqb-true m.levels d t) r (subst (λ b. In (children b) r) e j))
          (stands_both (flat_map (node_cells h k) (held f)) _ (stands_nodes k (held f) w.1.0.1.1) (stands_both (tree_cells h d (suc k) m.at) _ (below m.at w.1.1.0) (stands_nodes k (held b) w.1.1.1.1.1)))
      both false t w = elim w [ ]

  pub stands_tree : (d k p : ℕ) → Formed k (tree h d k p) → Stands (tree_cells h d k p)
  unfolding tree tree_cells
  stands_tree zero k p w = stands_none
  stands_tree (suc d) k p w = stands_level d k p (body h p) refl w (stands_tree d (suc k))

  -- what holds of the first cell of each tree, and of the children of each cell that it holds of, holds of all their cells
  module _ (M : ℕ → Type 0) (further : (q : ℕ) → M q → (r : ℕ) → In (children (body h q)) r → M r) where
    all_parts : (k p : ℕ) (b : Body I T) → body h p ≡ b → M p → ((r : ℕ) → M r → (q : ℕ) → In (node_cells h k r) q → M q) → (q : ℕ) → In (parts_cells (node_cells h k) b) q → M q
    all_parts k p Free e m below q i = absurd i
    all_parts k p (Item x) e m below q i = absurd i
    all_parts k p (Branch n f) e m below q i =
        let x = from_flat (node_cells h k) (held f) q i in
        below x.0 (further p m x.0 (subst (λ b. In (children b) x.0) (sym e) x.1.0)) q x.1.1
    all_parts k p (Single f) e m below q i = absurd i
    all_parts k p (Deep n f c b) e m below q i = absurd i

    pub all_node : (k p : ℕ) → M p → (q : ℕ) → In (node_cells h k p) q → M q
    unfolding node_cells
    all_node zero p m q i = subst M (in_one p q i) m
    all_node (suc k) p m q i = ⊎_elim (λ (e : p ≡ q). subst M e m) (λ a. all_parts k p (body h p) refl m (all_node k) q a) i

    all_nodes : (k : ℕ) (ps : List ℕ) → ((r : ℕ) → In ps r → M r) → (q : ℕ) → In (flat_map (node_cells h k) ps) q → M q
    all_nodes k ps m q i = let x = from_flat (node_cells h k) ps q i in all_node k x.0 (m x.0 x.1.0) q x.1.1

    all_level : (d k p : ℕ) (b : Body I T) → body h p ≡ b → Formed k (level_of d (node h k) (tree h d (suc k)) b) → M p → ((p : ℕ) → Formed (suc k) (tree h d (suc k) p) → (1 ≤ d → M p) → (q : ℕ) → In (tree_cells h d (suc k) p) q → M q) → (q : ℕ) → In (level_cells (node_cells h k) (tree_cells h d (suc k)) b) q → M q
    all_level d k p Free e w m below q i = absurd i
    all_level d k p (Item x) e w m below q i = absurd i
    all_level d k p (Branch n f) e w m below q i = absurd i
    all_level d k p (Single f) e w m below q i = all_node k f (further p m f (subst (λ b. In (children b) f) (sym e) (inl refl))) q i
    all_level d k p (Deep n f c b) e w m below q i = both (eqb c.levels d) refl w
      where
        child : (r : ℕ) → In (held f ++ (first_cell c ++ held b)) r → M r
        child r j = further p m r (subst (λ b. In (children b) r) (sym e) j)

        middle : c.levels ≡ d → 1 ≤ d → M c.at
        middle l some =
            let first : In (first_cell c) c.at = subst (λ t. In (cond t (c.at ∷ []) []) c.at) (sym (le-leb 1 c.levels (omega arith))) (inl refl) in
            child c.at (in_right (held f) _ c.at (in_left (first_cell c) _ c.at first))

        both : (x : Bool) → eqb c.levels d ≡ x → Formed k (cond x (deep n.total n.items (nodes h k (held f)) (tree h d (suc k) c.at) (nodes h k (held b))) torn) → M q
        both true t w =
            ⊎_elim
            (λ a. all_nodes k (held f) (λ r j. child r (in_left (held f) _ r j)) q a)
            (λ a. ⊎_elim
            (λ x. below c.at w.1.1.0 (middle (eqb-true c.levels d t)) q x)
            (λ x. all_nodes k (held b) (λ r j. child r (in_right (held f) _ r (in_right (first_cell c) _ r j))) q x)
            (in_either (tree_cells h d (suc k) c.at) (flat_map (node_cells h k) (held b)) q a))
            (in_either (flat_map (node_cells h k) (held f)) (tree_cells h d (suc k) c.at ++ flat_map (node_cells h k) (held b)) q i)
        both false t w = elim w [ ]

    pub all_tree : (d k p : ℕ) → Formed k (tree h d k p) → (1 ≤ d → M p) → (q : ℕ) → In (tree_cells h d k p) q → M q
    unfolding tree tree_cells
    all_tree zero k p w m q i = absurd i
    all_tree (suc d) k p w m q i =
        let first : M p = m (omega arith) in
        ⊎_elim (λ (e : p ≡ q). subst M e first) (λ a. all_level d k p (body h p) refl w first (all_tree d (suc k)) q a) i
