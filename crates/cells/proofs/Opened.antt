-- What a cell holds where a node or a tree is formed. Assumes nothing.
use Rattle.std.proofs.Common.{◌≡◌, ℕ, zero, suc, ◌+◌, ◌-◌, ◌<◌, ◌≤◌, Bool, true, false, cond, eqb, List, [], ◌∷◌, map, length, get_or, sym, refl, ap, ◌∙◌, subst, arith}
use Rattle.std.proofs.lemmas.Bool.Decides.{nat_tests}
use Rattle.std.proofs.lemmas.List.{length-map}
use Rattle.model.specs.Tree.{Node, leaf, Tree, none, single, deep, torn, levels, count_node, count_run, count, front, back}
use Rattle.model.specs.Tree.{Side as End}
use Rattle.kinds.specs.Algebra.{Algebra}
use Rattle.model.specs.Measures.{sum_node, sum_run, toward}
use Rattle.model.specs.Ends.{fingers}
use Rattle.model.specs.Append.{onto}
use Rattle.cells.proofs.Frames.{branch_parts}
use Rattle.cells.proofs.Turned.{nodes_onto}
use Rattle.model.specs.Forms.{FormedNode, Each, Formed}
use Rattle.cells.specs.Cells.{in_order, body, is_free, leaf_of, node_from, branch_of, node, nodes, level_of, tree, rooted}
use Rattle.cells.specs.Fingers.{held, listed}
use Rattle.cells.specs.Made.{Weighed, SeenDeep}
use Rattle.cells.specs.declared.cell.Cell.{Cell}
use Rattle.cells.specs.declared.cell.Weight.{Weight}
use Rattle.cells.specs.declared.cell.Root.{Root}
use Rattle.cells.specs.declared.fingers.Fingers.{Fingers}
use Rattle.cells.specs.declared.fingers.Digit.{Digit as Filled}
use Rattle.cells.specs.declared.cell.Body.{Body}
use Rattle.cells.specs.declared.cell.Body.TheVariants.{Free, Item, Node as Branch, Single, Deep}

module _ {I T : Type 0} where
  -- the node that a cell of this body is, at depth k
  node_of : List (Cell I T) → ℕ → Body I T → Node I T
  node_of h zero b = leaf_of b
  node_of h (suc k) b = branch_of (node h k) b

  abbrev body_sum : {Q : Type 0} → Algebra I T Q → Body I T → T
  body_sum q Free = q.nothing
  body_sum q (Item i) = q.measure i
  body_sum q (Branch w f) = w.total
  body_sum q (Single f) = q.nothing
  body_sum q (Deep w f m b) = w.total

  abbrev body_count : Body I T → ℕ
  body_count Free = 0
  body_count (Item i) = 1
  body_count (Branch w f) = w.items
  body_count (Single f) = 0
  body_count (Deep w f m b) = w.items

  -- the bodies that are nodes
  abbrev IsNode : Body I T → Type 0
  IsNode Free = ⊥
  IsNode (Item i) = Unit {0}
  IsNode (Branch w f) = Unit {0}
  IsNode (Single f) = ⊥
  IsNode (Deep w f m b) = ⊥

  branch_reads : {Q : Type 0} (q : Algebra I T Q) (k : ℕ) (w : Weight T) (ns : List (Node I T)) → FormedNode (suc k) (node_from w.total w.items ns) → (sum_node q (node_from w.total w.items ns) ≡ w.total) × (count_node (node_from w.total w.items ns) ≡ w.items)
  branch_reads q k w [] v = elim v [ ]
  branch_reads q k w (a ∷ []) v = elim v [ ]
  branch_reads q k w (a ∷ b ∷ []) v = (refl, refl)
  branch_reads q k w (a ∷ b ∷ c ∷ []) v = (refl, refl)
  branch_reads q k w (a ∷ b ∷ c ∷ d ∷ more) v = elim v [ ]

  read_node : {Q : Type 0} (q : Algebra I T Q) (h : List (Cell I T)) (k : ℕ) (b : Body I T) → FormedNode k (node_of h k b) → (sum_node q (node_of h k b) ≡ body_sum q b) × ((count_node (node_of h k b) ≡ body_count b) × IsNode b)
  unfolding node_of
  read_node q h zero Free v = elim v [ ]
  read_node q h zero (Item i) v = (refl, (refl, tt))
  read_node q h zero (Branch w f) v = elim v [ ]
  read_node q h zero (Single f) v = elim v [ ]
  read_node q h zero (Deep w f m b) v = elim v [ ]
  read_node q h (suc k) Free v = elim v [ ]
  read_node q h (suc k) (Item i) v = elim v [ ]
  read_node q h (suc k) (Branch w f) v = let r = branch_reads q k w (nodes h k (held f)) v in (r.0, (r.1, tt))
  read_node q h (suc k) (Single f) v = elim v [ ]
  read_node q h (suc k) (Deep w f m b) v = elim v [ ]

  node_is : (h : List (Cell I T)) (k p : ℕ) → node h k p ≡ node_of h k (body h p)
  unfolding node node_of
  node_is h zero p = refl
  node_is h (suc k) p = refl

module _ {I T Q : Type 0} (q : Algebra I T Q) (h : List (Cell I T)) (k p : ℕ) (w : FormedNode k (node h k p)) (b : Body I T) (e : b ≡ body h p) where
  reads : (sum_node q (node_of h k (body h p)) ≡ body_sum q (body h p)) × ((count_node (node_of h k (body h p)) ≡ body_count (body h p)) × IsNode (body h p))
  reads = read_node q h k (body h p) (rw (node_is h k p) at w)

  pub node_weighs : (body_sum q b ≡ sum_node q (node h k p)) × (body_count b ≡ count_node (node h k p))
  node_weighs =
      (ap (body_sum q) e ∙ sym (ap (sum_node q) (node_is h k p) ∙ reads.0), ap body_count e ∙ sym (ap count_node (node_is h k p) ∙ reads.1.0))

  pub node_other : ((i : I) → b ≡ Item i → ⊥) → ((w : Weight T) (f : Fingers) → b ≡ Branch w f → ⊥) → ⊥
  node_other x y = go b refl (subst IsNode (sym e) reads.1.1)
    where
      go : (c : Body I T) → b ≡ c → IsNode c → ⊥
      go Free f v = v
      go (Item i) f v = x i f
      go (Branch n g) f v = y n g f
      go (Single g) f v = v
      go (Deep n g m o) f v = v

-- what is formed stands on cells
module _ {I T : Type 0} where
  within_used : (h : List (Cell I T)) (p : ℕ) → is_free (body h p) ≡ false → p < length h
  within_used [] p e = let z : ◌≡◌ {A = ℕ} 0 1 = cc in absurd (omega arith)
  within_used (c ∷ h) zero e = omega arith
  within_used (c ∷ h) (suc p) e = let l = within_used h p e in omega arith

  used_leaf : (b : Body I T) → FormedNode 0 (leaf_of b) → is_free b ≡ false
  used_leaf Free v = elim v [ ]
  used_leaf (Item i) v = refl
  used_leaf (Branch w f) v = elim v [ ]
  used_leaf (Single f) v = elim v [ ]
  used_leaf (Deep w f m b) v = elim v [ ]

  used_branch : (k : ℕ) (below : ℕ → Node I T) (b : Body I T) → FormedNode (suc k) (branch_of below b) → is_free b ≡ false
  used_branch k below Free v = elim v [ ]
  used_branch k below (Item i) v = refl
  used_branch k below (Branch w f) v = refl
  used_branch k below (Single f) v = elim v [ ]
  used_branch k below (Deep w f m b) v = elim v [ ]

  pub node_within : (h : List (Cell I T)) (k p : ℕ) → FormedNode k (node h k p) → p < length h
  unfolding node
  node_within h zero p v = within_used h p (used_leaf (body h p) v)
  node_within h (suc k) p v = within_used h p (used_branch k (node h k) (body h p) v)

-- what a node is made of
module _ {I T : Type 0} (h : List (Cell I T)) (k p : ℕ) (v : FormedNode (suc k) (node h (suc k) p)) where
  -- a node that is no item
  pub no_item : (b : Body I T) → b ≡ body h p → ((w : Weight T) (f : Fingers) → b ≡ Branch w f → ⊥) → ⊥
  unfolding node
  no_item b e x = go b refl (subst (λ b. FormedNode (suc k) (branch_of (node h k) b)) (sym e) v)
    where
      go : (c : Body I T) → b ≡ c → FormedNode (suc k) (branch_of (node h k) c) → ⊥
      go Free f u = u
      go (Item i) f u = u
      go (Branch n g) f u = x n g f
      go (Single g) f u = u
      go (Deep n g m o) f u = u

  node_parts : (w : Weight T) (f : Fingers) → Branch w f ≡ body h p → node h (suc k) p ≡ node_from w.total w.items (nodes h k (held f))
  unfolding node
  node_parts w f e = ap (branch_of (node h k)) (sym e)

  pub some_parts : (w : Weight T) (f : Fingers) → Branch w f ≡ body h p → 1 ≤ length (held f)
  some_parts w f e =
      let l = (branch_parts w.total w.items (nodes h k (held f)) k (subst (FormedNode (suc k)) (node_parts w f e) v)).0 in
      let n = simp length-map at l in
      omega arith

  fingers_from : (t : T) (n : ℕ) (ns : List (Node I T)) → FormedNode (suc k) (node_from t n ns) → (ns ≡ fingers front (node_from t n ns)) × (onto ns [] ≡ fingers back (node_from t n ns))
  fingers_from t n [] u = elim u [ ]
  fingers_from t n (a ∷ []) u = elim u [ ]
  fingers_from t n (a ∷ b ∷ []) u = (refl, refl)
  fingers_from t n (a ∷ b ∷ c ∷ []) u = (refl, refl)
  fingers_from t n (a ∷ b ∷ c ∷ d ∷ more) u = elim u [ ]

  pub parts_front : (w : Weight T) (f : Fingers) → Branch w f ≡ body h p → (ps : List ℕ) → ps ≡ held f → nodes h k ps ≡ fingers front (node h (suc k) p)
  parts_front w f e ps i =
      let o = node_parts w f e in
      ap (nodes h k) i ∙ (fingers_from w.total w.items (nodes h k (held f)) (subst (FormedNode (suc k)) o v)).0 ∙ sym (ap (fingers front) o)

  pub parts_back : (w : Weight T) (f : Fingers) → Branch w f ≡ body h p → (ps : List ℕ) → ps ≡ onto (held f) [] → nodes h k ps ≡ fingers back (node h (suc k) p)
  parts_back w f e ps i =
      let o = node_parts w f e in
      ap (nodes h k) i ∙ nodes_onto h k (held f) [] ∙ (fingers_from w.total w.items (nodes h k (held f)) (subst (FormedNode (suc k)) o v)).1 ∙ sym (ap (fingers back) o)

-- one finger, and those after it
module _ {I T Q : Type 0} (q : Algebra I T Q) (s : End) (h : List (Cell I T)) (k : ℕ) where
  pub run_more : (ps : List ℕ) (p : ℕ) (more : List ℕ) (x y w : Weight T) → ps ≡ p ∷ more → Weighed (sum_node q (node h k p)) (count_node (node h k p)) x → Weighed (sum_run q s (nodes h k more)) (count_run (nodes h k more)) y → Weighed (toward q s x.total y.total) (x.items + y.items) w → Weighed (sum_run q s (nodes h k ps)) (count_run (nodes h k ps)) w
  run_more ps p more x y w e u v r = rw e (record {
    total_is = r.total_is ∙ ap (λ a. toward q s a y.total) u.total_is ∙ ap (toward q s (sum_node q (node h k p))) v.total_is;
    items_are = omega (arith, r.items_are, u.items_are, v.items_are);
  })

module _ {I T : Type 0} where
  pub tree_none : (h : List (Cell I T)) (d k p : ℕ) → d ≡ 0 → tree h d k p ≡ none
  unfolding tree
  tree_none h d k p e = rw e

  tree_opened : (h : List (Cell I T)) (d k p : ℕ) → 0 < d → tree h d k p ≡ level_of (d - 1) (node h k) (tree h (d - 1) (suc k)) (body h p)
  unfolding tree
  tree_opened h zero k p some = absurd (omega arith)
  tree_opened h (suc d) k p some = let f : suc d - 1 ≡ d = omega arith in rw f

  -- the bodies that are levels
  abbrev Level : Body I T → Type 0
  Level Free = ⊥
  Level (Item i) = ⊥
  Level (Branch w f) = ⊥
  Level (Single f) = Unit {0}
  Level (Deep w f m b) = Unit {0}

  level_used : (b : Body I T) → Level b → is_free b ≡ false
  level_used Free v = elim v [ ]
  level_used (Item i) v = elim v [ ]
  level_used (Branch w f) v = elim v [ ]
  level_used (Single f) v = refl
  level_used (Deep w f m b) v = refl

  formed_level : (d k : ℕ) (here : ℕ → Node I T) (below : ℕ → Tree I T) (b : Body I T) → Formed k (level_of d here below b) → Level b
  formed_level d k here below Free v = v
  formed_level d k here below (Item i) v = v
  formed_level d k here below (Branch w f) v = v
  formed_level d k here below (Single f) v = tt
  formed_level d k here below (Deep w f m b) v = tt

  single_levels : (d k : ℕ) (a : Node I T) (x : Bool) → eqb d 0 ≡ x → Formed k (cond x (single a) torn) → (cond x (single a) torn ≡ single a) × (d ≡ 0)
  single_levels d k a true e w = (refl, grind (arith, nat_tests, e))
  single_levels d k a false e w = elim w [ ]

  deep_levels : (m d k : ℕ) (t : Tree I T) (x : Bool) → eqb m d ≡ x → Formed k (cond x t torn) → (cond x t torn ≡ t) × (m ≡ d)
  deep_levels m d k t true e v = (refl, grind (arith, nat_tests, e))
  deep_levels m d k t false e v = elim v [ ]

module _ {I T : Type 0} (h : List (Cell I T)) (k : ℕ) (root : Root) (some : 0 < root.levels) (w : Formed k (rooted h k root)) where
  level_is : Level (body h root.at)
  level_is = formed_level (root.levels - 1) k (node h k) (tree h (root.levels - 1) (suc k)) (body h root.at) (subst (Formed k) (tree_opened h root.levels k root.at some) w)

  pub tree_within : root.at < length h
  tree_within = within_used h root.at (level_used (body h root.at) level_is)

  pub tree_single : (f : ℕ) → Single f ≡ body h root.at → (rooted h k root ≡ single (node h k f)) × (root.levels ≡ 1)
  tree_single f e =
      let d = root.levels - 1 in
      let o : rooted h k root ≡ cond (eqb d 0) (single (node h k f)) torn = tree_opened h root.levels k root.at some ∙ ap (level_of d (node h k) (tree h d (suc k))) (sym e) in
      let r = single_levels d k (node h k f) (eqb d 0) refl (subst (Formed k) o w) in
      (o ∙ r.0, omega (arith, r.1))

  pub tree_deep : (n : Weight T) (f : Fingers) (m : Root) (b : Fingers) → Deep n f m b ≡ body h root.at → (rooted h k root ≡ deep n.total n.items (nodes h k (held f)) (rooted h (suc k) m) (nodes h k (held b))) × (suc m.levels ≡ root.levels)
  tree_deep n f m b e =
      let d = root.levels - 1 in
      let below = deep n.total n.items (nodes h k (held f)) (tree h d (suc k) m.at) (nodes h k (held b)) in
      let o : rooted h k root ≡ cond (eqb m.levels d) below torn = tree_opened h root.levels k root.at some ∙ ap (level_of d (node h k) (tree h d (suc k))) (sym e) in
      let r = deep_levels m.levels d k below (eqb m.levels d) refl (subst (Formed k) o w) in
      (o ∙ r.0 ∙ ap (λ d. deep n.total n.items (nodes h k (held f)) (tree h d (suc k) m.at) (nodes h k (held b))) (sym r.1), omega (arith, r.1))

  pub tree_digits : (n : Weight T) (f : Fingers) (m : Root) (b : Fingers) → Deep n f m b ≡ body h root.at → (1 ≤ length (held f)) × (1 ≤ length (held b))
  tree_digits n f m b e =
      let v = subst (Formed k) (tree_deep n f m b e).0 w in
      (simp length-map at v.1.0.0, simp length-map at v.1.1.1.0)

  pub tree_other : (b : Body I T) → b ≡ body h root.at → ((f : ℕ) → b ≡ Single f → ⊥) → ((n : Weight T) (f : Fingers) (m : Root) (g : Fingers) → b ≡ Deep n f m g → ⊥) → ⊥
  tree_other b e x y = go b refl (subst Level (sym e) level_is)
    where
      go : (c : Body I T) → b ≡ c → Level c → ⊥
      go Free f v = v
      go (Item i) f v = v
      go (Branch n g) f v = v
      go (Single g) f v = x g f
      go (Deep n g m o) f v = y n g m o f

module _ {I T : Type 0} (d k : ℕ) (here : ℕ → Node I T) (below : ℕ → Tree I T) (deeper : (m : ℕ) → Formed (suc k) (below m) → levels (below m) ≡ d) where
  single_read : (x : Bool) (a : Node I T) → eqb d 0 ≡ x → Formed k (cond x (single a) torn) → levels (cond x (single a) torn) ≡ suc d
  single_read true a e v = grind (arith, nat_tests, e)
  single_read false a e v = elim v [ ]

  deep_read : (x : Bool) (t : T) (n : ℕ) (f : List (Node I T)) (m : ℕ) (b : List (Node I T)) → Formed k (cond x (deep t n f (below m) b) torn) → levels (cond x (deep t n f (below m) b) torn) ≡ suc d
  deep_read true t n f m b v = ap suc (deeper m v.1.1.0)
  deep_read false t n f m b v = elim v [ ]

  level_read : (b : Body I T) → Formed k (level_of d here below b) → levels (level_of d here below b) ≡ suc d
  level_read Free v = elim v [ ]
  level_read (Item i) v = elim v [ ]
  level_read (Branch w f) v = elim v [ ]
  level_read (Single f) v = single_read (eqb d 0) (here f) refl v
  level_read (Deep w f m b) v = deep_read (eqb m.levels d) w.total w.items (map here (held f)) m.at (map here (held b)) v

-- as many levels as the root says
pub levels_read : {I T : Type 0} (h : List (Cell I T)) (d k p : ℕ) → Formed k (tree h d k p) → levels (tree h d k p) ≡ d
unfolding tree
levels_read h zero k p w = refl
levels_read h (suc d) k p w = level_read d k (node h k) (tree h d (suc k)) (λ m. levels_read h d (suc k) m) (body h p) w

module _ {I T : Type 0} (h : List (Cell I T)) (k : ℕ) where
  pub each_first : (ps : List ℕ) → 1 ≤ length ps → Each k (nodes h k ps) → FormedNode k (node h k (get_or ps 0 0))
  each_first [] l w = absurd (omega arith)
  each_first (p ∷ ps) l w = w.0

-- a level, seen from either side
module _ {I T : Type 0} (h : List (Cell I T)) (k : ℕ) (root m : Root) (f b : Filled) (t : T) (n : ℕ) (w : Formed k (rooted h k root)) (e : rooted h k root ≡ deep t n (nodes h k (listed f)) (rooted h (suc k) m) (nodes h k (listed b))) (l : suc m.levels ≡ root.levels) where
  pub from_side : (s : End) → SeenDeep h k s root (in_order s f b).0 m (in_order s f b).1
  from_side front =
      let v = subst (Formed k) e w in
      record { total = t; items = n; is = e; levels = l; near_formed = v.1.0.1.1; middle_formed = v.1.1.0; far_formed = v.1.1.1.1.1; counts = ap count e ∙ v.0 }
  from_side back =
      let v = subst (Formed k) e w in
      record { total = t; items = n; is = e; levels = l; near_formed = v.1.1.1.1.1; middle_formed = v.1.1.0; far_formed = v.1.0.1.1; counts = ap count e ∙ omega (arith, v.0) }

-- a node of depth 0 is an item
pub only_item : {I T : Type 0} (h : List (Cell I T)) (p : ℕ) → FormedNode 0 (node h 0 p) → (b : Body I T) → b ≡ body h p → ((i : I) → b ≡ Item i → ⊥) → ⊥
unfolding node
only_item h p w b e no_item = go b refl (subst (λ b. FormedNode 0 (leaf_of b)) (sym e) w)
  where
    go : (c : Body _ _) → b ≡ c → FormedNode 0 (leaf_of c) → ⊥
    go Free f v = v
    go (Item i) f v = no_item i f
    go (Branch n g) f v = v
    go (Single g) f v = v
    go (Deep n g m o) f v = v

pub item_reads : {I T : Type 0} (h : List (Cell I T)) (p : ℕ) (i : I) → Item i ≡ body h p → node h 0 p ≡ leaf i
unfolding node
item_reads h p i e = ap leaf_of (sym e)
