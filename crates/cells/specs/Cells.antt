-- The nodes and trees that cells stand for. Assumes nothing.
use Rattle.std.specs.Prelude.{ℕ, zero, suc, Bool, true, false, cond, List, [], ◌∷◌, map, ◌==◌, slice_index_or}
use Rattle.model.specs.Tree.{Node, leaf, two, three, gap, Tree, none, single, deep, torn}
use Rattle.model.specs.Tree.{Side as End, front, back}
use Rattle.cells.specs.Fingers.{held}
use Rattle.cells.specs.declared.cell.Cell.{Cell}
use Rattle.cells.specs.declared.cell.Root.{Root}
use Rattle.cells.specs.declared.cell.Body.{Body}
use Rattle.cells.specs.declared.cell.Body.TheVariants.{Free, Item, Node as Branch, Single, Deep}
use Rattle.cells.specs.declared.side.Side.{Side}
use Rattle.cells.specs.declared.side.Side.TheVariants.{Front, Back}

abbrev pub end : Side → End
end Front = front
end Back = back

-- the nearer to an end and the farther from it, from left to right
abbrev pub in_order : {A : Type 0} → End → A → A → A × A
in_order front near far = (near, far)
in_order back near far = (far, near)

module _ {I T : Type 0} where
  abbrev pub blank : Cell I T
  blank = record { marked = false; link = 0; body = Free }

  -- what the cell at p holds; past the end, nothing
  abbrev pub body : List (Cell I T) → ℕ → Body I T
  body h p = (slice_index_or h p blank).body

  abbrev pub link : List (Cell I T) → ℕ → ℕ
  link h p = (slice_index_or h p blank).link

  abbrev pub marked : List (Cell I T) → ℕ → Bool
  marked h p = (slice_index_or h p blank).marked

  abbrev pub is_free : Body I T → Bool
  is_free Free = true
  is_free (Item i) = false
  is_free (Branch w f) = false
  is_free (Single f) = false
  is_free (Deep w f m b) = false

  abbrev pub leaf_of : Body I T → Node I T
  leaf_of Free = gap
  leaf_of (Item i) = leaf i
  leaf_of (Branch w f) = gap
  leaf_of (Single f) = gap
  leaf_of (Deep w f m b) = gap

  -- two or three nodes as one, with its stored total and count
  abbrev pub node_from : T → ℕ → List (Node I T) → Node I T
  node_from t n [] = gap
  node_from t n (a ∷ []) = gap
  node_from t n (a ∷ b ∷ []) = two t n a b
  node_from t n (a ∷ b ∷ c ∷ []) = three t n a b c
  node_from t n (a ∷ b ∷ c ∷ d ∷ more) = gap

  abbrev pub branch_of : (ℕ → Node I T) → Body I T → Node I T
  branch_of below Free = gap
  branch_of below (Item i) = gap
  branch_of below (Branch w f) = node_from w.total w.items (map below (held f))
  branch_of below (Single f) = gap
  branch_of below (Deep w f m b) = gap

  -- the node of depth k at p
  unfoldable pub node : List (Cell I T) → ℕ → ℕ → Node I T
  node h zero p = leaf_of (body h p)
  node h (suc k) p = branch_of (node h k) (body h p)

  abbrev pub nodes : List (Cell I T) → ℕ → List ℕ → List (Node I T)
  nodes h k ps = map (node h k) ps

  -- d levels are left below this one
  abbrev pub level_of : ℕ → (ℕ → Node I T) → (ℕ → Tree I T) → Body I T → Tree I T
  level_of d here below Free = torn
  level_of d here below (Item i) = torn
  level_of d here below (Branch w f) = torn
  level_of d here below (Single f) = cond (d == 0) (single (here f)) torn
  level_of d here below (Deep w f m b) = cond (m.levels == d) (deep w.total w.items (map here (held f)) (below m.at) (map here (held b))) torn

  -- the tree of d levels at depth k whose first level is the cell p
  unfoldable pub tree : List (Cell I T) → ℕ → ℕ → ℕ → Tree I T
  tree h zero k p = none
  tree h (suc d) k p = level_of d (node h k) (tree h d (suc k)) (body h p)

  -- the tree at depth k that a root stands for
  abbrev pub rooted : List (Cell I T) → ℕ → Root → Tree I T
  rooted h k r = tree h r.levels k r.at
