-- A root as the list that it stands for, and what each operation on it leaves. Assumes nothing.
use Rattle.std.specs.Prelude.{◌≡◌, ℕ, true, List, [], ◌∷◌, length, take, drop, Some, None, Option}
use Rattle.kinds.specs.Algebra.{Algebra}
use Rattle.model.specs.Tree.{Tree, Side, along, formed, items}
use Rattle.model.specs.Seek.{Sought, missed, found, seek}
use Rattle.model.specs.Statements.{Sound}
use Rattle.cells.specs.Cells.{rooted}
use Rattle.cells.specs.Chain.{Grown}
use Rattle.cells.specs.declared.cell.Cell.{Cell}
use Rattle.cells.specs.declared.cell.FreeList.{FreeList}
use Rattle.cells.specs.declared.cell.Root.{Root}
use Rattle.lists.specs.declared.halves.Halves.{Halves}
use Rattle.ends.specs.declared.pop.Popped.{Popped}

-- Where a list is cut by what was sought: at its end where nothing was found.
abbrev pub place_of : {T : Type 0} → ℕ → Sought T → ℕ
place_of n missed = n
place_of n (found j t) = j

module _ {I T : Type 0} where
  -- The tree that a root stands for, and its items from left to right.
  abbrev pub tree_at : List (Cell I T) → Root → Tree I T
  tree_at h r = rooted h 0 r

  abbrev pub list_at : List (Cell I T) → Root → List I
  list_at h r = items (tree_at h r)

  -- It is a 2-3 finger tree of as many levels as the root says, with digits of one to four fingers and right item counts.
  abbrev pub Whole : List (Cell I T) → Root → Type 0
  Whole h r = formed r.levels 0 (tree_at h r) ≡ true

  -- Its stored totals are its items', and its items are admitted.
  abbrev pub Right : {Q : Type 0} → Algebra I T Q → List (Cell I T) → Root → Type 0
  Right k h r = Sound k (tree_at h r)

  -- At most `cost` free cells were taken, every whole tree reads as before, and the root r is whole and stands for xs.
  pub record Made (h h' : List (Cell I T)) (cost : ℕ) (r : Root) (xs : List I) : Type 0 where
    pub grown : Grown h h' cost
    pub stays : (old : Root) → Whole h old → tree_at h' old ≡ tree_at h old
    pub whole : Whole h' r
    pub list : list_at h' r ≡ xs

  -- The same of two roots at once.
  pub record MadeTwo (h h' : List (Cell I T)) (cost : ℕ) (r : Halves) (xs ys : List I) : Type 0 where
    pub grown : Grown h h' cost
    pub stays : (old : Root) → Whole h old → tree_at h' old ≡ tree_at h old
    pub left_whole : Whole h' r.left
    pub left_list : list_at h' r.left ≡ xs
    pub right_whole : Whole h' r.right
    pub right_list : list_at h' r.right ≡ ys

  -- What a take at a side gives of the list xs: nothing of the empty one alone, else the item there, and the others.
  pub record Took (h h' : List (Cell I T)) (cost : ℕ) (side : Side) (xs : List I) (item : I) (r : Root) : Type 0 where
    pub rest : List I
    pub made : Made h h' cost r rest
    pub was : xs ≡ along side (item ∷ []) rest

  abbrev pub Given : List (Cell I T) → List (Cell I T) → FreeList → FreeList → ℕ → Side → List I → Option (Popped I) → Type 0
  Given h h' free free' cost side xs None = (xs ≡ []) × (h' ≡ h) × (free' ≡ free)
  Given h h' free free' cost side xs (Some t) = Took h h' cost side xs t.taken t.rest

  -- Totals stay right.
  abbrev pub GivenRight : {Q : Type 0} → Algebra I T Q → List (Cell I T) → Option (Popped I) → Type 0
  GivenRight k h None = Unit {0}
  GivenRight k h (Some t) = Right k h t.rest × (k.admitted t.taken ≡ true)

  -- A list in two somewhere, and where totals are right, at the item by which the question is first met: all before it, and the rest.
  abbrev pub cut_place : {Q : Type 0} → Algebra I T Q → Q → List I → ℕ
  cut_place k q xs = place_of (length xs) (seek k q xs)

  pub record PartedBy {Q : Type 0} (k : Algebra I T Q) (h h' : List (Cell I T)) (cost : ℕ) (q : Q) (root : Root) (r : Halves) : Type 0 where
    pub at : ℕ
    pub made : MadeTwo h h' cost r (take at (list_at h root)) (drop at (list_at h root))
    pub place : Right k h root → at ≡ cut_place k q (list_at h root)
