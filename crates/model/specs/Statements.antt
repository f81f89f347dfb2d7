-- The theorems. Assumes nothing.
use Rattle.std.specs.Prelude.{◌≡◌, ℕ, suc, ◌+◌, ◌*◌, ◌^◌, ◌<◌, ◌≤◌, true, false, ◌⊎◌, List, [], ◌∷◌, ◌++◌, length, take, drop, slice_index_or, slice_set}
use Rattle.kinds.specs.Algebra.{Algebra}
use Rattle.model.specs.Tree.{Node, leaf, two, three, gap, Tree, Side, along, formed, count, items_node, items, cells, levels}
use Rattle.model.specs.Measures.{Admitted, total, Measured, sum, Fair}
use Rattle.model.specs.Ends.{push, Popped, empty, got, pop}
use Rattle.model.specs.Append.{append}
use Rattle.model.specs.Split.{Parts, parts, split}
use Rattle.model.specs.Replace.{replaced}
use Rattle.model.specs.Seek.{Sought, missed, found, seek_from, seek, WellSought, Alike}

abbrev pub CountsAreLengths : Type 0 → Type 0 → Type 0
CountsAreLengths I T = (d k : ℕ) (t : Tree I T) → formed d k t ≡ true → count t ≡ length (items t)

abbrev pub FewestItems : Type 0 → Type 0 → Type 0
FewestItems I T = (d : ℕ) (t : Tree I T) → formed (suc d) 0 t ≡ true → 3 * 2 ^ d ≤ length (items t) + 2

abbrev pub FewCells : Type 0 → Type 0 → Type 0
FewCells I T = (d : ℕ) (t : Tree I T) → formed d 0 t ≡ true → cells t ≤ 2 * length (items t)

-- nothing comes of an empty tree alone; else an item, and a tree of as many levels or one fewer
abbrev pub PoppedWell : {I T : Type 0} → ℕ → Side → Tree I T → Popped I T → Type 0
PoppedWell d s t empty = items t ≡ []
PoppedWell d s t (got (leaf x) rest) = (items t ≡ along s (x ∷ []) (items rest)) × ((formed d 0 rest ≡ true) ⊎ ((e : ℕ) × (formed e 0 rest ≡ true) × (suc e ≡ d)))
PoppedWell d s t (got (two y n a b) rest) = ⊥
PoppedWell d s t (got (three y n a b c) rest) = ⊥
PoppedWell d s t (got gap rest) = ⊥

-- a measured tree of admitted items
abbrev pub Sound : {I T Q : Type 0} → Algebra I T Q → Tree I T → Type 0
Sound k t = Measured k t × Admitted k (items t)

-- t in parts at its item j: l is what stands before, and r what stands after; neither has more than d levels
pub record Parted {I T : Type 0} (d : ℕ) (t : Tree I T) (j : ℕ) (l : Tree I T) (x : I) (r : Tree I T) : Type 0 where
  pub left : items l ≡ take j (items t)
  pub item : (o : I) → slice_index_or (items t) j o ≡ x
  pub right : items r ≡ drop (suc j) (items t)
  pub before : formed (levels l) 0 l ≡ true
  pub after : formed (levels r) 0 r ≡ true
  pub left_levels : levels l ≤ d
  pub right_levels : levels r ≤ d

abbrev pub SplitAt : {I T : Type 0} → ℕ → Tree I T → ℕ → Parts I T → Type 0
SplitAt d t j (parts l (leaf x) r o) = Parted d t j l x r
SplitAt d t j (parts l (two y n a b) r o) = ⊥
SplitAt d t j (parts l (three y n a b c) r o) = ⊥
SplitAt d t j (parts l gap r o) = ⊥

-- both trees are sound, and what stands between them is admitted
abbrev pub SoundParts : {I T Q : Type 0} → Algebra I T Q → Parts I T → Type 0
SoundParts k (parts l x r o) = Sound k l × (Admitted k (items_node x) × Sound k r)

-- a position from n on, before m
abbrev pub Between : {T : Type 0} → ℕ → ℕ → Sought T → Type 0
Between n m missed = ⊥
Between n m (found j t) = (n ≤ j) × (j < m)

-- of a kind
module _ {I T Q : Type 0} (k : Algebra I T Q) where
  abbrev pub PushForms : Type 0
  PushForms = (s : Side) (x : I) (d : ℕ) (t : Tree I T) → formed d 0 t ≡ true → (formed d 0 (push k s (leaf x) t) ≡ true) ⊎ (formed (suc d) 0 (push k s (leaf x) t) ≡ true)

  abbrev pub PushItems : Type 0
  PushItems = (s : Side) (x : I) (d : ℕ) (t : Tree I T) → formed d 0 t ≡ true → items (push k s (leaf x) t) ≡ along s (x ∷ []) (items t)

  abbrev pub PopKeeps : Type 0
  PopKeeps = (s : Side) (d : ℕ) (t : Tree I T) → formed d 0 t ≡ true → PoppedWell d s t (pop k s t)

  abbrev pub AppendKeeps : Type 0
  AppendKeeps = (d e : ℕ) (t u : Tree I T) → formed d 0 t ≡ true → formed e 0 u ≡ true → (formed (levels (append k t [] u)) 0 (append k t [] u) ≡ true) × (items (append k t [] u) ≡ items t ++ items u)

  abbrev pub ReplacedKeeps : Type 0
  ReplacedKeeps = (d : ℕ) (t : Tree I T) (i : ℕ) (x : I) → formed d 0 t ≡ true → i < length (items t) → (items (replaced k x 0 i t) ≡ slice_set (items t) i x) × (formed d 0 (replaced k x 0 i t) ≡ true)

  abbrev pub TotalsJoin : Type 0
  TotalsJoin = (xs ys : List I) → Admitted k xs → Admitted k ys → total k (xs ++ ys) ≡ k.joined (total k xs) (total k ys)

  abbrev pub TotalsFair : Type 0
  TotalsFair = (t : Tree I T) → Sound k t → Fair k t × (sum k t ≡ total k (items t))

  abbrev pub PushMeasures : Type 0
  PushMeasures = (s : Side) (x : I) (t : Tree I T) → k.admitted x ≡ true → Sound k t → Sound k (push k s (leaf x) t)

  abbrev pub PopMeasures : Type 0
  PopMeasures = (s : Side) (t : Tree I T) (x : Node I T) (rest : Tree I T) → Sound k t → pop k s t ≡ got x rest → Sound k rest

  abbrev pub AppendMeasures : Type 0
  AppendMeasures = (t u : Tree I T) → Sound k t → Sound k u → Sound k (append k t [] u)

  abbrev pub ReplacedMeasures : Type 0
  ReplacedMeasures = (t : Tree I T) (i : ℕ) (x : I) → k.admitted x ≡ true → Sound k t → Sound k (replaced k x 0 i t)

  -- what is sought is the least
  abbrev pub SeekFinds : Type 0
  SeekFinds = (q : Q) (xs : List I) → Admitted k xs → WellSought k q xs (seek k q xs)

  -- of a row that is not empty, an item is found if all together meet the question; where they do not, none is
  abbrev pub SeekDecides : Type 0
  SeekDecides = (q : Q) (xs : List I) → Admitted k xs → (1 ≤ length xs → k.met (total k xs) q ≡ true → Between 0 (length xs) (seek k q xs)) × (k.met (total k xs) q ≡ false → seek k q xs ≡ missed)

  -- from n items on that come to acc: a row that does not meet the question is skipped, and one that first does is where it is met
  abbrev pub SeekSkips : Type 0
  SeekSkips = (q : Q) (n : ℕ) (acc : T) (xs ys : List I) → k.fair acc → Admitted k xs →
      let next = k.joined acc (total k xs) in
      k.met next q ≡ false → seek_from k q n acc (xs ++ ys) ≡ seek_from k q (n + length xs) next ys

  abbrev pub SeekLands : Type 0
  SeekLands = (q : Q) (n : ℕ) (acc : T) (xs ys : List I) → k.fair acc → Admitted k xs → k.met acc q ≡ false → k.met (k.joined acc (total k xs)) q ≡ true → (seek_from k q n acc (xs ++ ys) ≡ seek_from k q n acc xs) × Between n (n + length xs) (seek_from k q n acc xs)

  abbrev pub AlikeSeeks : Type 0
  AlikeSeeks = (xs ys : List I) → Alike k xs ys → (total k xs ≡ total k ys) × ((q : Q) (n : ℕ) (acc : T) → seek_from k q n acc xs ≡ seek_from k q n acc ys)

  -- what is split at j stands before its item j, is that item, and stands after it
  abbrev pub SplitKeeps : Type 0
  SplitKeeps = (d : ℕ) (t : Tree I T) (j : ℕ) → formed d 0 t ≡ true → j < length (items t) → SplitAt d t j (split k j t)

  abbrev pub SplitMeasures : Type 0
  SplitMeasures = (t : Tree I T) (j : ℕ) → Sound k t → SoundParts k (split k j t)
