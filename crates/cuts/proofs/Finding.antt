-- Where the item at a position is. Assumes nothing.
use Rattle.std.proofs.Common.{◌≡◌, ℕ, suc, ◌+◌, ◌<◌, List, [], ◌++◌, length, get_or, sym, ap, ◌∙◌, subst, append-nil, arith}
use Rattle.std.proofs.lemmas.List.{get_or_append_left, get_or-append-add}
use Rattle.model.specs.Tree.{front, back, run, items_node, items, count_node, count_run, count}
use Rattle.model.specs.Ends.{fingers}
use Rattle.model.specs.Append.{onto}
use Rattle.model.specs.Forms.{FormedNode, Each}
use Rattle.model.proofs.Appending.{run_onto}
use Rattle.model.proofs.Forms.{count_run_is, count_is}
use Rattle.model.proofs.Popping.{fingers_formed, count_fingers}
use Rattle.cells.specs.Cells.{node, nodes, rooted}
use Rattle.cells.specs.Fingers.{listed}
use Rattle.cells.specs.Made.{SeenDeep}
use Rattle.cells.specs.declared.cell.Cell.{Cell}
use Rattle.cells.specs.declared.cell.Root.{Root}
use Rattle.cells.specs.declared.fingers.Digit.{Digit as Filled}
use Rattle.cells.proofs.Turned.{turned_nodes}

-- the parts of a node, one level below
module _ {I T : Type 0} (h : List (Cell I T)) (k k' p : ℕ) (s : suc k ≡ k') (w : FormedNode k' (node h k' p)) (ps : List ℕ) (e : nodes h k ps ≡ fingers front (node h (suc k) p)) where
  node_down : FormedNode (suc k) (node h (suc k) p)
  node_down = subst (λ j. FormedNode j (node h j p)) (sym s) w

  pub parts_ready : Each k (nodes h k ps)
  parts_ready = subst (Each k) (sym e) (fingers_formed front k (node h (suc k) p) node_down).0.1.1

  pub parts_count : count_run (nodes h k ps) ≡ count_node (node h k' p)
  parts_count = ap count_run e ∙ count_fingers front k (node h (suc k) p) node_down ∙ ap (λ j. count_node (node h j p)) s

  pub parts_items : run front (nodes h k ps) ≡ items_node (node h k' p)
  parts_items = ap (run front) e ∙ (fingers_formed front k (node h (suc k) p) node_down).1 ∙ ap (λ j. items_node (node h j p)) s

-- a level, from the left: the items at its front, in its middle and at its back
module _ {I T : Type 0} (h : List (Cell I T)) (k : ℕ) (root : Root) {f b : Filled} {m : Root} (seen : SeenDeep h k front root f m b) (i j : ℕ) (x : I) where
  abbrev F : List I
  F = run front (nodes h k (listed f))

  abbrev M : List I
  M = items (rooted h (suc k) m)

  abbrev B : List I
  B = run back (nodes h k (listed b))

  level_items : items (rooted h k root) ≡ F ++ (M ++ B)
  level_items = ap items seen.is

  front_long : count_run (nodes h k (listed f)) ≡ length F
  front_long = count_run_is front k (nodes h k (listed f)) seen.near_formed

  middle_long : count (rooted h (suc k) m) ≡ length M
  middle_long = count_is (suc k) (rooted h (suc k) m) seen.middle_formed

  after_front : (o : ℕ) → i ≡ count_run (nodes h k (listed f)) + o → get_or (items (rooted h k root)) i x ≡ get_or (M ++ B) o x
  after_front o e = ap (λ xs. get_or xs i x) level_items ∙ ap (λ n. get_or (F ++ (M ++ B)) n x) (e ∙ ap (λ n. n + o) front_long) ∙ get_or-append-add F (M ++ B) o x

  pub at_front : (i ≡ j) × (j < count_run (nodes h k (listed f))) → x ≡ get_or F j x → x ≡ get_or (items (rooted h k root)) i x
  at_front e y = y ∙ sym (ap (λ xs. get_or xs i x) level_items ∙ ap (λ n. get_or (F ++ (M ++ B)) n x) e.0 ∙ get_or_append_left F (M ++ B) x j (omega (arith, front_long, e.1)))

  pub at_middle : (up : ℕ) → suc k ≡ up → (i ≡ count_run (nodes h k (listed f)) + j) × (j < count (rooted h (suc k) m)) → x ≡ get_or (items (rooted h up m)) j x → x ≡ get_or (items (rooted h k root)) i x
  at_middle up s e y =
      y ∙ ap (λ k. get_or (items (rooted h k m)) j x) (sym s) ∙ sym (after_front j e.0 ∙ get_or_append_left M B x j (omega (arith, middle_long, e.1)))

  pub at_back : i ≡ count_run (nodes h k (listed f)) + (count (rooted h (suc k) m) + j) → (ps : List ℕ) → ps ≡ onto (listed b) [] → x ≡ get_or (run front (nodes h k ps)) j x → x ≡ get_or (items (rooted h k root)) i x
  at_back e ps o y =
      let turned : run front (nodes h k ps) ≡ B = ap (run front) (turned_nodes h k (listed b) ps o) ∙ run_onto (nodes h k (listed b)) [] ∙ append-nil _ in
      y ∙ ap (λ xs. get_or xs j x) turned ∙ sym (after_front (count (rooted h (suc k) m) + j) e ∙ ap (λ n. get_or (M ++ B) (n + j) x) middle_long ∙ get_or-append-add M B j x)
