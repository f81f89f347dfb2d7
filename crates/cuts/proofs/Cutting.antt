-- That a cut of fingers in cells is a cut. Assumes nothing.
use Rattle.std.proofs.Common.{◌≡◌, ℕ, ◌+◌, ◌<◌, List, [], ◌++◌, length, get_or, Option, sym, refl, ap, ◌∙◌, subst, arith}
use Rattle.std.proofs.lemmas.List.{get_or_append_left, get_or-append-add}
use Rattle.model.specs.Tree.{front, back, run, items_node, count_node, count_run}
use Rattle.model.specs.Split.{cut}
use Rattle.model.specs.Forms.{Each}
use Rattle.model.proofs.Forms.{count_node_is, count_run_is}
use Rattle.model.proofs.Splitting.{CutWell, WellCut, cut_well, cut_counts}
use Rattle.cells.specs.Cells.{node, nodes}
use Rattle.cells.specs.Fingers.{listed_some}
use Rattle.cells.specs.declared.cell.Cell.{Cell}
use Rattle.cells.specs.declared.fingers.Digit.{Digit as Filled}
use Rattle.cuts.specs.Cuts.{cut_at}
use Rattle.cuts.specs.declared.cut.Split.{Split}

-- what is known of a cut of the fingers ps
module _ {I T : Type 0} (h : List (Cell I T)) (k i : ℕ) (ps : List ℕ) (v : Each k (nodes h k ps)) (l : i < count_run (nodes h k ps)) (r : Split (Option Filled)) (e : cut_at h k r ≡ cut i [] (nodes h k ps)) where
  long : count_run (nodes h k ps) ≡ length (run front (nodes h k ps))
  long = count_run_is front k (nodes h k ps) v

  pub cut_known : CutWell k i (length (nodes h k ps)) (run front (nodes h k ps)) (nodes h k (listed_some r.before)) (node h k r.finger) (nodes h k (listed_some r.after)) r.offset
  cut_known =
      let all = run front (nodes h k ps) in
      let many = length (nodes h k ps) in
      subst (WellCut k i many all) (sym e) (cut_well k i [] (nodes h k ps) i many all tt v (omega arith) (omega arith) refl (omega (arith, long)))

  pub cut_sums : count_run (nodes h k (listed_some r.before)) + (count_node (node h k r.finger) + count_run (nodes h k (listed_some r.after))) ≡ count_run (nodes h k ps)
  cut_sums = cut_counts cut_known ∙ sym long

  pub cut_within : r.offset < count_node (node h k r.finger)
  cut_within = let w = cut_known in omega (arith, w.within, count_node_is k (node h k r.finger) w.here)

  -- the item at i is at the offset of the finger
  pub cut_item : (d : I) → get_or (items_node (node h k r.finger)) r.offset d ≡ get_or (run front (nodes h k ps)) i d
  cut_item d =
      let w = cut_known in
      let xs = run back (nodes h k (listed_some r.before)) in
      let ys = items_node (node h k r.finger) in
      let zs = run front (nodes h k (listed_some r.after)) in
      sym (ap (λ j. get_or (run front (nodes h k ps)) j d) (sym w.place) ∙ ap (λ all. get_or all (length xs + r.offset) d) (sym w.rows) ∙ get_or-append-add xs (ys ++ zs) r.offset d ∙ get_or_append_left ys zs d r.offset w.within)
