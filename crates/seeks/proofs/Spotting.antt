-- The finger of a row in which a question is met. Assumes nothing.
use Rattle.std.proofs.Common.{◌≡◌, ℕ, ◌+◌, true, false, List, [], ◌∷◌, ◌++◌, length, Option, Some, None, refl, sym, ap, ◌∙◌, subst, append-nil, arith, length-append}
use Rattle.kinds.specs.Algebra.{Algebra, Laws}
use Rattle.model.specs.Tree.{Node, single, front, items_node, run, count_node}
use Rattle.model.specs.Forms.{Each}
use Rattle.model.specs.Measures.{total, sum_node}
use Rattle.model.specs.Statements.{Sound}
use Rattle.model.specs.Seek.{seek_from}
use Rattle.model.proofs.Forms.{count_node_is, node_some}
use Rattle.model.proofs.Totals.{admits_run, weighed, sum_node_is}
use Rattle.model.proofs.Seeking.{seek_stops}
use Rattle.cells.specs.Cells.{node, nodes}
use Rattle.cells.specs.Fingers.{listed_some}
use Rattle.cells.specs.Made.{Weighed}
use Rattle.cells.specs.declared.fingers.Digit.{Digit}
use Rattle.cells.specs.declared.cell.Cell.{Cell}
use Rattle.cells.specs.declared.cell.Weight.{Weight}
use Rattle.seeks.specs.Spots.{SpottedRun}
use Rattle.seeks.specs.declared.spot.Spot.{Spot}
use Rattle.seeks.proofs.Meeting.{each_weighed, Reached, added, met_here, met_first, fair_later, ends_later, met_later}

-- fingers of which x is the first, before which p stands
module _ {I T Q : Type 0} {k : Algebra I T Q} (laws : Laws k) (h : List (Cell I T)) (level : ℕ) (q : Q) (p : Weight T) (x : ℕ) (ps : List ℕ) (v : Each level (nodes h level ps)) where
  abbrev here : Node I T
  here = node h level x

  abbrev first : Spot T
  first = record { finger = x; passed = p }

  -- the last finger
  pub spot_last : (o : Option Digit) → ((d : Digit) → o ≡ Some d → ⊥) → ps ≡ x ∷ listed_some o → SpottedRun k h level q p (nodes h level ps) first
  spot_last (Some d) last e = absurd (last d refl)
  spot_last None last e =
      let w = subst (λ ps. Each level (nodes h level ps)) e v in
      let all = append-nil (items_node here) in
      subst (λ ps. SpottedRun k h level q p (nodes h level ps) first) (sym e) (record {
        formed = w.0;
        within = omega (arith, count_node_is level here w.0, ap length all);
        right = λ s f i. met_first q p [] (ap (seek_from k q p.items p.total) all) (met_here q p here s.0 f (sym (ap (λ xs. k.met (k.joined p.total (total k xs)) q) all) ∙ i));
      })

  module _ (qs : List ℕ) (e : ps ≡ x ∷ qs) where
    parts : Each level (nodes h level (x ∷ qs))
    parts = subst (λ ps. Each level (nodes h level ps)) e v

    abbrev after : List I
    after = run front (nodes h level qs)

    long : length (items_node here ++ after) ≡ count_node here + length after
    long = omega (arith, length-append (items_node here) after, count_node_is level here parts.0)

    -- next is the total to the end of the finger
    module _ (w next : Weight T) (u : Weighed (sum_node k here) (count_node here) w) (a : Weighed (k.joined p.total w.total) (p.items + w.items) next) where
      reached : Sound k (single here) → Reached k p (items_node here) next
      reached s = added k p w next u a (items_node here) (sum_node_is laws here (weighed k (single here) s)) (count_node_is level here parts.0)

      -- the first finger, where the question is met by its end
      pub spot_here : true ≡ k.met next.total q → SpottedRun k h level q p (nodes h level ps) first
      spot_here y = subst (λ ps. SpottedRun k h level q p (nodes h level ps) first) (sym e) (record {
        formed = parts.0;
        within = omega (arith, long);
        right = λ s f i.
            let ends = sym (y ∙ ap (λ z. k.met z q) (reached s.0).total_is) in
            met_first q p after (seek_stops laws q p.items p.total (items_node here) after f s.0.1 (node_some level here parts.0) ends) (met_here q p here s.0 f ends);
      })

      -- a later one, where it is not
      pub spot_later : false ≡ k.met next.total q → (r : Spot T) → SpottedRun k h level q next (nodes h level qs) r → SpottedRun k h level q p (nodes h level ps) r
      spot_later y r o = subst (λ ps. SpottedRun k h level q p (nodes h level ps) r) (sym e) (record {
        formed = o.formed;
        within = omega (arith, o.within, long, a.items_are, u.items_are);
        right = λ s f i.
            let t = reached s.0 in
            met_later laws q p f (items_node here) after s.0.1 next t (sym y)
            (o.right s.1 (fair_later laws q p f (items_node here) after s.0.1 next t) (ends_later laws q p f (items_node here) after s.0.1 next t (admits_run k front (nodes h level qs) (each_weighed k (nodes h level qs) s.1)) i));
      })
