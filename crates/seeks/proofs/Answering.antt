-- What is sought in a tree, from where it is located. Assumes nothing.
use Rattle.std.proofs.Common.{◌≡◌, ◌<◌, true, false, List, sym, ap, ◌∙◌, subst, arith}
use Rattle.kinds.specs.Algebra.{Algebra, Laws}
use Rattle.model.specs.Tree.{Tree, items, count}
use Rattle.model.specs.Forms.{Formed}
use Rattle.model.specs.Measures.{total, sum}
use Rattle.model.specs.Seek.{missed, found, seek}
use Rattle.model.specs.Statements.{Sound}
use Rattle.model.proofs.Forms.{count_node_is, count_is, node_some}
use Rattle.model.proofs.Totals.{weighed, fair_total, sum_is}
use Rattle.model.proofs.Seeking.{seek_decides}
use Rattle.cells.specs.Cells.{node}
use Rattle.cells.specs.Made.{Weighed}
use Rattle.cells.specs.declared.cell.Cell.{Cell}
use Rattle.cells.specs.declared.cell.Weight.{Weight}
use Rattle.seeks.specs.Spots.{SpottedTree}
use Rattle.seeks.specs.declared.spot.Spot.{Spot}
use Rattle.seeks.proofs.Meeting.{met_item}

module _ {I T Q : Type 0} (k : Algebra I T Q) (q : Q) (t : Tree I T) where
  at_start : (start : Weight T) → Weighed k.nothing 0 start → start ≡ record { total = k.nothing; items = 0 }
  at_start start e = ap (λ z. record { total = z; items = start.items }) e.total_is ∙ ap (λ n. record { total = k.nothing; items = n }) e.items_are

  module _ (laws : Laws k) (w : T) (w_is : w ≡ sum k t) where
    ends : Sound k t → w ≡ total k (items t)
    ends s = w_is ∙ sum_is laws t (weighed k t s)

    pub seek_misses : false ≡ k.met w q → Sound k t → missed ≡ seek k q (items t)
    seek_misses o s = sym ((seek_decides laws q (items t) s.1).1 (sym (o ∙ ap (λ z. k.met z q) (ends s))))

    pub seek_hits : true ≡ k.met w q → (h : List (Cell I T)) (start : Weight T) → Weighed k.nothing 0 start → (r : Spot T) → SpottedTree k h 0 q start t r → Sound k t → found r.passed.items r.passed.total ≡ seek k q (items t)
    seek_hits i h start e r o s =
        let p = subst (λ z. SpottedTree k h 0 q z t r) (at_start start e) o in
        let met = ap (λ z. k.met z q) (laws.left _ (fair_total laws (items t) s.1)) ∙ sym (i ∙ ap (λ z. k.met z q) (ends s)) in
        met_item laws q (record { total = k.nothing; items = 0 }) (items t) r.passed (node h 0 r.finger) p.formed (p.right s laws.none met)

  pub seek_within : Formed 0 t → (h : List (Cell I T)) (start : Weight T) → Weighed k.nothing 0 start → (r : Spot T) → SpottedTree k h 0 q start t r → r.passed.items < count t
  seek_within w h start e r o =
      let a = node h 0 r.finger in
      omega (arith, o.within, e.items_are, node_some 0 a o.formed, count_node_is 0 a o.formed, count_is 0 t w)
