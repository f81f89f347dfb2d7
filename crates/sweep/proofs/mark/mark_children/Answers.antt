use Rattle.std.proofs.Common.{refl, sym, subst, inl, arith}
use Rattle.cells.specs.Fingers.{held}
use Rattle.sweep.specs.Marks.{Marks, AllNear, children, first_cell}
use Rattle.sweep.proofs.Members.{in_left, in_right}
use Rattle.sweep.proofs.Marking.{further}
use Rattle.sweep.proofs.mark.mark_children.Goals as goal

pub mark_fingers-requires-clause-near : goal.mark_fingers-requires-clause-near
mark_fingers-requires-clause-near g c = subst (λ b. AllNear c.args.cells.now (children b)) c.in-Node.is c.requires.near

pub mark_cell-requires-clause-near : goal.mark_cell-requires-clause-near
mark_cell-requires-clause-near g c = subst (λ b. AllNear c.args.cells.now (children b)) c.in-Single.is c.requires.near c.in-Single.finger (inl refl)

pub mark_fingers-requires-in-Deep-clause-near : goal.mark_fingers-requires-in-Deep-clause-near
mark_fingers-requires-in-Deep-clause-near g c =
    λ q i. subst (λ b. AllNear c.args.cells.now (children b)) c.in-Deep.is c.requires.near q (in_left (held c.in-Deep.front) _ q i)

pub mark_first-requires-clause-near : goal.mark_first-requires-clause-near
mark_first-requires-clause-near g c =
    λ q i. let l = subst (λ b. AllNear c.args.cells.now (children b)) c.in-Deep.is c.requires.near q (in_right (held c.in-Deep.front) _ q (in_left (first_cell c.in-Deep.middle) _ q i)) in omega (arith, l, c.mark_fingers-in-Deep.ensures.long)

pub mark_fingers-requires-in-Deep-2-clause-near : goal.mark_fingers-requires-in-Deep-2-clause-near
mark_fingers-requires-in-Deep-2-clause-near g c =
    λ q i. let l = subst (λ b. AllNear c.args.cells.now (children b)) c.in-Deep.is c.requires.near q (in_right (held c.in-Deep.front) _ q (in_right (first_cell c.in-Deep.middle) _ q i)) in omega (arith, l, c.mark_fingers-in-Deep.ensures.long, c.mark_first.ensures.long)

pub returns-in-Deep : goal.returns-in-Deep
returns-in-Deep g c =
    subst (λ b. Marks c.args.cells.now c.args.work.now (children b) c.mark_fingers-in-Deep-2.new.cells c.mark_fingers-in-Deep-2.new.work) (sym c.in-Deep.is)
    (further (held c.in-Deep.front) _ c.mark_fingers-in-Deep.ensures (further (first_cell c.in-Deep.middle) (held c.in-Deep.back) c.mark_first.ensures c.mark_fingers-in-Deep-2.ensures))
