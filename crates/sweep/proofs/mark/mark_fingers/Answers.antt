use Rattle.std.proofs.Common.{◌≡◌, ◌∷◌, [], get_or, sym, ap, ◌∙◌, subst, arith, take_all}
use Rattle.cells.specs.Fingers.{held, listed}
use Rattle.sweep.specs.Marks.{AllNear}
use Rattle.cells.proofs.Fours.{listed_length}
use Rattle.sweep.proofs.Members.{in_at}
use Rattle.sweep.proofs.Marking.{nothing, listed_as, no_fingers, digit_at, one_more}
use Rattle.sweep.proofs.mark.mark_fingers.Goals as goal

pub returns-in_default : goal.returns-in_default
returns-in_default g c = listed_as _ _ (sym (no_fingers (held c.args.fingers) c.in_default.ensures)) (nothing _ _ c.requires.ready)

pub mark_cell-requires-clause-near : goal.mark_cell-requires-clause-near
mark_cell-requires-clause-near g c =
    let d = c.in-Ok.digit in
    let i = c.loop-i.i in
    let a = digit_at d i c.loop-i-test.true in
    let near = subst (AllNear c.args.cells.now) (sym c.in-Ok.ensures) c.requires.near (get_or (listed d) i 0) (in_at (listed d) i a.0) in
    let from : c.from.result ≡ i = c.from.ensures in
    omega (arith, near, a.1, ap (λ n. get_or d.at n 0) from, c.loop-i.invariant.long)

pub loop-i-preserved : goal.loop-i-preserved
loop-i-preserved g c =
    let d = c.in-Ok.digit in
    let i = c.loop-i.i in
    let a = digit_at d i c.loop-i-test.true in
    let from : c.from.result ≡ i = c.from.ensures in
    one_more (listed d) i a.0 c.loop-i.invariant (listed_as _ _ (ap (λ p. p ∷ []) (ap (λ n. get_or d.at n 0) from ∙ sym a.1)) c.mark_cell.ensures)

pub returns : goal.returns
returns g c =
    let d = c.in-Ok.digit in
    listed_as _ _ (take_all c.loop-i.i (listed d) (omega (arith, listed_length d, c.loop-i-test.false)) ∙ c.in-Ok.ensures) c.loop-i.invariant
