use Rattle.std.proofs.Common.{◌≡◌, ◌≤◌, length, subst, arith}
use Rattle.sweep.specs.Frees.{Judging}
use Rattle.sweep.proofs.Judging.{judging_down}
use Rattle.sweep.proofs.free.free_unmarked.Goals as goal

pub loop-at-preserved : goal.loop-at-preserved
loop-at-preserved g c =
    let within : c.loop-at.at ≤ length c.loop-at.cells = omega (arith, c.loop-at.auto.at, c.loop-at.auto.cells) in
    judging_down _ _ _ _ _ _ c.requires.live (omega arith) within c.loop-at.invariant c.judge.ensures

pub returns : goal.returns
returns g c =
    let end : c.loop-at.at ≡ 0 = omega (arith, c.loop-at-test.false) in
    subst (λ i. Judging c.args.cells.now i c.loop-at.cells c.loop-at.free) end c.loop-at.invariant
