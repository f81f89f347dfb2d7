use Rattle.std.proofs.Common.{◌≡◌, suc, ◌+◌, false, ap, arith}
use Rattle.cells.specs.declared.cell.Body.TheVariants.{Free}
use Rattle.cells.proofs.Opening.{freed_more}
use Rattle.cells.proofs.arena.free_all.Goals as goal

pub loop-i-preserved : goal.loop-i-preserved
loop-i-preserved g c =
    let next : c.loop-i.i + 1 ≡ suc c.loop-i.i = omega arith in
    freed_more c.loop-i.cells c.loop-i.i _ (omega (arith, c.loop-i-test.true, c.loop-i.auto.cells)) c.loop-i.invariant (ap (λ n. record { marked = false; link = n; body = Free }) next)
