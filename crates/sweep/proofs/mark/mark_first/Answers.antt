use Rattle.std.proofs.Common.{refl, sym, subst, inl, arith}
use Rattle.sweep.specs.Marks.{In}
use Rattle.sweep.proofs.Marking.{nothing, listed_as, no_levels, some_levels}
use Rattle.sweep.proofs.mark.mark_first.Goals as goal

pub mark_cell-requires-clause-near : goal.mark_cell-requires-clause-near
mark_cell-requires-clause-near g c = c.requires.near c.args.root.at (subst (λ ps. In ps c.args.root.at) (sym (some_levels c.args.root (omega arith))) (inl refl))

pub returns-else-root-gt0 : goal.returns-else-root-gt0
returns-else-root-gt0 g c = listed_as _ _ (sym (no_levels c.args.root (omega arith))) (nothing _ _ c.requires.ready)
