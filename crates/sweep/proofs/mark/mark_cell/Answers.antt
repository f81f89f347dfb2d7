use Rattle.std.proofs.Common.{sym, refl, ap, ◌∙◌}
use Rattle.std.proofs.lemmas.List.{get_or_read}
use Rattle.cells.specs.Cells.{blank}
use Rattle.cells.specs.declared.cell.Cell.{Cell}
use Rattle.sweep.proofs.Marking.{entered}
use Rattle.sweep.proofs.mark.mark_cell.Goals as goal

pub returns : goal.returns
returns g c =
    let read = get_or_read _ _ _ c.requires.near c.index-cells-at.is blank in
    entered c.args.cells.now c.args.work.now c.args.at _ c.requires.ready c.requires.near (ap (λ (x : Cell _ _). x.marked) (sym read) ∙ c.if-cell.false) refl refl (ap (λ (x : Cell _ _). x.body) read)
