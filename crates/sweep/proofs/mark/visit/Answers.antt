use Rattle.std.proofs.Common.{◌-◌, sym, subst, rules}
use Rattle.std.proofs.lemmas.List.{get_or_read}
use Rattle.cells.specs.Cells.{blank}
use Rattle.cells.specs.declared.cell.Cell.{Cell}
use Rattle.sweep.specs.Marks.{AllNear, Ready, Marks, children}
use Rattle.sweep.proofs.Marking.{within_first, ready_popped}
use Rattle.sweep.proofs.mark.visit.Goals as goal

pub offset_bounds-cells-work : goal.offset_bounds-cells-work
offset_bounds-cells-work g c = let w = within_first c.args.cells.now c.args.work.now c.requires.some c.requires.ready in search rules

pub bounds-cells-work : goal.bounds-cells-work
bounds-cells-work g c = within_first c.args.cells.now c.args.work.now c.requires.some c.requires.ready

pub mark_children-requires-clause-ready : goal.mark_children-requires-clause-ready
mark_children-requires-clause-ready g c =
    let within = within_first c.args.cells.now c.args.work.now c.requires.some c.requires.ready in
    let read = get_or_read _ _ _ within c.index-cells-work.is blank in
    subst (λ (x : Cell _ _). Ready c.args.cells.now (record { first = x.link; count = c.args.work.now.count - 1 })) (sym read) (ready_popped c.args.cells.now c.args.work.now c.requires.some c.requires.ready)

pub mark_children-requires-clause-near : goal.mark_children-requires-clause-near
mark_children-requires-clause-near g c =
    let within = within_first c.args.cells.now c.args.work.now c.requires.some c.requires.ready in
    let read = get_or_read _ _ _ within c.index-cells-work.is blank in
    subst (λ (x : Cell _ _). AllNear c.args.cells.now (children x.body)) (sym read) c.requires.near

pub returns : goal.returns
returns g c =
    let within = within_first c.args.cells.now c.args.work.now c.requires.some c.requires.ready in
    let read = get_or_read _ _ _ within c.index-cells-work.is blank in
    subst (λ (x : Cell _ _). Marks c.args.cells.now (record { first = x.link; count = c.args.work.now.count - 1 }) (children x.body) c.mark_children.new.cells c.mark_children.new.work) read c.mark_children.ensures
