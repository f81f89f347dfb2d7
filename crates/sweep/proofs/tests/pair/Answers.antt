use Rattle.std.proofs.Common.{refl, sym, subst, arith}
use Rattle.model.specs.Forms.{FormedNode, Formed}
use Rattle.cells.specs.Cells.{node}
use Rattle.sweep.proofs.Examples.{reads_from, one_finger, no_middle}
use Rattle.sweep.proofs.tests.pair.Goals as goal

pub make_deep-requires-clause-middle : goal.make_deep-requires-clause-middle
make_deep-requires-clause-middle g c = (no_middle c.arena.inside.cells.now).0

pub make_deep-requires-clause-fits : goal.make_deep-requires-clause-fits
make_deep-requires-clause-fits g c =
    let first = one_finger c.arena.inside.cells.now c.args.first _ c.of-near.ensures (subst (λ h. FormedNode 0 (node h 0 c.args.first)) (sym c.arena.view_is) c.requires.first) in
    let last = one_finger c.arena.inside.cells.now c.args.last _ c.of-far.ensures (subst (λ h. FormedNode 0 (node h 0 c.args.last)) (sym c.arena.view_is) c.requires.last) in
    omega (arith, first.1, (no_middle c.arena.inside.cells.now).1, last.1)

pub returns-clause-whole : goal.returns-clause-whole
returns-clause-whole g c =
    let first = one_finger c.arena.inside.cells.now c.args.first _ c.of-near.ensures (subst (λ h. FormedNode 0 (node h 0 c.args.first)) (sym c.arena.view_is) c.requires.first) in
    let last = one_finger c.arena.inside.cells.now c.args.last _ c.of-far.ensures (subst (λ h. FormedNode 0 (node h 0 c.args.last)) (sym c.arena.view_is) c.requires.last) in
    reads_from _ c.make_deep.result (subst (Formed 0) (sym c.make_deep.ensures.made.reads) (refl, (first.0, ((no_middle c.arena.inside.cells.now).0, last.0))))
