use Rattle.std.proofs.Common.{[], ◌∷◌, None, arith}
use Rattle.cells.proofs.Opened.{node_within}
use Rattle.sweep.proofs.Examples.{still_node, still, still_kept, whole_none, whole_vacant, whole_kept}
use Rattle.sweep.proofs.tests.dropped_versions_leave_their_cells.Goals as goal

pub single-one-requires : goal.single-one-requires
single-one-requires g c = still_node c.placed-third.ensures.grown _ (still_node c.placed-second.ensures.grown _ c.placed-first.ensures.formed)

pub pair-two-requires-clause-first : goal.pair-two-requires-clause-first
pair-two-requires-clause-first g c =
    still_node c.single-one.ensures.grown _ (still_node c.placed-third.ensures.grown _ (still_node c.placed-second.ensures.grown _ c.placed-first.ensures.formed))

pub pair-two-requires-clause-last : goal.pair-two-requires-clause-last
pair-two-requires-clause-last g c = still_node c.single-one.ensures.grown _ (still_node c.placed-third.ensures.grown _ c.placed-second.ensures.formed)

pub single-dropped-requires : goal.single-dropped-requires
single-dropped-requires g c = still_node c.pair-two.ensures.grown _ (still_node c.single-one.ensures.grown _ c.placed-third.ensures.formed)

pub sweep-requires-clause-whole : goal.sweep-requires-clause-whole
sweep-requires-clause-whole g c =
    let h = c.single-dropped.new.arena in
    let one = still c.single-dropped.ensures.grown c.single-one.result (still c.pair-two.ensures.grown c.single-one.result c.single-one.ensures.whole) in
    let two = still c.single-dropped.ensures.grown c.pair-two.result c.pair-two.ensures.whole in
    let last = c.kept-2.result ∷ [] in
    whole_kept h c.kept.result c.single-one.result (record { root = None } ∷ last) c.kept.ensures one (whole_vacant h last (whole_kept h c.kept-2.result c.pair-two.result [] c.kept-2.ensures two (whole_none h)))

pub sweep-requires-2-clause-whole : goal.sweep-requires-2-clause-whole
sweep-requires-2-clause-whole g c =
    let one = still c.single-dropped.ensures.grown c.single-one.result (still c.pair-two.ensures.grown c.single-one.result c.single-one.ensures.whole) in
    let after = still_kept c.sweep.ensures 0 c.single-one.result c.kept.ensures one in
    whole_kept c.sweep.new.arena _ c.single-one.result [] c.kept-3.ensures after (whole_none c.sweep.new.arena)

pub body-requires : goal.body-requires
body-requires g c =
    let within = node_within c.placed-first.new.arena 0 c.placed-first.result c.placed-first.ensures.formed in
    omega (arith, within, c.placed-second.ensures.grown.long, c.placed-third.ensures.grown.long, c.single-one.ensures.grown.long, c.pair-two.ensures.grown.long, c.single-dropped.ensures.grown.long, c.sweep.ensures.long, c.sweep-2.ensures.long)
