use Rattle.std.proofs.Common.{[], ◌∷◌, refl, sym, subst}
use Rattle.model.specs.Forms.{Formed}
use Rattle.cells.proofs.Opened.{tree_none}
use Rattle.sweep.proofs.Examples.{reads_from, still_node, still, still_kept, whole_none, whole_kept}
use Rattle.sweep.proofs.tests.what_is_kept_is_seen_from_both_sides.Goals as goal

pub couple-node-requires-clause-first : goal.couple-node-requires-clause-first
couple-node-requires-clause-first g c = still_node c.placed-last.ensures.grown _ c.placed-first.ensures.formed

pub single-one-requires : goal.single-one-requires
single-one-requires g c = still_node c.couple-node.ensures.grown _ c.placed-last.ensures.formed

pub pair-two-requires-clause-first : goal.pair-two-requires-clause-first
pair-two-requires-clause-first g c =
    still_node c.single-one.ensures.grown _ (still_node c.couple-node.ensures.grown _ (still_node c.placed-last.ensures.grown _ c.placed-first.ensures.formed))

pub pair-two-requires-clause-last : goal.pair-two-requires-clause-last
pair-two-requires-clause-last g c = still_node c.single-one.ensures.grown _ (still_node c.couple-node.ensures.grown _ c.placed-last.ensures.formed)

pub sweep-requires-clause-whole : goal.sweep-requires-clause-whole
sweep-requires-clause-whole g c =
    let h = c.pair-two.new.arena in
    let one = still c.pair-two.ensures.grown c.single-one.result c.single-one.ensures.whole in
    whole_kept h c.kept.result c.single-one.result (c.kept-2.result ∷ []) c.kept.ensures one (whole_kept h c.kept-2.result c.pair-two.result [] c.kept-2.ensures c.pair-two.ensures.whole (whole_none h))

pub outer_items-requires : goal.outer_items-requires
outer_items-requires g c =
    let h = c.sweep.new.arena in
    reads_from h (record { levels = 0; at = 0 }) (subst (Formed 0) (sym (tree_none h 0 0 0 refl)) tt)

pub outer_items-requires-2 : goal.outer_items-requires-2
outer_items-requires-2 g c =
    still_kept c.sweep.ensures 0 c.single-one.result c.kept.ensures (still c.pair-two.ensures.grown c.single-one.result c.single-one.ensures.whole)

pub outer_items-requires-3 : goal.outer_items-requires-3
outer_items-requires-3 g c = still_kept c.sweep.ensures 1 c.pair-two.result c.kept-2.ensures c.pair-two.ensures.whole
