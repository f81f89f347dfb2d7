use Rattle.std.proofs.Common.{suc, ◌+◌, arith}
use Rattle.model.proofs.Popping.{tree_of_formed}
use Rattle.cells.specs.Cells.{end, node, nodes, rooted}
use Rattle.cells.specs.Fingers.{listed, listed_some}
use Rattle.splits.proofs.Halving.{both_built, both_formed, both_count, side_is, near_ready, middle_ready, far_ready, level_count, trim_kept}
use Rattle.splits.proofs.Descending.{parts_as}
use Rattle.splits.proofs.split.halve_at.Goals as goal

pub trim-rest-requires : goal.trim-rest-requires
trim-rest-requires g c =
    let q = g.K.Kind.kind in
    let s = end c.args.side in
    let cut = c.args.cut in
    let w = both_formed q c.args.cells.now c.args.level s cut.before cut.after _ c.ordered-outer.ensures c.requires.before c.requires.after in
    let n = both_count q c.args.cells.now c.args.level s cut.before cut.after _ c.ordered-outer.ensures in
    let spent = c.tree_some-part.ensures.made.grown.spent in
    record {
      room = omega (arith, c.requires.room);
      sound = c.tree_some-part.ensures.sound;
      shallow = c.requires.shallow;
      near = near_ready q s c.tree_some-part.ensures.made.grown.extends c.args.level (listed_some c.ordered-outer.result.1) c.args.middle (listed c.args.far) w.1 c.requires.middle c.requires.far;
      middle = middle_ready q s c.tree_some-part.ensures.made.grown.extends c.args.level (listed_some c.ordered-outer.result.1) c.args.middle (listed c.args.far) w.1 c.requires.middle c.requires.far;
      far = far_ready q s c.tree_some-part.ensures.made.grown.extends c.args.level (listed_some c.ordered-outer.result.1) c.args.middle (listed c.args.far) w.1 c.requires.middle c.requires.far;
      fits = omega (arith, n, level_count q s c.tree_some-part.ensures.made.grown.extends c.args.level (listed_some c.ordered-outer.result.1) c.args.middle (listed c.args.far) w.1 c.requires.middle c.requires.far, c.requires.fits);
    }

pub returns-clause-made : goal.returns-clause-made
returns-clause-made g c =
    let q = g.K.Kind.kind in
    let h = c.args.cells.now in
    let k = c.args.level in
    let s = end c.args.side in
    let cut = c.args.cut in
    let w = both_formed q h k s cut.before cut.after _ c.ordered-outer.ensures c.requires.before c.requires.after in
    let kept = trim_kept q s c.tree_some-part.ensures.made.grown.extends c.args.level (listed_some c.ordered-outer.result.1) c.args.middle (listed c.args.far) w.1 c.requires.middle c.requires.far c.trim-rest.ensures.made in
    parts_as (c.args.middle.levels + 2) _
    (both_built s (c.args.middle.levels + 2) cut.finger cut.offset (rw c.opposite.ensures at c.tree_some-part.ensures.made) (tree_of_formed q _ k (nodes h k (listed_some c.ordered-outer.result.0)) w.0).0 kept c.requires.here (omega arith) _ c.ordered.ensures)
    (side_is q h k s cut.before cut.after _ c.ordered-outer.ensures (rooted h (suc k) c.args.middle) (nodes h k (listed c.args.far)) (node h k cut.finger) cut.offset)
    (omega arith)
