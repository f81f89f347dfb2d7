use Rattle.std.proofs.Common.{suc, ◌+◌, refl, arith}
use Rattle.std.proofs.lemmas.List.{length-map}
use Rattle.model.specs.Tree.{front, back}
use Rattle.model.proofs.Splitting.{trim_well}
use Rattle.cells.specs.Cells.{nodes, rooted}
use Rattle.cells.specs.Fingers.{listed, listed_some}
use Rattle.cells.proofs.Fours.{some_length}
use Rattle.splits.proofs.Halving.{both_built, digit_of, near_ready, middle_ready, far_ready, level_count, trim_kept}
use Rattle.splits.proofs.split.halve_middle.Goals as goal

pub trim-after-requires : goal.trim-after-requires
trim-after-requires g c =
    let q = g.K.Kind.kind in
    let k = c.args.level in
    let spent = c.trim-before.ensures.made.grown.spent in
    record {
      room = omega (arith, c.requires.room);
      sound = c.trim-before.ensures.sound;
      shallow = omega (arith, c.requires.shallow);
      near = near_ready q front c.trim-before.ensures.made.grown.extends k (listed_some c.args.cut.after) c.args.halves.after (listed c.args.back) c.requires.after c.requires.right c.requires.back;
      middle = middle_ready q front c.trim-before.ensures.made.grown.extends k (listed_some c.args.cut.after) c.args.halves.after (listed c.args.back) c.requires.after c.requires.right c.requires.back;
      far = far_ready q front c.trim-before.ensures.made.grown.extends k (listed_some c.args.cut.after) c.args.halves.after (listed c.args.back) c.requires.after c.requires.right c.requires.back;
      fits = omega (arith, level_count q front c.trim-before.ensures.made.grown.extends k (listed_some c.args.cut.after) c.args.halves.after (listed c.args.back) c.requires.after c.requires.right c.requires.back, c.requires.fits);
    }

pub returns-clause-made : goal.returns-clause-made
returns-clause-made g c =
    let q = g.K.Kind.kind in
    let h = c.args.cells.now in
    let k = c.args.level in
    let cut = c.args.cut in
    let short = some_length cut.before in
    let t = (trim_well q back k (nodes h k (listed_some cut.before)) (rooted h (suc k) c.args.halves.before) (nodes h k (listed c.args.front)) c.requires.before (simp length-map short) c.requires.left (digit_of h k c.args.front c.requires.front)).0 in
    both_built front (c.args.halves.before.levels + c.args.halves.after.levels + 2) cut.finger cut.offset c.trim-before.ensures.made t (trim_kept q front c.trim-before.ensures.made.grown.extends k (listed_some c.args.cut.after) c.args.halves.after (listed c.args.back) c.requires.after c.requires.right c.requires.back c.trim-after.ensures.made) c.requires.here (omega arith) _ refl
