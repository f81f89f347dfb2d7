use Rattle.std.proofs.Common.{suc, ◌+◌, ◌<◌, refl, arith}
use Rattle.model.specs.Tree.{count_run}
use Rattle.cells.specs.Cells.{nodes}
use Rattle.cells.specs.Fingers.{listed}
use Rattle.cuts.proofs.Cutting.{cut_known, cut_sums}
use Rattle.cuts.proofs.Finding.{parts_ready, parts_count}
use Rattle.splits.proofs.Descending.{parts_as, middle_is}
use Rattle.splits.proofs.split.halve_below.Goals as goal

pub cut_digit-cut-requires-clause-formed : goal.cut_digit-cut-requires-clause-formed
cut_digit-cut-requires-clause-formed g c = parts_ready c.args.cells.now c.args.level (suc c.args.level) c.args.halves.finger refl c.requires.here (listed c.fingers_of-parts.result) c.fingers_of-parts.ensures

pub cut_digit-cut-requires-clause-within : goal.cut_digit-cut-requires-clause-within
cut_digit-cut-requires-clause-within g c =
    omega (arith, parts_count c.args.cells.now c.args.level (suc c.args.level) c.args.halves.finger refl c.requires.here (listed c.fingers_of-parts.result) c.fingers_of-parts.ensures, c.requires.within)

pub halve_middle-requires : goal.halve_middle-requires
halve_middle-requires g c =
    let h = c.args.cells.now in
    let k = c.args.level in
    let ps = listed c.fingers_of-parts.result in
    let v = parts_ready h k (suc k) c.args.halves.finger refl c.requires.here ps c.fingers_of-parts.ensures in
    let m = parts_count h k (suc k) c.args.halves.finger refl c.requires.here ps c.fingers_of-parts.ensures in
    let n : c.args.halves.offset < count_run (nodes h k ps) = omega (arith, m, c.requires.within) in
    let w = cut_known h k c.args.halves.offset ps v n c.cut_digit-cut.result c.cut_digit-cut.ensures in
    let s = cut_sums h k c.args.halves.offset ps v n c.cut_digit-cut.result c.cut_digit-cut.ensures in
    record {
      room = c.requires.room;
      sound = c.requires.sound;
      shallow = c.requires.shallow;
      before = w.before;
      here = w.here;
      after = w.after;
      front = c.requires.front;
      left = c.requires.left;
      right = c.requires.right;
      back = c.requires.back;
      fits = omega (arith, s, m, c.requires.fits);
    }

pub returns-clause-made : goal.returns-clause-made
returns-clause-made g c =
    parts_as (c.args.halves.before.levels + c.args.halves.after.levels + 2) _ c.halve_middle.ensures.made (middle_is g.K.Kind.kind c.args.cells.now c.args.level (listed c.args.front) (listed c.args.back) c.args.halves (listed c.fingers_of-parts.result) c.fingers_of-parts.ensures c.cut_digit-cut.result c.cut_digit-cut.ensures) (omega arith)
