use Rattle.std.proofs.Common.{◌≡◌, suc, ◌+◌, ◌*◌, ◌<◌, refl, ap, subst, arith, rules}
use Rattle.model.specs.Tree.{count_run, count}
use Rattle.model.specs.Forms.{Formed}
use Rattle.cells.specs.Cells.{nodes, rooted}
use Rattle.cells.specs.Fingers.{listed}
use Rattle.cells.proofs.Turned.{turned_formed, turned_count}
use Rattle.cuts.proofs.Cutting.{cut_known, cut_sums}
use Rattle.splits.proofs.Descending.{squares, single_done, front_done, back_done, inner, inner_within, left_levels, right_levels, near_ready, far_ready, inner_fits, middle_done}
use Rattle.splits.proofs.split.+split.Goals as goal

pub returns-in-Single-clause-made : goal.returns-in-Single-clause-made
returns-in-Single-clause-made g t c = single_done g.K.Kind.kind c.args.cells.now (c.args.root.levels * c.args.root.levels + c.args.root.levels) c.args.level c.in-Single.finger c.args.position (rooted c.args.cells.now c.args.level c.args.root) c.in-Single.ensures.0

-- the level is cut at its front
pub halve_at-requires : goal.halve_at-requires
halve_at-requires g t c =
    let seen = c.in-Deep.ensures in
    let sq = squares c.in-Deep.middle.levels c.args.root.levels seen.levels in
    let l : c.in-Front.place < count_run (nodes c.args.cells.now c.args.level (listed c.in-Deep.near)) = c.in-Front.ensures.1 in
    let w = cut_known c.args.cells.now c.args.level c.in-Front.place (listed c.in-Deep.near) seen.near_formed l c.cut_digit-cut.result c.cut_digit-cut.ensures in
    let s = cut_sums c.args.cells.now c.args.level c.in-Front.place (listed c.in-Deep.near) seen.near_formed l c.cut_digit-cut.result c.cut_digit-cut.ensures in
    record {
      room = omega (arith, sq, c.requires.room);
      sound = c.requires.sound;
      shallow = omega (arith, seen.levels, c.requires.shallow);
      before = w.before;
      here = w.here;
      after = w.after;
      middle = seen.middle_formed;
      far = seen.far_formed;
      fits = omega (arith, s, seen.counts, c.requires.fits);
    }

pub returns-in-Front-clause-made : goal.returns-in-Front-clause-made
returns-in-Front-clause-made g t c =
    let seen = c.in-Deep.ensures in
    let sq = squares c.in-Deep.middle.levels c.args.root.levels seen.levels in
    front_done g.K.Kind.kind c.args.cells.now c.args.level c.args.position c.args.root seen c.in-Front.place c.in-Front.ensures c.cut_digit-cut.result c.cut_digit-cut.ensures (c.args.root.levels * c.args.root.levels + c.args.root.levels) (omega (arith, sq)) c.halve_at.ensures.made

-- the level is cut in its middle
pub split-halves-requires : goal.split-halves-requires
split-halves-requires g t c κs within =
    let h = c.args.cells.now in
    let m = c.in-Deep.middle in
    let seen = c.in-Deep.ensures in
    let step : suc c.args.level ≡ c.args.level + 1 = omega arith in
    let less : m.levels < c.args.root.levels = omega (arith, seen.levels) in
    let sq = squares m.levels c.args.root.levels seen.levels in
    let below = subst (λ j. Formed j (rooted h j m)) step seen.middle_formed in
    let n = ap (λ j. count (rooted h j m)) step in
    (search rules, (within.0, (within.1.0, (within.1.1.0, (within.1.1.1, (omega (arith, sq, c.requires.room), (c.requires.sound, (omega (arith, seen.levels, c.requires.shallow), (below, (omega (arith, n, seen.counts, c.requires.fits), omega (arith, n, c.in-Middle.ensures.1)))))))))))

pub halve_below-requires : goal.halve_below-requires
halve_below-requires g t c =
    let seen = c.in-Deep.ensures in
    let step : suc c.args.level ≡ c.args.level + 1 = omega arith in
    let sq = squares c.in-Deep.middle.levels c.args.root.levels seen.levels in
    let here = inner g.K.Kind.kind c.args.cells.now c.args.level c.args.position c.args.root seen c.in-Middle.place c.in-Middle.ensures.0 c.in-Middle.ensures.1 (c.args.level + 1) step c.split-halves.result c.split-halves.ensures.made in
    let l = left_levels g.K.Kind.kind c.args.cells.now c.args.level c.args.position c.args.root seen c.in-Middle.place c.in-Middle.ensures.0 c.in-Middle.ensures.1 (c.args.level + 1) step c.split-halves.result c.split-halves.ensures.made in
    let r = right_levels g.K.Kind.kind c.args.cells.now c.args.level c.args.position c.args.root seen c.in-Middle.place c.in-Middle.ensures.0 c.in-Middle.ensures.1 (c.args.level + 1) step c.split-halves.result c.split-halves.ensures.made in
    let spent = c.split-halves.ensures.made.grown.spent in
    record {
      room = omega (arith, sq, l, r, spent, c.requires.room);
      sound = c.split-halves.ensures.sound;
      shallow = omega (arith, seen.levels, l, r, c.requires.shallow);
      front = near_ready g.K.Kind.kind c.args.cells.now c.args.level c.args.position c.args.root seen c.in-Middle.place c.in-Middle.ensures.0 c.in-Middle.ensures.1 (c.args.level + 1) step c.split-halves.result c.split-halves.ensures.made;
      left = here.before;
      here = here.here;
      within = inner_within g.K.Kind.kind c.args.cells.now c.args.level c.args.position c.args.root seen c.in-Middle.place c.in-Middle.ensures.0 c.in-Middle.ensures.1 (c.args.level + 1) step c.split-halves.result c.split-halves.ensures.made;
      right = here.after;
      back = far_ready g.K.Kind.kind c.args.cells.now c.args.level c.args.position c.args.root seen c.in-Middle.place c.in-Middle.ensures.0 c.in-Middle.ensures.1 (c.args.level + 1) step c.split-halves.result c.split-halves.ensures.made;
      fits = omega (arith, inner_fits g.K.Kind.kind c.args.cells.now c.args.level c.args.position c.args.root seen c.in-Middle.place c.in-Middle.ensures.0 c.in-Middle.ensures.1 (c.args.level + 1) step c.split-halves.result c.split-halves.ensures.made, c.requires.fits);
    }

pub returns-in-Middle-clause-made : goal.returns-in-Middle-clause-made
returns-in-Middle-clause-made g t c =
    let seen = c.in-Deep.ensures in
    let step : suc c.args.level ≡ c.args.level + 1 = omega arith in
    let sq = squares c.in-Deep.middle.levels c.args.root.levels seen.levels in
    let l = left_levels g.K.Kind.kind c.args.cells.now c.args.level c.args.position c.args.root seen c.in-Middle.place c.in-Middle.ensures.0 c.in-Middle.ensures.1 (c.args.level + 1) step c.split-halves.result c.split-halves.ensures.made in
    let r = right_levels g.K.Kind.kind c.args.cells.now c.args.level c.args.position c.args.root seen c.in-Middle.place c.in-Middle.ensures.0 c.in-Middle.ensures.1 (c.args.level + 1) step c.split-halves.result c.split-halves.ensures.made in
    middle_done g.K.Kind.kind c.args.cells.now c.args.level c.args.position c.args.root seen c.in-Middle.place c.in-Middle.ensures.0 c.in-Middle.ensures.1 (c.args.level + 1) step c.split-halves.result c.split-halves.ensures.made (c.args.root.levels * c.args.root.levels + c.args.root.levels) (omega (arith, sq, l, r)) c.halve_below.ensures.made

-- the level is cut at its back
pub cut_digit-cut-requires-in-Back : goal.cut_digit-cut-requires-in-Back
cut_digit-cut-requires-in-Back g t c =
    let seen = c.in-Deep.ensures in
    let n = turned_count c.args.cells.now c.args.level (listed c.in-Deep.far) _ c.reversed.ensures in
    let v = turned_formed c.args.cells.now c.args.level (listed c.in-Deep.far) _ c.reversed.ensures seen.far_formed in
    record {
      few = omega (arith, c.reversed.result.filled.1);
      formed = v;
      within = omega (arith, n, seen.counts, c.requires.within, c.in-Back.ensures);
    }

pub halve_at-requires-in-Back : goal.halve_at-requires-in-Back
halve_at-requires-in-Back g t c =
    let seen = c.in-Deep.ensures in
    let sq = squares c.in-Deep.middle.levels c.args.root.levels seen.levels in
    let n = turned_count c.args.cells.now c.args.level (listed c.in-Deep.far) _ c.reversed.ensures in
    let v = turned_formed c.args.cells.now c.args.level (listed c.in-Deep.far) _ c.reversed.ensures seen.far_formed in
    let l : c.in-Back.place < count_run (nodes c.args.cells.now c.args.level (listed c.reversed.result)) = omega (arith, n, seen.counts, c.requires.within, c.in-Back.ensures) in
    let w = cut_known c.args.cells.now c.args.level c.in-Back.place (listed c.reversed.result) v l c.cut_digit-cut-in-Back.result c.cut_digit-cut-in-Back.ensures in
    let s = cut_sums c.args.cells.now c.args.level c.in-Back.place (listed c.reversed.result) v l c.cut_digit-cut-in-Back.result c.cut_digit-cut-in-Back.ensures in
    record {
      room = omega (arith, sq, c.requires.room);
      sound = c.requires.sound;
      shallow = omega (arith, seen.levels, c.requires.shallow);
      before = w.before;
      here = w.here;
      after = w.after;
      middle = seen.middle_formed;
      far = seen.near_formed;
      fits = omega (arith, s, n, seen.counts, c.requires.fits);
    }

pub returns-in-Back-clause-made : goal.returns-in-Back-clause-made
returns-in-Back-clause-made g t c =
    let seen = c.in-Deep.ensures in
    let sq = squares c.in-Deep.middle.levels c.args.root.levels seen.levels in
    back_done g.K.Kind.kind c.args.cells.now c.args.level c.args.position c.args.root seen _ c.in-Back.ensures c.in-Back.place refl (listed c.reversed.result) c.reversed.ensures c.cut_digit-cut-in-Back.result c.cut_digit-cut-in-Back.ensures (c.args.root.levels * c.args.root.levels + c.args.root.levels) (omega (arith, sq)) c.halve_at-in-Back.ensures.made
