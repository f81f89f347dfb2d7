use Rattle.std.proofs.Common.{◌≡◌, suc, ◌+◌, ◌<◌, refl, ap, subst, arith, rules}
use Rattle.model.specs.Tree.{count, count_run}
use Rattle.model.specs.Forms.{Formed}
use Rattle.cells.specs.Cells.{end, nodes}
use Rattle.cells.proofs.Opened.{tree_none}
use Rattle.ends.proofs.Pushing.{push_some, full_levels, below_some, below_exact, four_listed, push_empty, push_single, push_roomy, middle_ready, three_ready, carried_count, near_ready, far_ready, below_ready, below_levels, level_count, push_fuller}
use Rattle.ends.proofs.push.+push.Goals as goal

pub make_deep-requires : goal.make_deep-requires
make_deep-requires g t c =
    let k = c.args.level in
    let h = c.args.cells.now in
    let e = c.in-Single.ensures in
    let none = tree_none h 0 (suc k) 0 refl in
    let n = ap (λ ps. count_run (nodes h k ps)) c.of-near.ensures in
    let f = ap (λ ps. count_run (nodes h k ps)) c.of-far.ensures in
    record {
      room = omega (arith, push_some g.K.Kind.kind (end c.args.side) c.args.cells.now c.args.level c.args.finger c.args.root c.requires.finger c.requires.formed, c.requires.room);
      sound = c.requires.sound;
      shallow = omega (arith, c.requires.shallow);
      near = rw c.of-near.ensures (c.requires.finger, tt);
      middle = rw none tt;
      far = rw c.of-far.ensures (subst (Formed k) e.0 c.requires.formed, tt);
      fits = omega (arith, n, f, ap count none, ap count e.0, c.requires.fits);
    }

pub returns-then-near-lt4-clause-made : goal.returns-then-near-lt4-clause-made
returns-then-near-lt4-clause-made g t c =
    push_roomy g.K.Kind.kind (end c.args.side) c.args.cells.now c.args.level c.args.finger c.args.root c.requires.finger c.requires.formed c.in-Deep.ensures _ c.make_deep-then-near-lt4.ensures.made c.prepend-more.ensures c.if-near-lt4.true

pub three_at-three-requires-clause-room : goal.three_at-three-requires-clause-room
three_at-three-requires-clause-room g t c =
    omega (arith, push_some g.K.Kind.kind (end c.args.side) c.args.cells.now c.args.level c.args.finger c.args.root c.requires.finger c.requires.formed, c.requires.room)

pub push-below-requires : goal.push-below-requires
push-below-requires g t c κs within =
    let full = four_listed c.in-Deep.near c.if-near-lt4.false in
    let step : suc c.args.level ≡ c.args.level + 1 = omega arith in
    let levels = c.in-Deep.ensures.levels in
    let less : c.in-Deep.middle.levels < c.args.root.levels = omega arith in
    let spent = c.three_at-three.ensures.made.grown.spent in (
      search rules,
      (
        within.0,
        (
          within.1.0,
          (
            within.1.1.0,
            (
              within.1.1.1,
              (
                omega (arith, full_levels g.K.Kind.kind (end c.args.side) c.args.cells.now c.args.level c.args.finger c.args.root c.requires.finger c.requires.formed c.in-Deep.ensures full c.three_at-three.ensures.made step, c.requires.room),
                (
                  c.three_at-three.ensures.sound,
                  (
                    omega (arith, c.requires.shallow),
                    (middle_ready g.K.Kind.kind (end c.args.side) c.args.cells.now c.args.level c.args.finger c.args.root c.requires.finger c.requires.formed c.in-Deep.ensures full c.three_at-three.ensures.made step, (three_ready g.K.Kind.kind (end c.args.side) c.args.cells.now c.args.level c.args.finger c.args.root c.requires.finger c.requires.formed c.in-Deep.ensures full c.three_at-three.ensures.made step, omega (arith, carried_count g.K.Kind.kind (end c.args.side) c.args.cells.now c.args.level c.args.finger c.args.root c.requires.finger c.requires.formed c.in-Deep.ensures full c.three_at-three.ensures.made step, c.requires.fits))),
                  ),
                ),
              ),
            ),
          ),
        ),
      ),
    )

pub make_deep-requires-in-Deep : goal.make_deep-requires-in-Deep
make_deep-requires-in-Deep g t c =
    let full = four_listed c.in-Deep.near c.if-near-lt4.false in
    let step : suc c.args.level ≡ c.args.level + 1 = omega arith in
    let l = below_levels g.K.Kind.kind (end c.args.side) c.args.cells.now c.args.level c.args.finger c.args.root c.requires.finger c.requires.formed c.in-Deep.ensures full c.three_at-three.ensures.made step c.push-below.ensures.made _ c.of-two.ensures in
    let spent = c.three_at-three.ensures.made.grown.spent in
    let more = c.push-below.ensures.made.grown.spent in
    record {
      room = omega (arith, full_levels g.K.Kind.kind (end c.args.side) c.args.cells.now c.args.level c.args.finger c.args.root c.requires.finger c.requires.formed c.in-Deep.ensures full c.three_at-three.ensures.made step, below_exact g.K.Kind.kind (end c.args.side) c.args.cells.now c.args.level c.args.finger c.args.root c.requires.finger c.requires.formed c.in-Deep.ensures full c.three_at-three.ensures.made step c.push-below.ensures.made _ c.of-two.ensures, below_some g.K.Kind.kind (end c.args.side) c.args.cells.now c.args.level c.args.finger c.args.root c.requires.finger c.requires.formed c.in-Deep.ensures full c.three_at-three.ensures.made step c.push-below.ensures.made _ c.of-two.ensures, spent, more, c.requires.room);
      sound = c.push-below.ensures.sound;
      shallow = omega (arith, l, c.requires.shallow);
      near = near_ready g.K.Kind.kind (end c.args.side) c.args.cells.now c.args.level c.args.finger c.args.root c.requires.finger c.requires.formed c.in-Deep.ensures full c.three_at-three.ensures.made step c.push-below.ensures.made _ c.of-two.ensures;
      middle = below_ready g.K.Kind.kind (end c.args.side) c.args.cells.now c.args.level c.args.finger c.args.root c.requires.finger c.requires.formed c.in-Deep.ensures full c.three_at-three.ensures.made step c.push-below.ensures.made _ c.of-two.ensures;
      far = far_ready g.K.Kind.kind (end c.args.side) c.args.cells.now c.args.level c.args.finger c.args.root c.requires.finger c.requires.formed c.in-Deep.ensures full c.three_at-three.ensures.made step c.push-below.ensures.made _ c.of-two.ensures;
      fits = omega (arith, level_count g.K.Kind.kind (end c.args.side) c.args.cells.now c.args.level c.args.finger c.args.root c.requires.finger c.requires.formed c.in-Deep.ensures full c.three_at-three.ensures.made step c.push-below.ensures.made _ c.of-two.ensures, c.requires.fits);
    }

pub returns-in-Empty-clause-made : goal.returns-in-Empty-clause-made
returns-in-Empty-clause-made g t c = push_empty g.K.Kind.kind (end c.args.side) c.args.cells.now c.args.level c.args.finger c.args.root c.requires.finger c.requires.formed c.make_single.ensures.made c.in-Empty.ensures.0

pub returns-in-Single-clause-made : goal.returns-in-Single-clause-made
returns-in-Single-clause-made g t c =
    push_single g.K.Kind.kind (end c.args.side) c.args.cells.now c.args.level c.args.finger c.args.root c.requires.finger c.requires.formed _ _ _ c.make_deep.ensures.made c.of-near.ensures c.of-far.ensures c.in-Single.ensures.0

pub returns-else-near-lt4-clause-made : goal.returns-else-near-lt4-clause-made
returns-else-near-lt4-clause-made g t c =
    let full = four_listed c.in-Deep.near c.if-near-lt4.false in
    let step : suc c.args.level ≡ c.args.level + 1 = omega arith in
    push_fuller g.K.Kind.kind (end c.args.side) c.args.cells.now c.args.level c.args.finger c.args.root c.requires.finger c.requires.formed c.in-Deep.ensures full c.three_at-three.ensures.made step c.push-below.ensures.made _ c.of-two.ensures c.make_deep-in-Deep.ensures.made

pub make_deep-requires-then-near-lt4 : goal.make_deep-requires-then-near-lt4
make_deep-requires-then-near-lt4 g t c =
    let k = c.args.level in
    let h = c.args.cells.now in
    let seen = c.in-Deep.ensures in
    let n = ap (λ ps. count_run (nodes h k ps)) c.prepend-more.ensures in
    record {
      room = omega (arith, push_some g.K.Kind.kind (end c.args.side) c.args.cells.now c.args.level c.args.finger c.args.root c.requires.finger c.requires.formed, c.requires.room);
      sound = c.requires.sound;
      shallow = omega (arith, seen.levels, c.requires.shallow);
      near = rw c.prepend-more.ensures (c.requires.finger, seen.near_formed);
      middle = seen.middle_formed;
      far = seen.far_formed;
      fits = omega (arith, n, seen.counts, c.requires.fits);
    }
