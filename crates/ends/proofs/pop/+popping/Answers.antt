use Rattle.std.proofs.Common.{◌≡◌, suc, ◌+◌, ◌^◌, ◌<◌, ◌≤◌, length, refl, sym, ap, subst, arith, rules}
use Rattle.model.specs.Tree.{count}
use Rattle.model.specs.Forms.{Formed}
use Rattle.model.specs.Ends.{pop}
use Rattle.cells.specs.Cells.{end, rooted}
use Rattle.cells.specs.Chain.{free_cells}
use Rattle.cells.specs.Fingers.{listed}
use Rattle.cells.proofs.Opened.{tree_none}
use Rattle.cells.proofs.Fours.{listed_length}
use Rattle.cells.proofs.Frames.{grown_none}
use Rattle.ends.proofs.Pushing.{made_as}
use Rattle.ends.proofs.Popping.{below_well, below_shallow, far_ready, refill_count, emptied, pop_first, trimmed_near}
use Rattle.ends.proofs.pop.+popping.Goals as goal

pub pop-returns-in-Single-clause-made : goal.pop-returns-in-Single-clause-made
pop-returns-in-Single-clause-made g t c = record {
  grown = grown_none c.args.root.levels;
  reads = rw (tree_none c.args.cells.now 0 c.args.level 0 refl) (sym (ap (pop g.K.Kind.kind (end c.args.side)) c.in-Single.ensures.0));
}

pub pop-returns-in-Deep-clause-made : goal.pop-returns-in-Deep-clause-made
pop-returns-in-Deep-clause-made g t c =
    let seen = c.in-Deep.ensures in
    let levels = seen.levels in
    pop_first g.K.Kind.kind (end c.args.side) c.args.cells.now c.args.level c.args.root seen _ _ c.split_first-finger.ensures (made_as c.args.root.levels _ c.trim-rest.ensures.made refl (omega arith))

pub trim-pop-below-requires : goal.trim-pop-below-requires
trim-pop-below-requires g t c κs within =
    let step : suc c.args.level ≡ c.args.level + 1 = omega arith in
    let n = ap (λ j. count (rooted c.args.cells.now j c.args.middle)) step in
    let room : c.args.middle.levels ≤ free_cells c.args.cells.now = omega (arith, c.requires.room) in
    let formed = subst (λ j. Formed j (rooted c.args.cells.now j c.args.middle)) step c.requires.middle in
    let fits : count (rooted c.args.cells.now (c.args.level + 1) c.args.middle) < 2 ^ 32 = omega (arith, n, c.requires.fits) in
    search rules

pub trim-refill-requires : goal.trim-refill-requires
trim-refill-requires g t c =
    let step : suc c.args.level ≡ c.args.level + 1 = omega arith in
    let spent = c.pop-below.ensures.made.grown.spent in
    record {
      room = omega (arith, c.requires.room);
      sound = c.pop-below.ensures.sound;
      shallow = omega (arith, below_shallow g.K.Kind.kind (end c.args.side) c.args.cells.now c.args.level c.args.middle c.requires.middle (listed c.args.far) c.requires.far step c.pop-below.ensures.made, c.requires.shallow);
      below = below_well g.K.Kind.kind (end c.args.side) c.args.cells.now c.args.level c.args.middle c.requires.middle (listed c.args.far) c.requires.far step c.pop-below.ensures.made;
      far = far_ready g.K.Kind.kind (end c.args.side) c.args.cells.now c.args.level c.args.middle c.requires.middle (listed c.args.far) c.requires.far step c.pop-below.ensures.made;
      fits = omega (arith, refill_count g.K.Kind.kind (end c.args.side) c.args.cells.now c.args.level c.args.middle c.requires.middle (listed c.args.far) c.requires.far step c.pop-below.ensures.made, c.requires.fits);
    }

pub trim-returns-in-Some-clause-made : goal.trim-returns-in-Some-clause-made
trim-returns-in-Some-clause-made g t c =
    let d = c.in-Some.fingers in
    let some : 1 ≤ length (listed d) = omega (arith, listed_length d, d.filled.0) in
    rw c.in-Some.is (trimmed_near g.K.Kind.kind (end c.args.side) (listed d) _ _ (c.args.middle.levels + 1) some (omega arith) c.make_deep.ensures.made)

pub trim-returns-in-None-clause-made : goal.trim-returns-in-None-clause-made
trim-returns-in-None-clause-made g t c =
    let step : suc c.args.level ≡ c.args.level + 1 = omega arith in
    rw c.in-None.is (emptied g.K.Kind.kind (end c.args.side) c.args.cells.now c.args.level c.args.middle c.requires.middle (listed c.args.far) c.requires.far step c.pop-below.ensures.made (c.args.middle.levels + 1) (omega arith) c.refill.ensures.made)
