use Rattle.std.proofs.Common.{◌≡◌, suc, ◌+◌, ◌*◌, ◌<◌, ap, subst, arith, rules}
use Rattle.model.specs.Tree.{count}
use Rattle.model.specs.Forms.{Formed}
use Rattle.cells.specs.Cells.{rooted}
use Rattle.cells.specs.Fingers.{listed}
use Rattle.cells.proofs.Turned.{turned_formed, turned_count}
use Rattle.places.proofs.Rebuilding.{single_ready, single_made, single_items, rebuilt_made, rebuilt_front, rebuilt_middle, rebuilt_back}
use Rattle.places.proofs.replace.+replace.Goals as goal

pub make_single-requires-clause-formed : goal.make_single-requires-clause-formed
make_single-requires-clause-formed g t c = single_ready g.K.Kind.kind c.args.item c.args.cells.now c.args.level c.args.root c.args.position c.requires.formed c.requires.within c.in-Single.finger c.in-Single.ensures.0 c.replace_node-changed.ensures.made

pub returns-in-Single : goal.returns-in-Single
returns-in-Single g t c = record {
  made = single_made g.K.Kind.kind c.args.item c.args.cells.now c.args.level c.args.root c.args.position c.requires.formed c.requires.within c.in-Single.finger c.in-Single.ensures.0 c.replace_node-changed.ensures.made (c.args.level + 2 * c.args.root.levels) (omega (arith, c.in-Single.ensures.1)) c.make_single.ensures.made;
  items = single_items g.K.Kind.kind c.args.item c.args.cells.now c.args.level c.args.root c.args.position c.requires.formed c.requires.within c.in-Single.finger c.in-Single.ensures.0 c.replace_node-changed.ensures.made c.make_single.ensures.made;
  sound = c.make_single.ensures.sound;
}

pub make_deep-requires : goal.make_deep-requires
make_deep-requires g t c =
    let r = rebuilt_front g.K.Kind.kind c.args.item c.args.cells.now c.args.level c.args.root c.args.position c.requires.formed c.requires.within c.in-Deep.ensures c.in-Front.place c.in-Front.ensures c.replace_in-front.ensures.made in
    record {
      room = omega (arith, c.in-Deep.ensures.levels, r.grown.spent, c.requires.room);
      sound = c.replace_in-front.ensures.sound;
      shallow = omega (arith, r.depth, c.requires.shallow);
      near = r.near;
      middle = r.middle;
      far = r.far;
      fits = omega (arith, r.fits, c.requires.fits);
    }

pub returns-in-Front : goal.returns-in-Front
returns-in-Front g t c =
    let r = rebuilt_front g.K.Kind.kind c.args.item c.args.cells.now c.args.level c.args.root c.args.position c.requires.formed c.requires.within c.in-Deep.ensures c.in-Front.place c.in-Front.ensures c.replace_in-front.ensures.made in
    let m = rebuilt_made g.K.Kind.kind c.args.item c.args.cells.now c.args.level c.args.root c.args.position c.requires.formed c.requires.within (c.args.level + 2 * c.args.root.levels) r (omega (arith, c.in-Deep.ensures.levels)) c.make_deep.ensures.made in
    record { made = m.0; items = m.1; sound = c.make_deep.ensures.sound }

pub replace-below-requires : goal.replace-below-requires
replace-below-requires g t c κs within =
    let h = c.args.cells.now in
    let m = c.in-Deep.middle in
    let seen = c.in-Deep.ensures in
    let step : suc c.args.level ≡ c.args.level + 1 = omega arith in
    let less : m.levels < c.args.root.levels = omega (arith, seen.levels) in
    let below = subst (λ j. Formed j (rooted h j m)) step seen.middle_formed in
    let n = ap (λ j. count (rooted h j m)) step in
    (search rules, (within.0, (within.1.0, (within.1.1.0, (within.1.1.1, (omega (arith, seen.levels, c.requires.room), (c.requires.sound, (omega (arith, less, c.requires.shallow), (below, (omega (arith, n, seen.counts, c.requires.fits), omega (arith, n, c.in-Middle.ensures.1)))))))))))

pub make_deep-requires-in-Middle : goal.make_deep-requires-in-Middle
make_deep-requires-in-Middle g t c =
    let r = rebuilt_middle g.K.Kind.kind c.args.item c.args.cells.now c.args.level c.args.root c.args.position c.requires.formed c.requires.within c.in-Deep.ensures c.in-Middle.place c.in-Middle.ensures _ (omega arith) c.replace-below.ensures.made in
    record {
      room = omega (arith, c.in-Deep.ensures.levels, r.grown.spent, c.requires.room);
      sound = c.replace-below.ensures.sound;
      shallow = omega (arith, r.depth, c.requires.shallow);
      near = r.near;
      middle = r.middle;
      far = r.far;
      fits = omega (arith, r.fits, c.requires.fits);
    }

pub returns-in-Middle : goal.returns-in-Middle
returns-in-Middle g t c =
    let r = rebuilt_middle g.K.Kind.kind c.args.item c.args.cells.now c.args.level c.args.root c.args.position c.requires.formed c.requires.within c.in-Deep.ensures c.in-Middle.place c.in-Middle.ensures _ (omega arith) c.replace-below.ensures.made in
    let m = rebuilt_made g.K.Kind.kind c.args.item c.args.cells.now c.args.level c.args.root c.args.position c.requires.formed c.requires.within {c = c.args.level + 1 + 2 * c.in-Deep.middle.levels} (c.args.level + 2 * c.args.root.levels) r (omega (arith, c.in-Deep.ensures.levels)) c.make_deep-in-Middle.ensures.made in
    record { made = m.0; items = m.1; sound = c.make_deep-in-Middle.ensures.sound }

pub replace_in-turned-requires : goal.replace_in-turned-requires
replace_in-turned-requires g t c =
    let seen = c.in-Deep.ensures in
    let n = turned_count c.args.cells.now c.args.level (listed c.in-Deep.far) _ c.reversed.ensures in
    record {
      room = omega (arith, seen.levels, c.requires.room);
      sound = c.requires.sound;
      formed = turned_formed c.args.cells.now c.args.level (listed c.in-Deep.far) _ c.reversed.ensures seen.far_formed;
      fits = omega (arith, n, seen.counts, c.requires.fits);
      within = omega (arith, n, seen.counts, c.in-Back.ensures, c.requires.within);
    }

pub make_deep-requires-in-Back : goal.make_deep-requires-in-Back
make_deep-requires-in-Back g t c =
    let r = rebuilt_back g.K.Kind.kind c.args.item c.args.cells.now c.args.level c.args.root c.args.position c.requires.formed c.requires.within c.in-Deep.ensures c.in-Back.place c.in-Back.ensures c.reversed.ensures c.reversed-in-Back.ensures c.replace_in-turned.ensures.made in
    record {
      room = omega (arith, c.in-Deep.ensures.levels, r.grown.spent, c.requires.room);
      sound = c.replace_in-turned.ensures.sound;
      shallow = omega (arith, r.depth, c.requires.shallow);
      near = r.near;
      middle = r.middle;
      far = r.far;
      fits = omega (arith, r.fits, c.requires.fits);
    }

pub returns-in-Back : goal.returns-in-Back
returns-in-Back g t c =
    let r = rebuilt_back g.K.Kind.kind c.args.item c.args.cells.now c.args.level c.args.root c.args.position c.requires.formed c.requires.within c.in-Deep.ensures c.in-Back.place c.in-Back.ensures c.reversed.ensures c.reversed-in-Back.ensures c.replace_in-turned.ensures.made in
    let m = rebuilt_made g.K.Kind.kind c.args.item c.args.cells.now c.args.level c.args.root c.args.position c.requires.formed c.requires.within {h₁ = c.replace_in-turned.new.cells} {h₂ = c.make_deep-in-Back.new.cells} {c = c.args.level + 1} (c.args.level + 2 * c.args.root.levels) r (omega (arith, c.in-Deep.ensures.levels)) c.make_deep-in-Back.ensures.made in
    record { made = m.0; items = m.1; sound = c.make_deep-in-Back.ensures.sound }
