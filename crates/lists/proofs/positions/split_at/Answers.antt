use Rattle.std.proofs.Common.{arith}
use Rattle.lists.proofs.Roots.{formed_at, count_at}
use Rattle.lists.proofs.Parting.{root_shallow, finger_ready, right_ready, push_room, right_shallow, push_fits, parted_made, parted_right}
use Rattle.lists.proofs.positions.split_at.Goals as goal

pub split-parts-requires : goal.split-parts-requires
split-parts-requires g c =
    let n = count_at c.args.cells.now c.args.root c.requires.whole in
    record {
      room = omega (arith, c.requires.sound.all, c.requires.room);
      sound = c.requires.sound;
      shallow = omega (arith, root_shallow g.K.Kind.kind c.args.cells.now c.args.root c.requires.whole c.requires.fits);
      formed = formed_at c.args.cells.now c.args.root c.requires.whole;
      fits = omega (arith, n, c.requires.fits);
      within = omega (arith, n, c.requires.within);
    }

pub push-right-requires : goal.push-right-requires
push-right-requires g c =
    record {
      room = push_room g.K.Kind.kind c.args.cells.now c.args.root c.requires.whole c.requires.fits c.args.position c.requires.within c.split-parts.result c.split-parts.ensures.made (omega (arith, c.requires.sound.all, c.requires.room));
      sound = c.split-parts.ensures.sound;
      shallow = omega (arith, right_shallow g.K.Kind.kind c.args.cells.now c.args.root c.requires.whole c.requires.fits c.args.position c.requires.within c.split-parts.result c.split-parts.ensures.made);
      formed = right_ready g.K.Kind.kind c.args.cells.now c.args.root c.requires.whole c.requires.fits c.args.position c.requires.within c.split-parts.result c.split-parts.ensures.made;
      finger = finger_ready g.K.Kind.kind c.args.cells.now c.args.root c.requires.whole c.requires.fits c.args.position c.requires.within c.split-parts.result c.split-parts.ensures.made;
      fits = push_fits g.K.Kind.kind c.args.cells.now c.args.root c.requires.whole c.requires.fits c.args.position c.requires.within c.split-parts.result c.split-parts.ensures.made;
    }

pub returns : goal.returns
returns g c =
    record {
      made = parted_made g.K.Kind.kind c.args.cells.now c.args.root c.requires.whole c.requires.fits c.args.position c.requires.within c.split-parts.result c.split-parts.ensures.made c.push-right.ensures.made;
      right = parted_right g.K.Kind.kind c.args.cells.now c.args.root c.requires.whole c.requires.fits c.args.position c.requires.within c.split-parts.result c.split-parts.ensures.made c.push-right.ensures.made g.met.K.Kind.lawful;
      sound = c.push-right.ensures.sound;
    }
