use Rattle.std.proofs.Common.{length, arith}
use Rattle.cells.specs.Cells.{end}
use Rattle.lists.specs.Lists.{list_at}
use Rattle.lists.proofs.Roots.{some_most}
use Rattle.lists.proofs.Pushes.{push_room, push_shallow, root_ready, item_ready, push_fits, pushed_made, pushed_right}
use Rattle.lists.proofs.sides.push.Goals as goal

pub take_cell-finger-requires-clause-some : goal.take_cell-finger-requires-clause-some
take_cell-finger-requires-clause-some g c = omega (arith, some_most (length (list_at c.args.cells.now c.args.root)), c.requires.sound.all, c.requires.room)

pub push-requires : goal.push-requires
push-requires g c =
    let t = c.take_cell-finger.ensures.taken in
    record {
      room = push_room g.K.Kind.kind (end c.args.side) c.args.item c.args.root c.requires.whole c.requires.fits t (omega (arith, c.requires.sound.all, c.requires.room));
      sound = c.take_cell-finger.ensures.sound;
      shallow = omega (arith, push_shallow g.K.Kind.kind (end c.args.side) c.args.item c.args.root c.requires.whole c.requires.fits t);
      formed = root_ready g.K.Kind.kind (end c.args.side) c.args.item c.args.root c.requires.whole c.requires.fits t;
      finger = item_ready g.K.Kind.kind (end c.args.side) c.args.item c.args.root c.requires.whole c.requires.fits t;
      fits = push_fits g.K.Kind.kind (end c.args.side) c.args.item c.args.root c.requires.whole c.requires.fits t;
    }

pub returns : goal.returns
returns g c =
    let t = c.take_cell-finger.ensures.taken in
    record {
      made = pushed_made g.K.Kind.kind (end c.args.side) c.args.item c.args.root c.requires.whole c.requires.fits t c.push.ensures.made;
      right = pushed_right g.K.Kind.kind (end c.args.side) c.args.item c.args.root c.requires.whole c.requires.fits t c.push.ensures.made g.met.K.Kind.lawful;
      sound = c.push.ensures.sound;
    }
