use Rattle.std.proofs.Common.{arith}
use Rattle.cells.specs.Cells.{end}
use Rattle.lists.proofs.Roots.{formed_at, count_at}
use Rattle.lists.proofs.Pushes.{pop_shallow, never_none, finger_ready, took, took_right}
use Rattle.lists.proofs.sides.pop.Goals as goal

pub pop-requires : goal.pop-requires
pop-requires g c =
    record {
      room = omega (arith, c.requires.sound.all, c.requires.room);
      sound = c.requires.sound;
      shallow = omega (arith, pop_shallow g.K.Kind.kind (end c.args.side) c.args.cells.now c.args.root c.requires.whole c.requires.fits);
      formed = formed_at c.args.cells.now c.args.root c.requires.whole;
      fits = omega (arith, count_at c.args.cells.now c.args.root c.requires.whole, c.requires.fits);
    }

pub unreachable-requires : goal.unreachable-requires
unreachable-requires g c = never_none g.K.Kind.kind (end c.args.side) c.args.cells.now c.args.root c.requires.whole c.if-root-eq0.false (rw c.in_default.is at c.pop.ensures.made)

pub read_item-requires : goal.read_item-requires
read_item-requires g c = finger_ready g.K.Kind.kind (end c.args.side) c.args.cells.now c.args.root c.requires.whole c.in-Some.popped c.in-Some.ensures.made

pub returns : goal.returns
returns g c =
    record {
      given = took g.K.Kind.kind (end c.args.side) c.args.cells.now c.args.root c.requires.whole c.in-Some.popped c.in-Some.ensures.made c.read_item.result c.read_item.ensures;
      right = took_right g.K.Kind.kind (end c.args.side) c.args.cells.now c.args.root c.requires.whole c.in-Some.popped c.in-Some.ensures.made c.read_item.result c.read_item.ensures g.met.K.Kind.lawful;
      sound = c.in-Some.ensures.sound;
    }
