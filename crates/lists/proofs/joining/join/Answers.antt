use Rattle.std.proofs.Common.{arith}
use Rattle.lists.proofs.Roots.{formed_at, count_at}
use Rattle.lists.proofs.Joins.{join_levels, join_shallow, joined_made, joined_right}
use Rattle.lists.proofs.joining.join.Goals as goal

pub append-requires : goal.append-requires
append-requires g c =
    let k = g.K.Kind.kind in
    let h = c.args.cells.now in
    let levels = join_levels g.K.Kind.kind h c.args.left c.args.right c.requires.left c.requires.right in
    record {
      room = omega (arith, levels, c.requires.sound.all, c.requires.room);
      sound = c.requires.sound;
      shallow = omega (arith, join_shallow g.K.Kind.kind h c.args.left c.args.right c.requires.left c.requires.right c.requires.fits);
      left = formed_at h c.args.left c.requires.left;
      loose = tt;
      right = formed_at h c.args.right c.requires.right;
      fits = omega (arith, count_at h c.args.left c.requires.left, count_at h c.args.right c.requires.right, c.requires.fits);
    }

pub returns : goal.returns
returns g c =
    record {
      made = joined_made g.K.Kind.kind c.args.cells.now c.args.left c.args.right c.requires.left c.requires.right c.append.ensures.made;
      right = joined_right g.K.Kind.kind c.args.cells.now c.args.left c.args.right c.requires.left c.requires.right c.append.ensures.made g.met.K.Kind.lawful;
      sound = c.append.ensures.sound;
    }
