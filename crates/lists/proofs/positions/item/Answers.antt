use Rattle.std.proofs.Common.{arith}
use Rattle.lists.proofs.Roots.{formed_at, count_at}
use Rattle.lists.proofs.Parting.{root_shallow}
use Rattle.lists.proofs.positions.item.Goals as goal

pub item_at-requires : goal.item_at-requires
item_at-requires g c =
    let n = count_at c.args.cells.now c.args.root c.requires.whole in
    record {
      shallow = omega (arith, root_shallow g.K.Kind.kind c.args.cells.now c.args.root c.requires.whole c.requires.fits);
      formed = formed_at c.args.cells.now c.args.root c.requires.whole;
      fits = omega (arith, n, c.requires.fits);
      within = omega (arith, n, c.requires.within);
    }
