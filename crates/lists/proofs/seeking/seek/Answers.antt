use Rattle.std.proofs.Common.{subst, arith}
use Rattle.seeks.specs.Sought.{Inside}
use Rattle.lists.proofs.Roots.{formed_at, count_at}
use Rattle.lists.proofs.Parting.{root_shallow}
use Rattle.lists.proofs.seeking.seek.Goals as goal

pub seek-requires : goal.seek-requires
seek-requires g c =
    record {
      shallow = omega (arith, root_shallow g.K.Kind.kind c.args.cells.now c.args.root c.requires.whole c.requires.fits);
      formed = formed_at c.args.cells.now c.args.root c.requires.whole;
      fits = omega (arith, count_at c.args.cells.now c.args.root c.requires.whole, c.requires.fits);
    }

pub returns : goal.returns
returns g c =
    record {
      right = c.seek.ensures.right;
      within = subst (λ n. Inside n c.seek.result) (count_at c.args.cells.now c.args.root c.requires.whole) c.seek.ensures.within;
    }
