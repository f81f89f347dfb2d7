use Rattle.std.proofs.Common.{◌*◌, set, arith}
use Rattle.model.specs.Replace.{replaced}
use Rattle.model.proofs.Forms.{decides_formed}
use Rattle.model.proofs.Replacing.{replaced_keeps, replaced_measures}
use Rattle.lists.specs.Lists.{tree_at, list_at}
use Rattle.lists.proofs.Roots.{formed_at, count_at, made_from, right_from}
use Rattle.lists.proofs.Parting.{root_shallow}
use Rattle.lists.proofs.changes.replace.Goals as goal

pub replace-requires : goal.replace-requires
replace-requires g c =
    let n = count_at c.args.cells.now c.args.root c.requires.whole in
    record {
      room = omega (arith, c.requires.sound.all, c.requires.room);
      sound = c.requires.sound;
      shallow = omega (arith, root_shallow g.K.Kind.kind c.args.cells.now c.args.root c.requires.whole c.requires.fits);
      formed = formed_at c.args.cells.now c.args.root c.requires.whole;
      fits = omega (arith, n, c.requires.fits);
      within = omega (arith, n, c.requires.within);
    }

pub returns : goal.returns
returns g c =
    let k = g.K.Kind.kind in
    let t = tree_at c.args.cells.now c.args.root in
    let d = c.args.root.levels in
    let kept = replaced_keeps g.K.Kind.kind d t c.args.position c.args.item c.requires.whole c.requires.within in
    let formed = ((decides_formed d 0 (replaced g.K.Kind.kind c.args.item 0 c.args.position t)).0 kept.1).1 in
    record {
      made = made_from (2 * d) (set (list_at c.args.cells.now c.args.root) c.args.position c.args.item) c.replace.ensures.made formed kept.0 (omega arith);
      sound = c.replace.ensures.sound;
      right = λ sound fair. right_from g.K.Kind.kind c.replace.ensures.made (replaced_measures g.met.K.Kind.lawful t c.args.position c.args.item fair sound);
    }
