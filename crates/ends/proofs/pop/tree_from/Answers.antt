use Rattle.std.proofs.Common.{◌≡◌, suc, [], ◌∷◌, ◌++◌, length, refl, ap, ◌∙◌, subst, arith, length-append}
use Rattle.model.specs.Tree.{count, count_run}
use Rattle.model.specs.Forms.{Each}
use Rattle.cells.specs.Cells.{end, nodes}
use Rattle.cells.specs.Fingers.{listed, listed_some}
use Rattle.cells.proofs.Opened.{tree_none}
use Rattle.cells.proofs.Fours.{listed_length}
use Rattle.ends.proofs.Pushing.{made_as}
use Rattle.ends.proofs.Popping.{tree_from_more, each_append, count_append}
use Rattle.ends.proofs.pop.tree_from.Goals as goal

pub make_deep-requires : goal.make_deep-requires
make_deep-requires g c =
    let k = c.args.level in
    let h = c.args.cells.now in
    let last = c.split_last-others.result.1 in
    let near = listed c.in-Some.near in
    let e : listed c.args.digit ≡ near ++ (last ∷ []) = c.split_last-others.ensures ∙ ap (λ o. listed_some o ++ (last ∷ [])) c.in-Some.is in
    let none = tree_none h 0 (suc k) 0 refl in
    let w = each_append h k near (last ∷ []) (subst (λ ps. Each k (nodes h k ps)) e c.requires.formed) in
    record {
      room = c.requires.room;
      sound = c.requires.sound;
      shallow = omega (arith, c.requires.shallow);
      near = w.0;
      middle = rw none tt;
      far = rw c.of.ensures w.1;
      fits = omega (arith, ap count none, ap (λ ps. count_run (nodes h k ps)) e, ap (λ ps. count_run (nodes h k ps)) c.of.ensures, count_append h k near (last ∷ []), c.requires.fits);
    }

pub returns-in-Some-clause-made : goal.returns-in-Some-clause-made
returns-in-Some-clause-made g c =
    let d = c.in-Some.near in
    let last = c.split_last-others.result.1 in
    let e : listed c.args.digit ≡ listed d ++ (last ∷ []) = c.split_last-others.ensures ∙ ap (λ o. listed_some o ++ (last ∷ [])) c.in-Some.is in
    let long = ap length e ∙ length-append (listed d) (last ∷ []) in
    let all = listed_length c.args.digit in
    let these = listed_length d in
    let top = c.args.digit.filled.1 in
    let low = d.filled.0 in
    made_as 1 _ c.make_deep.ensures.made (tree_from_more g.K.Kind.kind (end c.args.side) c.args.cells.now c.args.level _ _ _ _ e c.of.ensures (omega arith) (omega arith)) (omega arith)
