use Rattle.std.proofs.Common.{◌≡◌, suc, ◌+◌, ◌<◌, ap, subst, arith, rules}
use Rattle.model.specs.Tree.{count}
use Rattle.model.specs.Forms.{Formed}
use Rattle.cells.specs.Cells.{rooted}
use Rattle.cells.specs.Fingers.{listed}
use Rattle.cells.proofs.Turned.{turned_formed, turned_count}
use Rattle.cuts.proofs.Finding.{at_front, at_middle, at_back}
use Rattle.cuts.proofs.item.+item_at.Goals as goal

pub returns-in-Front : goal.returns-in-Front
returns-in-Front g t c = at_front c.args.cells.now c.args.level c.args.root c.in-Deep.ensures c.args.position c.in-Front.place c.item_in.result c.in-Front.ensures c.item_in.ensures

pub item_at-requires : goal.item_at-requires
item_at-requires g t c κs within =
    let h = c.args.cells.now in
    let m = c.in-Deep.middle in
    let seen = c.in-Deep.ensures in
    let step : suc c.args.level ≡ c.args.level + 1 = omega arith in
    let less : m.levels < c.args.root.levels = omega (arith, seen.levels) in
    let below = subst (λ j. Formed j (rooted h j m)) step seen.middle_formed in
    let n = ap (λ j. count (rooted h j m)) step in
    (search rules, (within.0, (within.1.0, (within.1.1.0, (within.1.1.1, (omega (arith, less, c.requires.shallow), (below, (omega (arith, n, seen.counts, c.requires.fits), omega (arith, n, c.in-Middle.ensures.1)))))))))

pub returns-in-Middle : goal.returns-in-Middle
returns-in-Middle g t c = at_middle c.args.cells.now c.args.level c.args.root c.in-Deep.ensures c.args.position c.in-Middle.place c.item_at.result _ (omega arith) c.in-Middle.ensures c.item_at.ensures

pub item_in-requires-in-Back-clause-formed : goal.item_in-requires-in-Back-clause-formed
item_in-requires-in-Back-clause-formed g t c = turned_formed c.args.cells.now c.args.level (listed c.in-Deep.far) _ c.reversed.ensures c.in-Deep.ensures.far_formed

pub item_in-requires-in-Back-clause-within : goal.item_in-requires-in-Back-clause-within
item_in-requires-in-Back-clause-within g t c =
    omega (arith, turned_count c.args.cells.now c.args.level (listed c.in-Deep.far) _ c.reversed.ensures, c.in-Deep.ensures.counts, c.in-Back.ensures, c.requires.within)

pub returns-in-Back : goal.returns-in-Back
returns-in-Back g t c = at_back c.args.cells.now c.args.level c.args.root c.in-Deep.ensures c.args.position c.in-Back.place c.item_in-in-Back.result c.in-Back.ensures _ c.reversed.ensures c.item_in-in-Back.ensures
