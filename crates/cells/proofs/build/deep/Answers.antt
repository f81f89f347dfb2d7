use Rattle.std.proofs.Common.{◌≡◌, ℕ, suc, ◌+◌, refl, ap, arith}
use Rattle.model.specs.Measures.{sum}
use Rattle.model.specs.Tree.{count}
use Rattle.cells.specs.Cells.{rooted}
use Rattle.cells.proofs.Making.{made_deep}
use Rattle.cells.proofs.build.deep.Goals as goal

pub returns-clause-made : goal.returns-clause-made
returns-clause-made g c =
    let q = g.K.Kind.kind in
    let up : c.args.level + 1 ≡ suc c.args.level = omega arith in
    let s = ap (λ (k : ℕ). sum q (rooted c.args.cells.now k c.args.middle)) up in
    let n = ap (λ (k : ℕ). count (rooted c.args.cells.now k c.args.middle)) up in
    made_deep q c.args.level _ _ refl c.into.ensures c.into-2.ensures c.take_cell-at.ensures.taken c.requires.front c.requires.middle c.requires.back
    (cc (s, c.toward-weight.ensures.total_is, c.toward.ensures.total_is, c.weigh_run-first.ensures.total_is, c.weigh_tree-inner.ensures.total_is, c.weigh_run-last.ensures.total_is))
    (omega (arith, n, c.toward-weight.ensures.items_are, c.toward.ensures.items_are, c.weigh_run-first.ensures.items_are, c.weigh_tree-inner.ensures.items_are, c.weigh_run-last.ensures.items_are))
