use Rattle.std.proofs.Common.{sym, ap, ◌∙◌, subst, arith}
use Rattle.model.specs.Measures.{sum}
use Rattle.model.specs.Tree.{count}
use Rattle.model.specs.Forms.{Formed}
use Rattle.cells.proofs.Opened.{tree_within, tree_none, tree_single, tree_deep, tree_other}
use Rattle.cells.proofs.read.weigh_tree.Goals as goal

pub body_at-requires : goal.body_at-requires
body_at-requires g c = tree_within c.args.cells.now c.args.level c.args.root (omega arith) c.requires

pub returns-then-root-eq0 : goal.returns-then-root-eq0
returns-then-root-eq0 g c = let e = tree_none c.args.cells.now _ c.args.level c.args.root.at c.if-root-eq0.true in rw e c.weigh_nothing.ensures

pub weigh-requires : goal.weigh-requires
weigh-requires g c =
    let e = tree_single c.args.cells.now c.args.level c.args.root (omega arith) c.requires _ (sym c.in-Single.is ∙ c.body_at.ensures) in
    subst (Formed c.args.level) e.0 c.requires

pub unreachable-requires : goal.unreachable-requires
unreachable-requires g c =
    tree_other c.args.cells.now c.args.level c.args.root (omega arith) c.requires _ c.body_at.ensures c.in_default.not-Single c.in_default.not-Deep

pub returns-in-Single : goal.returns-in-Single
returns-in-Single g c =
    let e = tree_single c.args.cells.now c.args.level c.args.root (omega arith) c.requires _ (sym c.in-Single.is ∙ c.body_at.ensures) in
    rw e.0 c.weigh.ensures

pub returns-in-Deep : goal.returns-in-Deep
returns-in-Deep g c =
    let e = tree_deep c.args.cells.now c.args.level c.args.root (omega arith) c.requires _ _ _ _ (sym c.in-Deep.is ∙ c.body_at.ensures) in
    record { total_is = sym (ap (sum g.K.Kind.kind) e.0); items_are = sym (ap count e.0) }
