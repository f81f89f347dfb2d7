use Rattle.std.proofs.Common.{sym, ap, ◌∙◌}
use Rattle.std.proofs.lemmas.List.{take_all}
use Rattle.planfile.specs.Files.{distinct}
use Rattle.planfile.proofs.Rosters.{sift_start, sift_low, sift_more, sift_found, new_number, old_number}
use Rattle.planfile.proofs.compose.all_distinct.Goals as goal

pub loop-target-init : goal.loop-target-init
loop-target-init c = sift_start _ _ c.none-seen.ensures

pub insert-requires : goal.insert-requires
insert-requires c = sift_low _ _ _ c.loop-target-test.true c.requires

pub returns-then-not-insert : goal.returns-then-not-insert
returns-then-not-insert c =
    sym (sift_found _ _ _ c.loop-target-test.true c.loop-target.invariant _ (old_number _ c.insert.ensures.fresh c.if-not-insert.true))

pub loop-target-preserved : goal.loop-target-preserved
loop-target-preserved c =
    sift_more _ _ _ c.loop-target-test.true c.loop-target.invariant _ (new_number _ c.insert.ensures.fresh c.if-not-insert.false) _ c.insert.ensures.noted

pub returns : goal.returns
returns c = sym (sym (ap distinct (take_all c.loop-target.target-index c.args.targets.now c.loop-target-test.false)) ∙ c.loop-target.invariant.apart)
