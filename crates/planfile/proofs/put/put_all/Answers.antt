use Rattle.std.proofs.Common.{Ok, sym, ap, subst, rules}
use Rattle.std.specs.Iterator.{AlwaysYields}
use Rattle.planfile.specs.Files.{field_saying}
use Rattle.planfile.specs.Reading.{item_said}
use Rattle.planfile.proofs.Rewrites.{taken, none_left, put_fitting, put_all, put_refused, put_more}
use Rattle.planfile.proofs.put.put_all.Goals as goal

pub loop-item-init : goal.loop-item-init
loop-item-init g c = (search rules, search rules, λ all always room. (all, always, put_fitting field_saying _ _ _ room))

pub returns-in_err-at : goal.returns-in_err-at
returns-in_err-at g c = λ all always room.
    let left = c.loop-item.invariant.2 all (subst (λ s. AlwaysYields g.I.Iterator.next_gives item_said s all) (sym c.into_iter-item-iterator.ensures.into_iter_gives) always) room in
    let more = taken g.I.Iterator.next_gives item_said _ _ c.in-Some.item left.0 left.1 c.in-Some.ensures.steps in
    absurd (put_refused field_saying _ _ _ _ _ _ _ _ more.1 left.2 _ c.in_err-at.ensures.answered)

pub loop-item-preserved : goal.loop-item-preserved
loop-item-preserved g c =
    let put = c.in_ok-at.ensures in (
      search rules,
      search rules,
      λ all always room.
          let left = c.loop-item.invariant.2 all always room in
          let more = taken g.I.Iterator.next_gives item_said _ _ c.in-Some.item left.0 left.1 c.in-Some.ensures.steps in
          (more.0, more.2, put_more field_saying _ _ _ _ _ _ _ _ more.1 left.2 _ _ c.put_item.auto.out put.output put.answered),
    )

pub returns : goal.returns
returns g c = λ all always room.
    let left = c.loop-item.invariant.2 all (subst (λ s. AlwaysYields g.I.Iterator.next_gives item_said s all) (sym c.into_iter-item-iterator.ensures.into_iter_gives) always) room in
    let over = put_all field_saying _ _ _ _ _ _ (none_left g.I.Iterator.next_gives item_said _ _ left.0 left.1 c.in-None.ensures.steps) left.2 in
    (ap Ok over.0, over.1)
