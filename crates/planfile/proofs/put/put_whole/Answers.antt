use Rattle.std.specs.List.{flat_map}
use Rattle.std.proofs.Common.{◌∙◌}
use Rattle.planfile.specs.Files.{end_field, field_saying}
use Rattle.planfile.proofs.Rewrites.{first_put, second_put, third_put}
use Rattle.planfile.proofs.put.put_whole.Goals as goal

pub returns-in_err-at : goal.returns-in_err-at
returns-in_err-at g c = λ ls ts lines targets room.
    absurd (first_put c.args.out.now (flat_map field_saying ls) (flat_map field_saying ts) (end_field c.args.count) room _ _ (c.put_all.ensures ls lines) _ c.in_err-at.was)

pub returns-in_err-at-2 : goal.returns-in_err-at-2
returns-in_err-at-2 g c = λ ls ts lines targets room.
    absurd (second_put c.args.out.now (flat_map field_saying ls) (flat_map field_saying ts) (end_field c.args.count) room _ _ (c.put_all.ensures ls lines) _ c.in_ok-at.was c.put_all.auto.out _ _ (c.put_all-2.ensures ts targets) _ c.in_err-at-2.was)

pub returns : goal.returns
returns g c = λ ls ts lines targets room.
    third_put c.args.out.now (flat_map field_saying ls) (flat_map field_saying ts) (end_field c.args.count) room _ _ (c.put_all.ensures ls lines) _ c.in_ok-at.was c.put_all.auto.out _ _ (c.put_all-2.ensures ts targets) _ c.in_ok-at-2.was (c.put_all-2.auto.out ∙ c.put_all.auto.out) _ _ c.put_end.ensures
