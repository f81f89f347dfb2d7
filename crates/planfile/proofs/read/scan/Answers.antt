use Rattle.std.proofs.Common.{◌≡◌, ◌-◌, ◌<◌, length, Err, sym, refl, ap, ◌∙◌, arith, rules}
use Rattle.std.proofs.lemmas.Result.{err_from_is_err_and}
use Rattle.planfile.specs.Faults.{fault_at}
use Rattle.planfile.specs.declared.fields.Item.TheVariants.{Piece, Target as Aim}
use Rattle.planfile.specs.declared.read.Field.TheVariants.{Item as One}
use Rattle.planfile.specs.Reading.{said}
use Rattle.planfile.proofs.Fronts.{fronted, fronted_length}
use Rattle.planfile.proofs.Rosters.{new_number, old_number}
use Rattle.planfile.proofs.Walks.{start, field_read, fault_read, at_fault, at_piece, at_target, at_repeat, low, at_wrong_count, at_more, at_end, at_nothing}
use Rattle.planfile.proofs.read.scan.Goals as goal

pub loop-left-init : goal.loop-left-init
loop-left-init c = start c.args.file.now c.requires _ c.none-seen.ensures _ c.default-sum.ensures

pub returns-in_err-field : goal.returns-in_err-field
returns-in_err-field c =
    let some : 0 < length c.loop-left.left.now = search rules in
    let q = fault_read c.loop-left.left.now _ _ _ _ c.first_field.ensures c.map_err.ensures.cases c.in_err-field.was in
    let placed : c.in_err-field.field-0.0 ≡ fault_at q.0 (length c.args.file.now - length c.loop-left.left.now) = search rules in
    let p = err_from_is_err_and c.from_residual.result c.from_residual.ensures.1 in
    rw (p.1, p.2) (ap Err placed ∙ at_fault _ _ _ _ some c.loop-left.invariant q.0 q.1)

pub insert-requires : goal.insert-requires
insert-requires c =
    let some : 0 < length c.loop-left.left.now = search rules in
    let step = c.in_ok-field.field-0 in
    let field : step.field ≡ One (Aim c.in-Item-Target.target) = search rules in
    low _ _ _ _ some c.loop-left.invariant c.in-Item-Target.target step.rest.now (field_read c.loop-left.left.now _ _ _ step _ c.first_field.ensures c.map_err.ensures.cases c.in_ok-field.was field)

pub returns-then-not-insert : goal.returns-then-not-insert
returns-then-not-insert c =
    let some : 0 < length c.loop-left.left.now = search rules in
    let step = c.in_ok-field.field-0 in
    let field : step.field ≡ One (Aim c.in-Item-Target.target) = search rules in
    ap Err c.at.ensures ∙ at_repeat _ _ _ _ some c.loop-left.invariant c.in-Item-Target.target step.rest.now (field_read c.loop-left.left.now _ _ _ step _ c.first_field.ensures c.map_err.ensures.cases c.in_ok-field.was field) (old_number _ c.insert.ensures.fresh c.if-not-insert.true)

pub returns-in-End : goal.returns-in-End
returns-in-End c =
    let some : 0 < length c.loop-left.left.now = search rules in
    let step = c.in_ok-field.field-0 in
    let over = field_read c.loop-left.left.now _ _ _ step _ c.first_field.ensures c.map_err.ensures.cases c.in_ok-field.was c.in-End.is in
    let from_gives : c.from.result ≡ c.in-End.count = search rules in
    ap Err c.at-in-End.ensures ∙ at_wrong_count _ _ _ _ some c.loop-left.invariant c.in-End.count step.rest.now over (λ e. c.if-from-sum.true (from_gives ∙ e))

pub returns-in-End-2 : goal.returns-in-End-2
returns-in-End-2 c =
    let some : 0 < length c.loop-left.left.now = search rules in
    let step = c.in_ok-field.field-0 in
    let over = field_read c.loop-left.left.now _ _ _ step _ c.first_field.ensures c.map_err.ensures.cases c.in_ok-field.was c.in-End.is in
    let more : 0 < length step.rest.now = search rules in
    let from_gives : c.from.result ≡ c.in-End.count = search rules in
    ap Err c.at-in-End-2.ensures ∙ at_more _ _ _ _ some c.loop-left.invariant c.in-End.count step.rest.now over (sym from_gives ∙ c.if-from-sum.false) more

pub returns-in-End-3 : goal.returns-in-End-3
returns-in-End-3 c =
    let some : 0 < length c.loop-left.left.now = search rules in
    let step = c.in_ok-field.field-0 in
    let over = field_read c.loop-left.left.now _ _ _ step _ c.first_field.ensures c.map_err.ensures.cases c.in_ok-field.was c.in-End.is in
    let none : length step.rest.now ≡ 0 = search rules in
    let from_gives : c.from.result ≡ c.in-End.count = search rules in
    at_end _ _ _ _ some c.loop-left.invariant c.in-End.count step.rest.now over (sym from_gives ∙ c.if-from-sum.false) none

pub loop-left-smaller-in-Item-Piece : goal.loop-left-smaller-in-Item-Piece
loop-left-smaller-in-Item-Piece c =
    let left = c.loop-left.left.now in
    let step = c.in_ok-field.field-0 in
    let is = field_read left _ _ _ step step.field c.first_field.ensures c.map_err.ensures.cases c.in_ok-field.was refl in
    omega (arith, fronted_length left _ _ (fronted left (said step.field) step.rest.now is))

pub loop-left-preserved-in-Item-Piece : goal.loop-left-preserved-in-Item-Piece
loop-left-preserved-in-Item-Piece c =
    let some : 0 < length c.loop-left.left.now = search rules in
    let step = c.in_ok-field.field-0 in
    let field : step.field ≡ One (Piece c.in-Item-Piece.line) = search rules in
    at_piece _ _ _ _ some c.loop-left.invariant c.in-Item-Piece.line.now step.rest.now (field_read c.loop-left.left.now _ _ _ step _ c.first_field.ensures c.map_err.ensures.cases c.in_ok-field.was field)

pub loop-left-smaller : goal.loop-left-smaller
loop-left-smaller c =
    let left = c.loop-left.left.now in
    let step = c.in_ok-field.field-0 in
    let is = field_read left _ _ _ step step.field c.first_field.ensures c.map_err.ensures.cases c.in_ok-field.was refl in
    omega (arith, fronted_length left _ _ (fronted left (said step.field) step.rest.now is))

pub loop-left-preserved : goal.loop-left-preserved
loop-left-preserved c =
    let some : 0 < length c.loop-left.left.now = search rules in
    let step = c.in_ok-field.field-0 in
    let field : step.field ≡ One (Aim c.in-Item-Target.target) = search rules in
    at_target _ _ _ _ some c.loop-left.invariant c.in-Item-Target.target step.rest.now (field_read c.loop-left.left.now _ _ _ step _ c.first_field.ensures c.map_err.ensures.cases c.in_ok-field.was field) (new_number _ c.insert.ensures.fresh c.if-not-insert.false) _ c.insert.ensures.noted

pub returns : goal.returns
returns c =
    let none : length c.loop-left.left.now ≡ 0 = search rules in
    ap Err c.at-2.ensures ∙ at_nothing _ _ _ _ none c.loop-left.invariant
