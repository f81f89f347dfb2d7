use Rattle.std.proofs.Common.{◌≡◌, ◌-◌, suc, true, false, not, length, sym, ap, ◌∙◌, arith}
use Rattle.planfile.specs.Format.{is_line}
use Rattle.planfile.proofs.Lines.{line_inner, not_empty}
use Rattle.planfile.proofs.read.read_piece.Goals as goal

pub returns-in-len1-up : goal.returns-in-len1-up
returns-in-len1-up c =
    let value = c.args.value.now in
    let long : length value ≡ suc (length value - 1) = omega arith in
    let some = not_empty value (omega (arith, long)) in
    let broken : is_line value ≡ false = line_inner value _ long ∙ ap not (sym c.contains.ensures.value ∙ c.if-contains.true) in
    rw (some, broken)

pub returns-in_default : goal.returns-in_default
returns-in_default c =
    let value = c.args.value.now in
    let long : length value ≡ suc (length value - 1) = omega arith in
    let some = not_empty value (omega (arith, long)) in
    let whole : is_line value ≡ true = line_inner value _ long ∙ ap not (sym c.contains.ensures.value ∙ c.if-contains.false) in
    rw (some, whole)
