use Rattle.std.proofs.Common.{◌+◌, ◌≤◌, ◌++◌, Err, sym, refl, ap, ◌∙◌, ap₂, subst, arith, rules, tests}
use Rattle.std.specs.List.{flat_map}
use Rattle.std.proofs.lemmas.Iterator.Consumers.{YieldsList-at, YieldsList-from_first, YieldsList-from_filter}
use Rattle.planfile.specs.Files.{piece_field, target_field, end_field, file_of}
use Rattle.planfile.specs.Reading.{coming, item_said}
use Rattle.planfile.specs.Writing.{rewritten, rewrite_answer, Appends}
use Rattle.planfile.proofs.Rewrites.{accepted, content_size, no_room, is_piece, is_aim, lines_put, targets_put, put_fits_whole, says_same}
use Rattle.planfile.proofs.again.rewrite.Goals as goal

pub returns-then-out-file : goal.returns-then-out-file
returns-then-out-file c =
    let file = c.args.file.now in
    let a = accepted file c.in_ok-sum.sum c.in_ok-sum.ensures.verdict in
    let none = no_room file c.args.out.now _ a c.if-out-file.true in
    record { answer = ap Err c.at.ensures ∙ none.0; output = none.1; same = tt }

pub overflow_add-sum : goal.overflow_add-sum
overflow_add-sum c =
    let a = accepted c.args.file.now c.in_ok-sum.sum c.in_ok-sum.ensures.verdict in
    let few : c.in_ok-sum.sum.pieces + c.in_ok-sum.sum.targets ≤ 65535 = omega (arith, a.count, a.few) in
    search rules

pub overflow_cast-sum : goal.overflow_cast-sum
overflow_cast-sum c =
    let a = accepted c.args.file.now c.in_ok-sum.sum c.in_ok-sum.ensures.verdict in
    let few : c.in_ok-sum.sum.pieces + c.in_ok-sum.sum.targets ≤ 65535 = omega (arith, a.count, a.few) in
    search rules

pub returns : goal.returns
returns c =
    let out = c.args.out.now in
    let a = accepted c.args.file.now c.in_ok-sum.sum c.in_ok-sum.ensures.verdict in
    let coming_items = coming c.of-items.result in
    let is = c.of-items.ensures.accepted a.content a.is in
    let size = content_size a.content in
    let all = YieldsList-from_first item_said coming coming_items refl in
    let whole = c.put_whole.ensures _ _
    (YieldsList-from_filter _ is_piece (YieldsList-at c.filter-lines.ensures.source all) c.filter-lines.ensures.closure (λ x b q k. search (rules, tests))).runs
    (YieldsList-from_filter _ is_aim (YieldsList-at c.filter-targets.ensures.source all) c.filter-targets.ensures.closure (λ x b q k. search (rules, tests))).runs in
    let bytes = ap₂ (λ l t. l ++ (t ++ end_field (c.in_ok-sum.sum.pieces + c.in_ok-sum.sum.targets))) (lines_put coming_items) (targets_put coming_items)
    ∙ ap₂ (λ d n. flat_map piece_field d.lines ++ (flat_map target_field d.targets ++ end_field n)) is a.count in
    let file = file_of a.content.lines a.content.targets in
    let put = put_fits_whole out file _ _ (omega (arith, a.size, size, c.if-out-file.false)) (omega (arith, a.size, size, a.short)) (subst (λ b. Appends out 0 b c.put_whole.result c.put_whole.new.out) bytes whole) in
    let answered = put.answered ∙ sym (ap (λ v. rewrite_answer v out) a.is) in
    let output = put.output ∙ sym (ap (λ v. rewritten v out) a.is) in
    record { answer = answered; output = output; same = says_same c.args.file.now out _ _ answered output }
