use Rattle.std.proofs.Common.{◌+◌, ◌++◌, length, Err, ap, ◌∙◌, ap₂, subst, inl, inr, arith, rules}
use Rattle.std.specs.List.{flat_map}
use Rattle.std.proofs.lemmas.Iterator.{YieldsList-from_slice, YieldsList-from_map_by}
use Rattle.std.proofs.lemmas.Iterator.Consumers.{YieldsList-at}
use Rattle.std.proofs.lemmas.List.Folds.{flat_map-map}
use Rattle.std.proofs.lemmas.List.Sorted.{answers_always}
use Rattle.planfile.specs.Format.{piece, target}
use Rattle.planfile.specs.Files.{piece_field, target_field, end_field, field_saying, file_of}
use Rattle.planfile.specs.Reading.{item_said}
use Rattle.planfile.specs.Text.{lines_of}
use Rattle.planfile.specs.Writing.{Appends}
use Rattle.planfile.proofs.Cuts.{split_lines}
use Rattle.planfile.proofs.Composes.{file_size}
use Rattle.planfile.proofs.Rewrites.{Unfit, unfit_short, unfit_long, put_fits_whole}
use Rattle.planfile.proofs.compose.put_file.Goals as goal

pub returns-then-text-gt-MOST_BYTES : goal.returns-then-text-gt-MOST_BYTES
returns-then-text-gt-MOST_BYTES c =
    let text = c.args.text.now in
    let ts = c.args.targets.now in
    let u = unfit_long c.args.out.now (file_of (lines_of text) ts) (elim c.then-text-gt-MOST_BYTES.either [ inl p ↦ omega (arith, p, file_size text ts) | inr p ↦ omega (arith, p.1, file_size text ts) ]) in
    record { answered = ap Err c.at.ensures ∙ u.answer; output = u.output }

pub returns-then-size-gt-MOST_BYTES : goal.returns-then-size-gt-MOST_BYTES
returns-then-size-gt-MOST_BYTES c =
    let text = c.args.text.now in
    let ts = c.args.targets.now in
    let size = file_size text ts in
    let n = c.count_lines-line_count.ensures.lines in
    let u : Unfit c.args.out.now (file_of (lines_of text) ts) = elim c.then-size-gt-MOST_BYTES.either [ inl p ↦ unfit_long _ _ (omega (arith, p, size, n)) | inr p ↦ unfit_short _ _ (omega (arith, p.1, size, n)) ] in
    record { answered = ap Err c.at-then-size-gt-MOST_BYTES.ensures ∙ u.answer; output = u.output }

pub returns : goal.returns
returns c =
    let text = c.args.text.now in
    let ts = c.args.targets.now in
    let out = c.args.out.now in
    let n = c.count_lines-line_count.ensures.lines in
    let whole = c.put_whole.ensures _ _
    (YieldsList-from_map_by _ item_said piece (YieldsList-at c.map-lines.ensures.source (split_lines _ _ text c.split_inclusive.ensures.rest (answers_always _ _ _ (λ f a r g h. search rules)))) c.map-lines.ensures.closure (λ x r q k. search rules)).runs
    (YieldsList-from_map_by _ item_said target (YieldsList-at c.map.ensures.source (YieldsList-from_slice ts c.iter.ensures.rest)) c.map.ensures.closure (λ x r q k. search rules)).runs in
    let bytes = ap₂ (λ l t. l ++ (t ++ end_field (c.count_lines-line_count.result + length ts))) (flat_map-map field_saying piece (lines_of text)) (flat_map-map field_saying target ts)
    ∙ ap (λ k. flat_map piece_field (lines_of text) ++ (flat_map target_field ts ++ end_field (k + length ts))) n in
    let file = file_of (lines_of text) ts in
    let size = file_size text ts in
    put_fits_whole out file _ _ (omega (arith, n, size, c.if-size-out.false)) (omega (arith, n, size, c.if-size-gt-MOST_BYTES.false)) (subst (λ b. Appends out 0 b c.put_whole.result c.put_whole.new.out) bytes whole)
