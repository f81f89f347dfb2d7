use Rattle.std.proofs.Common.{rules}
use Rattle.std.proofs.lemmas.List.Sorted.{answers_always}
use Rattle.std.proofs.lemmas.Iterator.Consumers.{count_from_yields_List}
use Rattle.planfile.proofs.Cuts.{split_lines}
use Rattle.planfile.proofs.compose.count_lines.Goals as goal

pub returns-clause-lines : goal.returns-clause-lines
returns-clause-lines c = count_from_yields_List _ _ c.count.ensures.ran (split_lines _ _ c.args.text.now c.split_inclusive.ensures.rest (answers_always _ _ _ (λ f a r g h. search rules)))
