use Rattle.std.proofs.Common.{Err, ap, ◌∙◌}
use Rattle.planfile.proofs.Rules.{keeps_rules}
use Rattle.planfile.proofs.Walks.{enough_fields, too_long}
use Rattle.planfile.proofs.read.check.Goals as goal

pub returns-then-file-gt-MOST_BYTES : goal.returns-then-file-gt-MOST_BYTES
returns-then-file-gt-MOST_BYTES c = record { verdict = ap Err c.at.ensures ∙ too_long c.args.file.now c.if-file-gt-MOST_BYTES.true; keeps_rules = keeps_rules; enough_fields = enough_fields }

pub returns : goal.returns
returns c = record { verdict = c.scan.ensures; keeps_rules = keeps_rules; enough_fields = enough_fields }
