-- What the reader's functions answer, in the words of the format. Assumes nothing.
use Rattle.std.specs.Prelude.{ℕ, zero, suc, ◌+◌, List, [], ◌∷◌, length, Ok, Err, Result}
use Rattle.planfile.specs.declared.faults.FileFault.{FileFault}
use Rattle.planfile.specs.declared.faults.Cause.{Cause}
use Rattle.planfile.specs.declared.read.Summary.{Summary}
use Rattle.planfile.specs.declared.read.Field.{Field}
use Rattle.planfile.specs.declared.read.Field.TheVariants.{Item as One, End}
use Rattle.planfile.specs.declared.read.Step.{Step}
use Rattle.planfile.specs.declared.fields.Fields.{Fields}
use Rattle.planfile.specs.declared.fields.Item.{Item}
use Rattle.planfile.specs.declared.fields.Item.TheVariants.{Piece, Target as Aim}
use Rattle.kinds.specs.declared.targets.Target.{Target}
use Rattle.planfile.specs.Format.{Content, Meaning, piece, target, end, Front, ◌then◌, front}

-- How much a file holds, by the verdict on it.
abbrev pub text_bytes : List (List ℕ) → ℕ
text_bytes [] = 0
text_bytes (line ∷ more) = length line + text_bytes more

abbrev pub counts : Content → Summary
counts c = record { pieces = length c.lines; targets = length c.targets; text = text_bytes c.lines }

abbrev pub counted : Result Content FileFault → Result Summary FileFault
counted (Ok c) = Ok (counts c)
counted (Err e) = Err e

-- What the reader's own types say.
abbrev pub item_said : Item → Meaning
item_said (Piece line) = piece line.now
item_said (Aim t) = target t

abbrev pub said : Field → Meaning
said (One item) = item_said item
said (End count) = end count

abbrev pub stepped : Result Step Cause → Result Front Cause
stepped (Ok s) = Ok (said s.field then s.rest.now)
stepped (Err cause) = Err cause

abbrev pub told : Result Field Cause → Result Meaning Cause
told (Ok f) = Ok (said f)
told (Err cause) = Err cause

-- The pieces and targets at the front of some bytes, up to an end field or to what is no field, in at most `most` fields.
abbrev pub gathered : (List ℕ → List Meaning) → Result Front Cause → List Meaning
gathered go (Err cause) = []
gathered go (Ok (piece line then rest)) = piece line ∷ go rest
gathered go (Ok (target t then rest)) = target t ∷ go rest
gathered go (Ok (end count then rest)) = []

abbrev pub ahead_by : ℕ → List ℕ → List Meaning
ahead_by zero bytes = []
ahead_by (suc most) bytes = gathered (ahead_by most) (front bytes)

abbrev pub ahead : List ℕ → List Meaning
ahead bytes = ahead_by (length bytes) bytes

-- The items that are to come.
abbrev pub coming : Fields → List Meaning
coming fields = ahead fields.left.now

-- The lines and the targets among some items, each in their order.
abbrev pub lines_in : List Meaning → List (List ℕ)
lines_in [] = []
lines_in (piece line ∷ more) = line ∷ lines_in more
lines_in (target t ∷ more) = lines_in more
lines_in (end count ∷ more) = lines_in more

abbrev pub targets_in : List Meaning → List Target
targets_in [] = []
targets_in (piece line ∷ more) = targets_in more
targets_in (target t ∷ more) = t ∷ targets_in more
targets_in (end count ∷ more) = targets_in more

abbrev pub content_in : List Meaning → Content
content_in items = record { lines = lines_in items; targets = targets_in items }
