-- What a writer leaves in the output, and what it answers. Assumes nothing.
use Rattle.std.specs.Prelude.{◌≡◌, ℕ, ◌+◌, Bool, true, cond, ◌&&◌, List, ◌++◌, length, take, drop, Ok, Err, Result, nat_le}
use Rattle.kinds.specs.declared.targets.Target.{Target}
use Rattle.planfile.specs.declared.faults.FileFault.{FileFault}
use Rattle.planfile.specs.declared.faults.Cause.TheVariants.{TargetOutside, NumberTwice, NoRoom}
use Rattle.planfile.specs.Format.{Content, verdict}
use Rattle.planfile.specs.Files.{file_of, all_targets, distinct}

-- Whether a field fits the output, and a file, at a position.
abbrev pub fits : List ℕ → ℕ → List ℕ → Bool
fits out at field = nat_le (at + length field) (length out) && nat_le (at + length field) 65535

-- The output with the field at the position, and else as it was.
abbrev pub written : List ℕ → ℕ → List ℕ → List ℕ
written out at field = take at out ++ (field ++ drop (at + length field) out)

abbrev pub left_after : List ℕ → ℕ → List ℕ → List ℕ
left_after out at field = cond (fits out at field) (written out at field) out

-- The position after the field, or the refusal.
abbrev pub answer : List ℕ → ℕ → List ℕ → Result ℕ FileFault
answer out at field = cond (fits out at field) (Ok (at + length field)) (Err (record { cause = NoRoom; place = 0 }))

-- What putting a field gives: the answer, and the output after it.
pub record Puts (out : List ℕ) (at : ℕ) (field : List ℕ) (result : Result ℕ FileFault) (after : List ℕ) : Type 0 where
  pub answered : result ≡ answer out at field
  pub output : after ≡ left_after out at field

-- Bytes that fit are written, and the position after them is the answer.
abbrev pub Appends : List ℕ → ℕ → List ℕ → Result ℕ FileFault → List ℕ → Type 0
Appends out at bytes result after = fits out at bytes ≡ true → (result ≡ Ok (at + length bytes)) × (after ≡ written out at bytes)

-- A file written again, by the verdict on it: what it says, at the start of the output; a refused file leaves the output as it was.
abbrev pub rewritten : Result Content FileFault → List ℕ → List ℕ
rewritten (Ok c) out = left_after out 0 (file_of c.lines c.targets)
rewritten (Err e) out = out

abbrev pub rewrite_answer : Result Content FileFault → List ℕ → Result ℕ FileFault
rewrite_answer (Ok c) out = answer out 0 (file_of c.lines c.targets)
rewrite_answer (Err e) out = Err e

abbrev pub content_of : List (List ℕ) → List Target → Content
content_of lines targets = record { lines = lines; targets = targets }

-- A file written of lines and targets: all targets have to be within their limits, and no number may come twice.
abbrev pub write_answer : List (List ℕ) → List Target → List ℕ → Result ℕ FileFault
write_answer lines targets out =
    cond (all_targets targets)
    (cond (distinct targets) (answer out 0 (file_of lines targets)) (Err (record { cause = NumberTwice; place = 2 })))
    (Err (record { cause = TargetOutside; place = 2 }))

abbrev pub write_output : List (List ℕ) → List Target → List ℕ → List ℕ
write_output lines targets out = cond (all_targets targets) (cond (distinct targets) (left_after out 0 (file_of lines targets)) out) out

-- What was written is accepted and says the same.
abbrev pub SaysSame : Result Content FileFault → Result ℕ FileFault → List ℕ → Type 0
SaysSame v (Ok p) out = verdict (take p out) ≡ v
SaysSame v (Err e) out = Unit {0}
