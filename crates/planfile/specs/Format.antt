-- The format of a plan file: what each list of bytes says, or why it is refused. Assumes nothing.
use Rattle.std.specs.Prelude.{ℕ, zero, suc, ◌+◌, ◌-◌, ◌*◌, Bool, true, false, cond, not, ◌&&◌, ◌||◌, List, [], ◌∷◌, ◌++◌, length, take, drop, Ok, Err, Result, ◌==◌, nat_lt, slice_index}
use Rattle.std.specs.List.{list_any}
use Rattle.kinds.specs.Targets.{is_target}
use Rattle.kinds.specs.declared.targets.Target.{Target}
use Rattle.planfile.specs.declared.faults.FileFault.{FileFault}
use Rattle.planfile.specs.declared.faults.Cause.{Cause}
use Rattle.planfile.specs.declared.faults.Cause.TheVariants.{TooLong, ShortHeader, ShortValue, UnknownTag, EmptyPiece, InnerNewline, WrongLength, TargetOutside, RepeatedNumber, MissingEnd, WrongCount, TrailingBytes}

-- What a file says: its lines and its targets, each in their order.
pub record Content : Type 0 where
  pub lines : List (List ℕ)
  pub targets : List Target

abbrev pub nothing : Content
nothing = record { lines = []; targets = [] }

abbrev pub with_line : Content → List ℕ → Content
with_line c line = record { lines = c.lines ++ (line ∷ []); targets = c.targets }

abbrev pub with_target : Content → Target → Content
with_target c t = record { lines = c.lines; targets = c.targets ++ (t ∷ []) }

abbrev pub fields_in : Content → ℕ
fields_in c = length c.lines + length c.targets

-- Whether one of the targets has this number.
abbrev pub numbered : ℕ → List Target → Bool
numbered n targets = list_any (λ t. t.number == n) targets

-- The number in two bytes, or in four, from the index i on: high byte first.
abbrev pub two_at : List ℕ → ℕ → ℕ
two_at bytes i = slice_index bytes i * 256 + slice_index bytes (i + 1)

abbrev pub four_at : List ℕ → ℕ → ℕ
four_at bytes i = two_at bytes i * 65536 + two_at bytes (i + 2)

abbrev pub is_empty : List ℕ → Bool
is_empty [] = true
is_empty (b ∷ more) = false

-- A line has at least one byte, and a newline only as the last.
abbrev pub is_line : List ℕ → Bool
is_line [] = false
is_line (b ∷ more) = is_empty more || (not (b == 0x0A) && is_line more)

abbrev pub target_in : List ℕ → Target
target_in value = record { number = two_at value 0; range = four_at value 2 }

-- What one field says.
pub data Meaning : Type 0 where
  piece : List ℕ → Meaning
  target : Target → Meaning
  end : ℕ → Meaning

-- What a value says under each tag, or what is wrong with it.
abbrev pub piece_meaning : List ℕ → Result Meaning Cause
piece_meaning value =
    cond (is_empty value) (Err EmptyPiece)
    (cond (is_line value) (Ok (piece value)) (Err InnerNewline))

abbrev pub target_meaning : List ℕ → Result Meaning Cause
target_meaning value =
    cond (length value == 6)
    (cond (is_target (target_in value)) (Ok (target (target_in value))) (Err TargetOutside))
    (Err WrongLength)

abbrev pub end_meaning : List ℕ → Result Meaning Cause
end_meaning value = cond (length value == 2) (Ok (end (two_at value 0))) (Err WrongLength)

abbrev pub meaning : ℕ → List ℕ → Result Meaning Cause
meaning tag value =
    cond (tag == 0x02) (piece_meaning value)
    (cond (tag == 0x03) (target_meaning value)
    (cond (tag == 0x7F) (end_meaning value)
    (Err UnknownTag)))

-- A field is a tag, the length of its value in two bytes, and the value; the rest of the bytes comes after it.
abbrev pub tag_of : List ℕ → ℕ
tag_of bytes = slice_index bytes 0

abbrev pub size_of : List ℕ → ℕ
size_of bytes = two_at bytes 1

abbrev pub value_of : List ℕ → List ℕ
value_of bytes = take (size_of bytes) (drop 3 bytes)

abbrev pub rest_of : List ℕ → List ℕ
rest_of bytes = drop (3 + size_of bytes) bytes

-- What the first field of some bytes says, and then the rest of them.
pub data Front : Type 0 where
  ◌then◌ : Meaning → List ℕ → Front

infixl 20 ◌then◌
abbrev pub before : Result Meaning Cause → List ℕ → Result Front Cause
before (Ok m) rest = Ok (m then rest)
before (Err cause) rest = Err cause

-- The first field of some bytes, or what is wrong with it: first whether it is cut short, then what it says.
abbrev pub front : List ℕ → Result Front Cause
front bytes =
    cond (nat_lt (length bytes) 3) (Err ShortHeader)
    (cond (nat_lt (length bytes) (3 + size_of bytes)) (Err ShortValue)
    (before (meaning (tag_of bytes) (value_of bytes)) (rest_of bytes)))

-- A file has `size` bytes, of which `left` is left, and the fields before said c.
module _ (size : ℕ) where
  -- A fault at what is left: its place is the number of bytes before.
  abbrev pub fault : Cause → List ℕ → Result Content FileFault
  fault cause left = Err (record { cause = cause; place = size - length left })

  -- An end field has to count the fields before it, and nothing may come after it.
  abbrev pub closed : Content → List ℕ → ℕ → List ℕ → Result Content FileFault
  closed c left count rest =
      cond (count == fields_in c) (cond (is_empty rest) (Ok c) (fault TrailingBytes rest)) (fault WrongCount left)

  -- One field; `go` has the verdict on the rest.
  abbrev pub judged : (Content → List ℕ → Result Content FileFault) → Content → List ℕ → Result Front Cause → Result Content FileFault
  judged go c left (Err cause) = fault cause left
  judged go c left (Ok (piece line then rest)) = go (with_line c line) rest
  judged go c left (Ok (target t then rest)) =
      cond (numbered t.number c.targets) (fault RepeatedNumber left) (go (with_target c t) rest)
  judged go c left (Ok (end count then rest)) = closed c left count rest

  -- All that is left, in at most `most` fields.
  abbrev pub walk : ℕ → Content → List ℕ → Result Content FileFault
  walk zero c left = fault MissingEnd left
  walk (suc most) c [] = fault MissingEnd []
  walk (suc most) c (b ∷ more) = judged (walk most) c (b ∷ more) (front (b ∷ more))

-- The verdict on a file, which has no more fields than bytes.
abbrev pub verdict : List ℕ → Result Content FileFault
verdict file =
    cond (nat_lt 65535 (length file)) (Err (record { cause = TooLong; place = 0 }))
    (walk (length file) (length file) nothing file)
