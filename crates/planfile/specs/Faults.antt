-- The number of each refusal. Assumes nothing.
use Rattle.std.specs.Prelude.{ℕ}
use Rattle.planfile.specs.declared.faults.Cause.{Cause}
use Rattle.planfile.specs.declared.faults.FileFault.{FileFault}
use Rattle.planfile.specs.declared.faults.Cause.TheVariants.{TooLong, ShortHeader, ShortValue, UnknownTag, EmptyPiece, InnerNewline, WrongLength, TargetOutside, RepeatedNumber, MissingEnd, WrongCount, TrailingBytes, NumberTwice, NoRoom}

abbrev pub number_of : Cause → ℕ
number_of TooLong = 4
number_of ShortHeader = 4
number_of ShortValue = 4
number_of UnknownTag = 5
number_of EmptyPiece = 6
number_of InnerNewline = 6
number_of WrongLength = 6
number_of TargetOutside = 6
number_of RepeatedNumber = 6
number_of MissingEnd = 7
number_of WrongCount = 7
number_of TrailingBytes = 7
number_of NumberTwice = 16
number_of NoRoom = 18

-- The refusal for a cause at a place.
abbrev pub fault_at : Cause → ℕ → FileFault
fault_at cause place = record { cause = cause; place = place }
