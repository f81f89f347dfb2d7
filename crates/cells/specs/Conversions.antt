-- Fingers as a cell holds them, and as a digit. Assumes nothing.
use Rattle.std.specs.Prelude.{◌≡◌, ◌≤◌, length, Ok, Err, Result}
use Rattle.cells.specs.Fingers.{held, listed}
use Rattle.cells.specs.declared.fingers.Fingers.{Fingers}
use Rattle.cells.specs.declared.fingers.Digit.{Digit}
use Rattle.cells.specs.declared.digits.NoDigit.{NoDigit}

-- the same fingers as a digit, or there is none
abbrev pub IsDigit : Fingers → Result Digit NoDigit → Type 0
IsDigit f (Ok d) = listed d ≡ held f
IsDigit f (Err e) = 1 ≤ length (held f) → ⊥

abbrev pub HeldAs : Digit → Fingers → Type 0
HeldAs d f = held f ≡ listed d
