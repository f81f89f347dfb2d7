-- What targets come to: the least range. Assumes nothing.
use Rattle.std.specs.Prelude.{ℕ, ◌≤◌, min, Bool, ◌&&◌, nat_le}
use Rattle.kinds.specs.Algebra.{Algebra}
use Rattle.kinds.specs.declared.targets.Target.{Target}
use Rattle.kinds.specs.declared.targets.Within.{Within}

-- A target has a number from 1 to 9,999 and a range of at most 99,999 metres.
abbrev pub is_target : Target → Bool
is_target t = nat_le 1 t.number && (nat_le t.number 9999 && nat_le t.range 99999)

-- A range of at most r.
abbrev pub near : ℕ → Within → Bool
near least r = nat_le least r.0

abbrev pub of_targets : Algebra Target ℕ Within
of_targets = record { admitted = is_target; nothing = 4294967295; measure = λ t. t.range; joined = min; met = near; fair = λ x. x ≤ 4294967295; limit = 65535 }
