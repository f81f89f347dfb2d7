use Rattle.std.proofs.Common.{◌≡◌, true, List}
use Rattle.std.specs.Iterator.{AlwaysYields}
use Rattle.std.specs.List.{flat_map}
use Rattle.planfile.specs.Format.{Meaning}
use Rattle.planfile.specs.Files.{field_saying}
use Rattle.planfile.specs.Reading.{item_said}
use Rattle.planfile.specs.Writing.{fits}
use Rattle.planfile.proofs.Rewrites.{Putting}
use Rattle.planfile.proofs.put.put_all.Given as goal

abbrev pub invariant-loop-item : goal.invariant-loop-item
invariant-loop-item g l =
    (goal.iterator-loop-item g).can_next l.item-iterator ×
    (goal.iterator-loop-item g).is_finite l.item-iterator ×
    ((all : List Meaning) → AlwaysYields (goal.iterator-loop-item g).next_gives item_said l.initial.item-iterator all → fits l.initial.out l.initial.at (flat_map field_saying all) ≡ true →
    (left : List Meaning) × AlwaysYields (goal.iterator-loop-item g).next_gives item_said l.item-iterator left × Putting field_saying l.initial.out l.initial.at all l.out l.at left)
