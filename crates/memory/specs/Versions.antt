-- What a table says of a place. Assumes nothing.
use Rattle.std.specs.Prelude.{ℕ, Bool, List, Option, get_or, is_some}
use Rattle.std.specs.Option.{unwrap_or}
use Rattle.cells.specs.declared.cell.Root.{Root}
use Rattle.sweep.specs.Kept.{vacant}
use Rattle.sweep.specs.declared.version.Version.{Version}

-- The root of the empty list.
abbrev pub empty : Root
empty = record { levels = 0; at = 0 }

-- The root that the record of a place has; past the end, none.
abbrev pub version_at : List Version → ℕ → Option Root
version_at table p = (get_or table p vacant).root

-- The root at a place, that of the empty list where there is no version.
abbrev pub root_at : List Version → ℕ → Root
root_at table p = unwrap_or (get_or table p vacant).root empty

abbrev pub kept_at : List Version → ℕ → Bool
kept_at table p = is_some (get_or table p vacant).root
