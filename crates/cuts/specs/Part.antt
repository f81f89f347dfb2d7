-- Where a position of a level is. Assumes nothing.
use Rattle.std.specs.Prelude.{◌≡◌, ℕ, ◌+◌, ◌<◌}
use Rattle.cuts.specs.declared.part.Part.{Part}
use Rattle.cuts.specs.declared.part.Part.TheVariants.{Front, Middle, Back}

-- the position i of a level with f items at its front and m in its middle
abbrev pub PartAt : ℕ → ℕ → ℕ → Part → Type 0
PartAt f m i (Front j) = (i ≡ j) × (j < f)
PartAt f m i (Middle j) = (i ≡ f + j) × (j < m)
PartAt f m i (Back j) = i ≡ f + (m + j)
