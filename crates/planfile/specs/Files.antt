-- The file of some lines and targets, byte by byte, and the laws of the format. Assumes nothing.
use Rattle.std.specs.Prelude.{◌≡◌, ℕ, ◌+◌, ◌/◌, ◌%◌, ◌≤◌, Bool, true, not, ◌&&◌, List, [], ◌∷◌, ◌++◌, length, Ok}
use Rattle.std.specs.List.{flat_map, list_all}
use Rattle.kinds.specs.Targets.{is_target}
use Rattle.kinds.specs.declared.targets.Target.{Target}
use Rattle.planfile.specs.Format.{Content, Meaning, piece, target, end, is_line, numbered, walk, verdict}

-- A number in two bytes, or in four: high byte first.
abbrev pub two_bytes : ℕ → List ℕ
two_bytes n = n / 256 ∷ n % 256 ∷ []

abbrev pub four_bytes : ℕ → List ℕ
four_bytes n = two_bytes (n / 65536) ++ two_bytes (n % 65536)

-- A tag, the length of the value in two bytes, and the value.
abbrev pub field_of : ℕ → List ℕ → List ℕ
field_of tag value = tag ∷ (two_bytes (length value) ++ value)

abbrev pub piece_field : List ℕ → List ℕ
piece_field line = field_of 0x02 line

abbrev pub target_field : Target → List ℕ
target_field t = field_of 0x03 (two_bytes t.number ++ four_bytes t.range)

abbrev pub end_field : ℕ → List ℕ
end_field count = field_of 0x7F (two_bytes count)

-- The field that says so.
abbrev pub field_saying : Meaning → List ℕ
field_saying (piece line) = piece_field line
field_saying (target t) = target_field t
field_saying (end count) = end_field count

-- The lines, then the targets, then the end.
abbrev pub file_of : List (List ℕ) → List Target → List ℕ
file_of lines targets = flat_map piece_field lines ++ (flat_map target_field targets ++ end_field (length lines + length targets))

-- The rules for lines and targets, of each in a list.
abbrev pub all_lines : List (List ℕ) → Bool
all_lines lines = list_all is_line lines

abbrev pub all_targets : List Target → Bool
all_targets targets = list_all is_target targets

-- No number occurs twice.
abbrev pub distinct : List Target → Bool
distinct [] = true
distinct (t ∷ more) = not (numbered t.number more) && distinct more

-- A file that was made of lines and targets within the rules is accepted, and says just these.
abbrev pub ReadsBack : Type 0
ReadsBack =
    (lines : List (List ℕ)) (targets : List Target) →
    all_lines lines ≡ true → all_targets targets ≡ true → distinct targets ≡ true →
    length (file_of lines targets) ≤ 65535 →
    verdict (file_of lines targets) ≡ Ok (record { lines = lines; targets = targets })

-- What an accepted file says keeps the rules, and takes as many bytes when it is written again.
abbrev pub KeepsRules : Type 0
KeepsRules =
    (file : List ℕ) (c : Content) → verdict file ≡ Ok c →
    (all_lines c.lines ≡ true) × (all_targets c.targets ≡ true) × (distinct c.targets ≡ true) ×
    (length (file_of c.lines c.targets) ≡ length file)

-- To look for as many fields as there are bytes is enough: with more the verdict is the same.
abbrev pub EnoughFields : Type 0
EnoughFields = (size : ℕ) (c : Content) (left : List ℕ) (most : ℕ) → length left ≤ most → walk size most c left ≡ walk size (length left) c left
