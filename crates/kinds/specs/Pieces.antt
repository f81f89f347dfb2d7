-- What pieces come to: bytes and newlines. Assumes nothing.
use Rattle.std.specs.Prelude.{ℕ, ◌+◌, ◌≤◌, min, Bool, cond, ◌&&◌, nat_le, nat_lt}
use Rattle.kinds.specs.Algebra.{Algebra}
use Rattle.kinds.specs.declared.pieces.Piece.{Piece}
use Rattle.kinds.specs.declared.pieces.Size.{Size}
use Rattle.kinds.specs.declared.pieces.Offset.{Offset}
use Rattle.kinds.specs.declared.pieces.Offset.TheVariants.{Byte, Newline}

-- A piece has 1 to 65,535 bytes.
abbrev pub is_piece : Piece → Bool
is_piece p = nat_le 1 p.length && nat_le p.length 65535

abbrev pub size : ℕ → ℕ → Size
size b n = record { bytes = b; newlines = n }

-- Its newline, if it has one, is its last byte.
abbrev pub piece_size : Piece → Size
piece_size p = size p.length (cond p.ended 1 0)

-- Sums stop at 4,294,967,295.
abbrev pub sum : Size → Size → Size
sum x y = size (min (x.bytes + y.bytes) 4294967295) (min (x.newlines + y.newlines) 4294967295)

-- More than k bytes, or more than k newlines.
abbrev pub beyond : Size → Offset → Bool
beyond x (Byte k) = nat_lt k x.bytes
beyond x (Newline k) = nat_lt k x.newlines

abbrev pub Held : Size → Type 0
Held x = (x.bytes ≤ 4294967295) × (x.newlines ≤ 4294967295)

abbrev pub of_pieces : Algebra Piece Size Offset
of_pieces = record { admitted = is_piece; nothing = size 0 0; measure = piece_size; joined = sum; met = beyond; fair = Held; limit = 65535 }
