-- A zip in pieces of 65,536 bytes.
use Rattle.std.specs.Prelude.{◌<◌, ◌*◌, ℕ, List, length, take, drop}

-- how many bytes a piece has; the last may have fewer, but has at least one
abbrev pub piece_size : ℕ
piece_size = 65536

-- the most pieces that a zip may have
abbrev pub piece_limit : ℕ
piece_limit = 256

-- where the piece of this number begins in the zip
abbrev pub begin : ℕ → ℕ
begin n = n * piece_size

-- the zip reaches into the piece of this number; an empty zip has no piece
abbrev pub HasPiece : List ℕ → ℕ → Type 0
HasPiece zip n = begin n < length zip

-- the bytes of the piece of this number
abbrev pub piece : List ℕ → ℕ → List ℕ
piece zip n = take piece_size (drop (begin n) zip)
