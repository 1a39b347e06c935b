-- How long a zip is, found from one of its pieces.
use Rattle.std.specs.Prelude.{ℕ, ◌+◌, ◌≡◌, List, Option, Some, None, length}
use Rattle.tables.specs.Pieces.{HasPiece, piece}
use Rattle.statements.specs.declared.outlines.Piece.{Piece}

-- the zip's piece of this number has so many bytes
abbrev pub HasSize : List ℕ → Piece → Type 0
HasSize zip it = HasPiece zip it.number × (it.size ≡ length (piece zip it.number))

-- a piece was found, or the zip has none
abbrev pub IsFound : List ℕ → Option Piece → Type 0
IsFound zip (Some it) = HasSize zip it
IsFound zip None = ¬ HasPiece zip 0

-- if this is a piece of the zip, none comes after it
abbrev pub EndsWith : List ℕ → Piece → Type 0
EndsWith zip it = HasSize zip it → ¬ HasPiece zip (it.number + 1)
