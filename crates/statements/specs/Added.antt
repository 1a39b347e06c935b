-- What the tables become when the rows of an entry are put in.
use Rattle.std.specs.Prelude.{◌≡◌, ◌≢◌, ◌<◌, ℕ, ℤ, pos, List, [], ◌∷◌, Option, IfSome}
use Rattle.sqlite.specs.declared.types.Value.TheVariants.{Null, Int, Text, Blob}
use Rattle.sqlite.specs.Order.{Row, column}
use Rattle.sqlite.specs.Values.{or_null}
use Rattle.sqlite.specs.Tree.{Trees}
use Rattle.sqlite_rules.specs.Lists.{Has}
use Rattle.tables.specs.Inserted.{Inserted}
use Rattle.tables.specs.Means.{IsEachPieceOnce}
use Rattle.tables.specs.Pieces.{HasPiece, piece}
use Rattle.tables.specs.Schema.{version_table, piece_table}
use Rattle.tables.specs.VersionKeys.{order_key_at, rank_key_at}
use Rattle.world.specs.declared.entry.Place.{Place}
use Rattle.world.specs.declared.entry.Entry.{Entry}
use Rattle.statements.specs.Rows.{AddsRows, IsElseSame, piece_read}

-- the values of a row of `version` after its number
abbrev pub version_values : Place → Entry → Row
version_values p e =
    Text p.shelf ∷ Text p.path ∷ Text p.version ∷ or_null Text e.time ∷ Blob e.gomod
    ∷ Blob (order_key_at p.version) ∷ Blob (rank_key_at p.version) ∷ []

abbrev pub version_row : ℤ → Place → Entry → Row
version_row id p e = Int id ∷ Null ∷ version_values p e

-- the values of the row of a zip's piece: the number of the version, the number of the piece, and its bytes
abbrev pub piece_values : ℤ → List ℕ → ℕ → Row
piece_values id zip n = Int id ∷ Int (pos n) ∷ Blob (piece zip n) ∷ []

-- A row of `piece` is put in for each piece of the zip of a version, and no other table changes. If no row was of that
-- version and each piece had one row, each piece has one row after.
pub record AddsZip (id : ℤ) (zip : List ℕ) (db after : Trees) : Type 0 where
  pub pieces : AddsRows piece_read
      (λ values. (n : ℕ) × HasPiece zip n × (values ≡ piece_values id zip n)) (db piece_table.tree)
      (after piece_table.tree)
  pub once : ((row : Row) → Has (db piece_table.tree) row → column row 1 ≢ Int id)
      → IsEachPieceOnce (db piece_table.tree) → IsEachPieceOnce (after piece_table.tree)
  pub tables : IsElseSame piece_table db after

-- of the pieces of the zip, those that are numbered below this are put in
pub record AddsUpTo (id : ℤ) (zip : List ℕ) (k : ℕ) (db after : Trees) : Type 0 where
  pub pieces : AddsRows piece_read (λ values. (n : ℕ) × (n < k) × HasPiece zip n × (values ≡ piece_values id zip n))
      (db piece_table.tree) (after piece_table.tree)
  pub once : ((row : Row) → Has (db piece_table.tree) row → column row 1 ≢ Int id)
      → IsEachPieceOnce (db piece_table.tree) → IsEachPieceOnce (after piece_table.tree)
  pub tables : IsElseSame piece_table db after

-- a row of `version` is put in, under this number if one is given, and then the rows of its zip
pub record HasAdded (number : Option ℤ) (db after : Trees) (p : Place) (e : Entry) : Type 0 where
  pub id : ℤ
  pub is_given : IfSome number (λ given. id ≡ given)
  pub mid : Trees
  pub version : Inserted db mid version_table (version_row id p e)
  pub zip : AddsZip id e.zip mid after
