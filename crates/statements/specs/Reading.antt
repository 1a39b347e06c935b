-- What the rows of an entry show.
use Rattle.std.specs.Prelude.{◌≡◌, ◌&&◌, ℕ, ℤ, Bool, List, filter, Option, Some, None, bytes_eq}
use Rattle.sqlite.specs.declared.types.Value.TheVariants.{Int, Blob}
use Rattle.sqlite.specs.Order.{Row, column}
use Rattle.sqlite.specs.Tree.{Trees}
use Rattle.sqlite.specs.Collation.TheVariants.{Binary}
use Rattle.sqlite_schema.specs.Rules.{equal}
use Rattle.world.specs.declared.entry.Entry.{Entry}
use Rattle.world.specs.declared.entry.Heading.{Heading}
use Rattle.world.specs.declared.entry.Seen.{Seen}
use Rattle.world.specs.World.{heading_of}
use Rattle.world.specs.Standing.{same_time}
use Rattle.statements.specs.declared.entries.VersionRow.{VersionRow}
use Rattle.tables.specs.Means.{ArePieces}
use Rattle.tables.specs.Pieces.{HasPiece, piece}
use Rattle.tables.specs.Schema.{piece_table}

-- the rows of `piece` of the version with this number are the pieces of the zip
abbrev pub IsZip : Trees → ℤ → List ℕ → Type 0
IsZip db id zip = ArePieces (filter (λ row. equal Binary (column row 1) (Int id)) (db piece_table.tree)) zip

-- A row of `version` is that of the entry that is seen: it names the shelf, shows the heading, and has the number of
-- the zip's pieces.
pub record IsRowOf (db : Trees) (seen : Option Seen) (row : VersionRow) : Type 0 where
  pub entry : Entry
  pub is : seen ≡ Some (record { shelf = row.shelf; entry = entry })
  pub heading : row.heading ≡ heading_of entry
  pub zip : IsZip db row.id entry.zip

-- the row is that of the entry that is seen; None: nothing is seen
abbrev pub HasRow : Trees → Option Seen → Option VersionRow → Type 0
HasRow db seen (Some row) = IsRowOf db seen row
HasRow db seen None = seen ≡ None

-- the row shows the zip's piece of this number; None: there is no such piece
abbrev pub ShowsPieceOf : List ℕ → ℕ → Option Row → Type 0
ShowsPieceOf zip n (Some row) = HasPiece zip n × (column row 0 ≡ Blob (piece zip n))
ShowsPieceOf zip n None = ¬ HasPiece zip n

-- `ShowsPieceOf` holds for the zip of the version with this number
abbrev pub ShowsPiece : Trees → ℤ → ℕ → Option Row → Type 0
ShowsPiece db id n found = (zip : List ℕ) → IsZip db id zip → ShowsPieceOf zip n found

-- the entry with this heading and this zip
abbrev pub entry_with : Heading → List ℕ → Entry
entry_with h zip = record { gomod = h.gomod; zip = zip; time = h.time }

-- whether an entry has the go.mod and the time of a heading
abbrev pub same_heading : Heading → Entry → Bool
same_heading h e = bytes_eq h.gomod e.gomod && same_time h.time e.time
