-- The world that the tables of an older schema stand for. The order of rows means nothing, and a row's number only ties
-- a version to its zip.
use Rattle.std.specs.Prelude.{ℕ, Bool, true, if◌then◌else◌, List, Option, Some, None, codes, bytes_eq, ◌≡◌}
use Rattle.std.specs.FinMap as map
use Rattle.sqlite.specs.declared.types.Value.TheVariants.{Text, Blob}
use Rattle.sqlite.specs.Order.{Row, column}
use Rattle.sqlite.specs.Values.{or_null}
use Rattle.sqlite.specs.Collation.TheVariants.{Binary}
use Rattle.sqlite.specs.Tree.{Trees, rowid}
use Rattle.sqlite.specs.Effect.{Database}
use Rattle.sqlite_schema.specs.Rules.{equal}
use Rattle.sqlite_rules.specs.Lists.{Has}
use Rattle.world.specs.declared.entry.Place.{Place}
use Rattle.world.specs.declared.entry.Entry.{Entry}
use Rattle.world.specs.World.{World, IsWorld, common}
use Rattle.tables.specs.Means.{Tabulates, IsMeta, IsAccess, IsAt, IsVersion}
use Rattle.tables.specs.Schema.{meta_table, access_table, version_table, piece_table}
use Rattle.older.specs.declared.schema.Format.{Format}
use Rattle.older.specs.declared.schema.Format.TheVariants.{One, Two}
use Rattle.older.specs.Schemas.{shelf_table, body_table, schema_of, number_of}

-- common has no parent, and each other shelf is a team without a group
abbrev pub parent_of : List ℕ → Option (List ℕ)
parent_of name = if bytes_eq name common then None else Some common

-- a row shows the name of a shelf, which determines its parent
abbrev pub IsShelf : Row → List ℕ × Option (List ℕ) → Type 0
IsShelf row it = (column row 1 ≡ Text it.0) × (it.1 ≡ parent_of it.0)

-- the two rows have equal numbers, as SQL compares them
abbrev pub is_numbered_as : Row → Row → Bool
is_numbered_as a b = equal Binary (rowid a) (rowid b)

-- a row of `body` has the number of a row of `version`, and each row that has it holds the zip
pub record HasBody (bodies : List Row) (version : Row) (zip : List ℕ) : Type 0 where
  pub body : Row
  pub there : Has bodies body
  pub same : is_numbered_as body version ≡ true
  pub holds : (other : Row) → Has bodies other → is_numbered_as other version ≡ true → column other 2 ≡ Blob zip

-- a row of `version` of schema 1, with its row of `body`, is that of the entry
pub record IsWithBody (bodies : List Row) (row : Row) (it : Place × Entry) : Type 0 where
  pub place : IsAt row it.0
  pub time : column row 5 ≡ or_null Text it.1.time
  pub gomod : column row 6 ≡ Blob it.1.gomod
  pub zip : HasBody bodies row it.1.zip

-- a row of `version`, with the rows of its zip, is that of the entry
abbrev pub IsEntryIn : Format → Trees → Row → Place × Entry → Type 0
IsEntryIn One db = IsWithBody (db body_table.tree)
IsEntryIn Two db = IsVersion (db piece_table.tree)

-- The tables mean the world: each row is one fact of it, and each fact has a row.
pub record Means (format : Format) (db : Trees) (w : World) : Type 0 where
  pub named : Tabulates IsMeta (db meta_table.tree) (λ it. it ≡ (codes "schema", number_of format))
  pub shelves : Tabulates IsShelf (db shelf_table.tree) (λ it. map.get w.shelves it.0 ≡ Some it.1)
  pub access : Tabulates IsAccess (db access_table.tree) (λ it. map.get w.keys it.0 ≡ Some it.1)
  pub entries : Tabulates (IsEntryIn format db) (db version_table.tree) (λ it. map.get w.entries it.0 ≡ Some it.1)

-- the tables are those of the format, and stand for the world
pub record StandsAs (format : Format) (db : Database) (w : World) : Type 0 where
  pub schema : db.schema ≡ schema_of format
  pub means : Means format db.trees w
  pub is : IsWorld w
