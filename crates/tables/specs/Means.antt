-- The world that the tables stand for. It does not depend on the order of rows, and the number of a row only ties a
-- version to its pieces.
use Rattle.std.specs.Prelude.{ℕ, ℤ, Bool, true, false, pos, if◌then◌else◌, List, Option, Some, IsTrue, codes, filter}
use Rattle.std.specs.Prelude.{◌≡◌}
use Rattle.sqlite.specs.declared.types.Value.TheVariants.{Int, Text, Blob}
use Rattle.sqlite.specs.Order.{Row, column}
use Rattle.sqlite.specs.Values.{or_null}
use Rattle.sqlite.specs.Collation.TheVariants.{Binary}
use Rattle.sqlite.specs.Tree.{Trees, rowid}
use Rattle.sqlite_trees.specs.Tree.{IsAscending}
use Rattle.sqlite_schema.specs.Rules.{equal}
use Rattle.sqlite_rules.specs.Lists.{Has}
use Rattle.sqlite_catalog.specs.Listing.{IsSound}
use Rattle.sqlite.specs.Effect.{Database}
use Rattle.sqlite.specs.State.{State, HasCleanDisk}
use Rattle.std.specs.FinMap as map
use Rattle.world.specs.declared.entry.Holder.{Holder}
use Rattle.world.specs.declared.entry.Right.{Right}
use Rattle.world.specs.declared.entry.Right.TheVariants.{Reads, Publishes}
use Rattle.world.specs.declared.entry.Place.{Place}
use Rattle.world.specs.declared.entry.Entry.{Entry}
use Rattle.world.specs.World.{World, IsWorld}
use Rattle.tables.specs.VersionKeys.{order_key_at, rank_key_at}
use Rattle.tables.specs.Pieces.{HasPiece, piece}
use Rattle.tables.specs.Schema.{store_schema, meta_table, shelf_table, access_table, version_table, piece_table}

-- rows and facts correspond: each row shows a fact that holds, and each fact that holds has a row
pub record Tabulates {X : Type 0} (IsRow : Row → X → Type 0) (rows : List Row) (Holds : X → Type 0) : Type 0 where
  pub each : (row : Row) → Has rows row → (x : X) × IsRow row x × Holds x
  pub found : (x : X) → Holds x → (row : Row) × Has rows row × IsRow row x

-- the fact in `meta`: the name `schema`, with the number 3
abbrev pub schema_named : List ℕ × ℤ
schema_named = (codes "schema", pos 3)

-- a row of `meta` shows this name with this number
abbrev pub IsMeta : Row → List ℕ × ℤ → Type 0
IsMeta row it = (column row 1 ≡ Text it.0) × (column row 2 ≡ Int it.1)

-- a row of `shelf` shows the shelf of this name, with its parent or none
abbrev pub IsShelf : Row → List ℕ × Option (List ℕ) → Type 0
IsShelf row it = (column row 1 ≡ Text it.0) × (column row 2 ≡ or_null Text it.1)

-- whether a key with this right may publish
abbrev pub may_publish : Right → Bool
may_publish Reads = false
may_publish Publishes = true

-- a row of `access` has 1 for a key that may publish, and 0 otherwise
abbrev pub flag : Bool → Row → Type 0
flag b row = column row 3 ≡ Int (if b then pos 1 else pos 0)

-- a row of `access` shows this key with its shelf and its right
abbrev pub IsAccess : Row → List ℕ × Holder → Type 0
IsAccess row it = (column row 1 ≡ Text it.0) × (column row 2 ≡ Text it.1.shelf) × flag (may_publish it.1.right) row

-- each row has a rowid, and no other row has it
pub record IsNumbered (rows : List Row) : Type 0 where
  pub number : (row : Row) → Has rows row → (n : ℤ) × (rowid row ≡ Int n)
  pub own : (a b : Row) → Has rows a → Has rows b → rowid a ≡ rowid b → a ≡ b

-- a row of `version` names this place
abbrev pub IsAt : Row → Place → Type 0
IsAt row p = (column row 2 ≡ Text p.shelf) × (column row 3 ≡ Text p.path) × (column row 4 ≡ Text p.version)

-- no two rows of `shelf` have one name
abbrev pub IsEachNameOnce : List Row → Type 0
IsEachNameOnce = IsAscending (λ a b. (name : List ℕ) → column a 1 ≡ Text name → column b 1 ≡ Text name → ⊥)

-- no two rows of `access` have one key
abbrev pub IsEachTokenOnce : List Row → Type 0
IsEachTokenOnce = IsAscending (λ a b. (token : List ℕ) → column a 1 ≡ Text token → column b 1 ≡ Text token → ⊥)

-- no two rows of `version` name one place
abbrev pub IsEachPlaceOnce : List Row → Type 0
IsEachPlaceOnce = IsAscending (λ a b. (p : Place) → IsAt a p → IsAt b p → ⊥)

-- no two rows of `piece` have one number of one version
abbrev pub IsEachPieceOnce : List Row → Type 0
IsEachPieceOnce = IsAscending (λ a b. column a 1 ≡ column b 1 → column a 2 ≡ column b 2 → ⊥)

-- a row of `version` has the order_key and the rank_key of the version that this text names
pub record HasKeys (row : Row) (version : List ℕ) : Type 0 where
  pub order : column row 7 ≡ Blob (order_key_at version)
  pub rank : column row 8 ≡ Blob (rank_key_at version)

-- whether a row of `piece` belongs to the version in this row of `version`
abbrev pub is_of : Row → Row → Bool
is_of version row = equal Binary (column row 1) (rowid version)

-- a row of `piece` has this number, and the bytes of the piece of the zip with this number
pub record IsPiece (zip : List ℕ) (row : Row) (n : ℕ) : Type 0 where
  pub number : column row 2 ≡ Int (pos n)
  pub bytes : column row 3 ≡ Blob (piece zip n)

-- the rows are the pieces of the zip, in any order
abbrev pub ArePieces : List Row → List ℕ → Type 0
ArePieces rows zip = Tabulates (IsPiece zip) rows (HasPiece zip)

-- a row of `version` shows this entry at this place, and its rows among those of `piece` are the pieces of the zip
pub record IsVersion (pieces : List Row) (row : Row) (it : Place × Entry) : Type 0 where
  pub place : IsAt row it.0
  pub time : column row 5 ≡ or_null Text it.1.time
  pub gomod : column row 6 ≡ Blob it.1.gomod
  pub keys : HasKeys row it.0.version
  pub zip : ArePieces (filter (is_of row) pieces) it.1.zip

-- The tables mean the world: each row shows one fact of it, and each fact has a row.
pub record Means (db : Trees) (w : World) : Type 0 where
  pub named : Tabulates IsMeta (db meta_table.tree) (λ it. it ≡ schema_named)
  pub shelves : Tabulates IsShelf (db shelf_table.tree) (λ it. map.get w.shelves it.0 ≡ Some it.1)
  pub access : Tabulates IsAccess (db access_table.tree) (λ it. map.get w.keys it.0 ≡ Some it.1)
  pub numbered : IsNumbered (db access_table.tree)
  pub entries : Tabulates (IsVersion (db piece_table.tree)) (db version_table.tree)
      (λ it. map.get w.entries it.0 ≡ Some it.1)
  -- each shelf, each key, each place and each piece has one row
  pub names : IsEachNameOnce (db shelf_table.tree)
  pub tokens : IsEachTokenOnce (db access_table.tree)
  pub places : IsEachPlaceOnce (db version_table.tree)
  pub pieces : IsEachPieceOnce (db piece_table.tree)

-- the trees hold the tables of the schema, obey its rules, and mean the world
pub record StandFor (db : Trees) (w : World) : Type 0 where
  pub sound : IsSound store_schema db
  pub means : Means db w

-- the tables are those of the schema, and stand for some world
pub record StandsForSome (db : Database) : Type 0 where
  pub schema : db.schema ≡ store_schema
  pub world : World
  pub trees : StandFor db.trees world
  pub is : IsWorld world

-- if the tables are those of the schema, they mean no world
abbrev pub StandsForNone : Database → Type 0
StandsForNone db = db.schema ≡ store_schema → (w : World) → Means db.trees w → IsWorld w → ⊥

-- the connection is in no transaction, and while it is open all that it shows is committed
pub record IsSettled (s : State) : Type 0 where
  pub autocommit : s.in_transaction ≡ false
  pub committed : IsTrue s.is_open → s.now ≡ s.committed

-- The connection shows the tables of the schema, which stand for the world; all of it is committed, and it is in no
-- transaction.
pub record Holds (s : State) (w : World) : Type 0 where
  pub schema : s.now.schema ≡ store_schema
  pub settled : s.now ≡ s.committed
  pub autocommit : s.in_transaction ≡ false
  pub trees : StandFor s.now.trees w

-- If no answer of the disk was wrong and the connection is open, it shows tables that stand for the world. This says
-- nothing once a file was written by others, or the disk has failed for good.
abbrev pub Stands : State → World → Type 0
Stands s w = HasCleanDisk s → IsTrue s.is_open → Holds s w

-- An open connection on an honest disk shows tables that stand for w, and w is a world.
abbrev pub StandsFor : State → World → Type 0
StandsFor s w = Stands s w × IsWorld w
