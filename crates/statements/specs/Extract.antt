-- Copies of rows of one store into a second one, inside a transaction of the second.
use Rattle.std.specs.Prelude.{ℕ, ◌≡◌, ◌≤◌, ◌⊎◌, List, [], ◌∷◌, ◌++◌, filter, Bool, Option, Some, None, IsTrue, pos}
use Rattle.std.specs.Prelude.{if◌then◌else◌}
use Rattle.std.specs.FinMap as map
use Rattle.sqlite.specs.declared.types.Value.TheVariants.{Int, Text, Blob}
use Rattle.sqlite.specs.Order.{Row, column}
use Rattle.sqlite.specs.Values.{or_null}
use Rattle.sqlite.specs.Tree.{Trees}
use Rattle.sqlite.specs.Effect.{Database, ReadsFirst}
use Rattle.sqlite.specs.Listing.{understood}
use Rattle.sqlite.specs.State.{State, HasCleanDisk, IsUnchanged, IsRolledBack}
use Rattle.sqlite.proofs.Callers.{command_of}
use Rattle.sqlite_trees.specs.View.{doubt}
use Rattle.world.specs.declared.entry.Holder.{Holder}
use Rattle.world.specs.declared.entry.Place.{Place}
use Rattle.world.specs.declared.entry.Heading.{Heading}
use Rattle.world.specs.World.{World, with_key, with_shelf}
use Rattle.sqlite_rules.specs.Lists.{Has}
use Rattle.tables.specs.Means.{may_publish, Means, StandFor, IsEachPlaceOnce, IsEachPieceOnce, is_of}
use Rattle.tables.specs.Schema.{store_schema, version_table, piece_table}
use Rattle.tables.specs.VersionKeys.{order_key_at, rank_key_at}
use Rattle.statements.specs.Rows.{Filling, GoesOn, Adds, IsRead, PutsRows, version_read, piece_read}

-- the connection is open and its tables are those of the schema, if the disk has returned what was written
abbrev pub IsReady : State → Type 0
IsReady s = HasCleanDisk s → IsTrue s.is_open × (s.now.schema ≡ store_schema)

-- The store is only read: it is unchanged or rolled back, unchanged if the call is done, and a crash leaves nothing
-- that it did not leave before.
pub record IsReadBy (old new : State) (done : Bool) : Type 0 where
  pub left : HasCleanDisk new → (db : Trees) → new.may_leave db → old.may_leave db
  pub outcome : HasCleanDisk new → IsUnchanged old new ⊎ IsRolledBack old new
  pub same : HasCleanDisk new → IsTrue done → IsUnchanged old new

-- Rows of a source are put into a fresh store inside a transaction of it. If the call is done, `Makes` relates the
-- tables of the source, the fresh tables before, and the fresh tables after.
pub record Copies (Makes : Trees → Trees → Trees → Type 0) (source source_new fresh fresh_new : State)
    (done : Bool) : Type 0 where
  pub clean : doubt source.is_clean ≤ doubt source_new.is_clean
  pub reads : IsReady source → IsReadBy source source_new done
  pub goes_on : GoesOn fresh fresh_new done
  pub makes :
      HasCleanDisk source_new → HasCleanDisk fresh_new → IsReady source
      → (w : World) → Means source.now.trees w → Filling fresh → IsTrue done
      → Makes source.now.trees fresh.now.trees fresh_new.now.trees × Filling fresh_new

-- if the source means `w` and the fresh tables stood for `x`, they stand after for a world that `Makes` relates to
-- these two
abbrev pub OfWorlds : (World → World → World → Type 0) → Trees → Trees → Trees → Type 0
OfWorlds Makes source db after = (w x : World) → Means source w → StandFor db x
    → (y : World) × Makes w x y × StandFor after y

-- each row that the query shows of tables that mean a world satisfies `Fits`
abbrev pub AllFit : (Row → Type 0) → List ℕ → Row → Type 0
AllFit Fits sql params =
    (db : Database) (w : World) (rows : List Row) (row : Row) → Means db.trees w
    → ReadsFirst (command_of (understood store_schema sql)) db params (rows ++ row ∷ []) → Fits row

-- ---- keys

-- a row shows a key, its shelf and its right
abbrev pub ShowsKey : Row → List ℕ × Holder → Type 0
ShowsKey row it = (column row 0 ≡ Text it.0) × (column row 1 ≡ Text it.1.shelf)
    × (column row 2 ≡ Int (if may_publish it.1.right then pos 1 else pos 0))

abbrev pub IsKeyShown : Row → Type 0
IsKeyShown row = (it : List ℕ × Holder) × ShowsKey row it

-- y is x with the key that the row shows, which x lacks
abbrev pub AddsKey : Row → World → World → Type 0
AddsKey row x y = (it : List ℕ × Holder) × ShowsKey row it × (map.get x.keys it.0 ≡ None) × (y ≡ with_key x it.0 it.1)

-- if the tables stood for a world, they stand after for that world with the row's key added
abbrev pub PutsKey : Row → Trees → Trees → Type 0
PutsKey row db after = (x : World) → StandFor db x → (y : World) × AddsKey row x y × StandFor after y

-- y has the keys of x and those that satisfy `IsSo`, and otherwise equals x
pub record AddsKeys (IsSo : List ℕ × Holder → Type 0) (x y : World) : Type 0 where
  pub shelves : y.shelves ≡ x.shelves
  pub entries : y.entries ≡ x.entries
  pub keys : Adds IsSo (λ it. map.get x.keys it.0 ≡ Some it.1) (λ it. map.get y.keys it.0 ≡ Some it.1)

-- y has the keys of x and those that `w` has for one shelf
abbrev pub CopiesKeys : List ℕ → World → World → World → Type 0
CopiesKeys s w = AddsKeys (λ it. (map.get w.keys it.0 ≡ Some it.1) × (it.1.shelf ≡ s))

-- ---- entries: the rows of their versions and of their zips

-- the values show a place, the heading of its entry, and the order keys of its version
pub record ShowsVersion (values : Row) (p : Place) (h : Heading) : Type 0 where
  pub shelf : column values 1 ≡ Text p.shelf
  pub path : column values 2 ≡ Text p.path
  pub version : column values 3 ≡ Text p.version
  pub time : column values 4 ≡ or_null Text h.time
  pub gomod : column values 5 ≡ Blob h.gomod
  pub order : column values 6 ≡ Blob (order_key_at p.version)
  pub rank : column values 7 ≡ Blob (rank_key_at p.version)

abbrev pub IsVersionShown : Row → Type 0
IsVersionShown values = (p : Place) × (h : Heading) × ShowsVersion values p h

-- the values are read from a row of `version` that is on the shelf
abbrev pub IsVersionOn : List ℕ → Trees → Row → Type 0
IsVersionOn shelf db values = IsRead version_read (db version_table.tree) values × (column values 1 ≡ Text shelf)

-- the values are read from a row of `piece` whose version is on the shelf
abbrev pub IsPieceOn : List ℕ → Trees → Row → Type 0
IsPieceOn shelf db values =
    (version : Row) × Has (db version_table.tree) version × (column version 2 ≡ Text shelf)
    × IsRead piece_read (filter (is_of version) (db piece_table.tree)) values

-- the rows of the versions on one shelf are put in
abbrev pub CopiesVersions : List ℕ → Trees → Trees → Trees → Type 0
CopiesVersions shelf source = PutsRows version_table version_read IsEachPlaceOnce (IsVersionOn shelf source)

-- the rows of the zips on one shelf are put in
abbrev pub CopiesPieces : List ℕ → Trees → Trees → Trees → Type 0
CopiesPieces shelf source = PutsRows piece_table piece_read IsEachPieceOnce (IsPieceOn shelf source)

-- ---- one change after another

-- if its name is free, a shelf is put in with its parent
abbrev pub PutsShelf : List ℕ → Option (List ℕ) → Trees → Trees → Type 0
PutsShelf name parent db after = (x : World) → StandFor db x → map.get x.shelves name ≡ None
    → StandFor after (with_shelf x name parent)

-- P, and then Q
abbrev pub Then : {X : Type 0} → (X → X → X → Type 0) → (X → X → X → Type 0) → X → X → X → Type 0
Then {X} P Q w x z = (y : X) × P w x y × Q w y z

-- P for each of these, one after another
abbrev pub Along : {E X : Type 0} → (E → X → X → X → Type 0) → List E → X → X → X → Type 0
Along P [] w x z = x ≡ z
Along P (e ∷ es) w x z = Then (P e) (Along P es) w x z
