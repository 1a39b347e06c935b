-- What the rows of `version`, and the rows of their zips, make of a fresh store.
use Rattle.std.specs.Prelude.{ℤ, ℕ, ◌≡◌, List, [], Option, Some}
use Rattle.sqlite.specs.declared.types.Value.TheVariants.{Int, Text, Blob}
use Rattle.sqlite.specs.Order.{Row, column}
use Rattle.sqlite.specs.Tree.{Trees}
use Rattle.sqlite.specs.Values.{or_null}
use Rattle.sqlite_catalog.specs.Listing.{IsSound}
use Rattle.world.specs.declared.entry.Place.{Place}
use Rattle.world.specs.declared.entry.Entry.{Entry}
use Rattle.world.specs.World.{IsEntry}
use Rattle.tables.specs.Schema.{store_schema}
use Rattle.tables.specs.VersionKeys.{order_key_at, rank_key_at}
use Rattle.tables.specs.Walks.{MayFollow, run_with}
use Rattle.older.specs.declared.schema.Format.{Format}
use Rattle.older.specs.declared.schema.Format.TheVariants.{One, Two}
use Rattle.statements.specs.Added.{HasAdded}

-- a row shows the place, the time and the go.mod of an entry
pub record ShowsEntry (row : Row) (q : Place) (e : Entry) : Type 0 where
  pub shelf : column row 0 ≡ Text q.shelf
  pub path : column row 1 ≡ Text q.path
  pub version : column row 2 ≡ Text q.version
  pub time : column row 3 ≡ or_null Text e.time
  pub gomod : column row 4 ≡ Blob e.gomod

-- In schema 1 a row shows the zip. In schema 2 the zip is empty so far.
abbrev pub ShowsZip : Format → Row → List ℕ → Type 0
ShowsZip One row zip = column row 6 ≡ Blob zip
ShowsZip Two row zip = zip ≡ []

-- In schema 2 a row shows the order keys of the version. In schema 1 it has none.
abbrev pub ShowsKeys : Format → Row → List ℕ → Type 0
ShowsKeys One row version = Unit {0}
ShowsKeys Two row version = (column row 6 ≡ Blob (order_key_at version)) × (column row 7 ≡ Blob (rank_key_at version))

-- a row shows an entry that may stand at its place, and its number
pub record IsFitRow (format : Format) (row : Row) (id : ℤ) (q : Place) (e : Entry) : Type 0 where
  pub shows : ShowsEntry row q e
  pub number : column row 5 ≡ Int id
  pub zip : ShowsZip format row e.zip
  pub may : IsEntry q e

-- a row shows an entry that may follow the last one, and its order keys, and the rows of the entry are put in
pub record PutsEntry (format : Format) (last : Option Place) (many : ℕ)
    (row : Row) (db after : Trees) (now : Option Place) (more : ℕ) : Type 0 where
  pub id : ℤ
  pub place : Place
  pub entry : Entry
  pub fits : IsFitRow format row id place entry
  pub keys : ShowsKeys format row place.version
  pub follows : MayFollow last many place
  pub last_is : now ≡ Some place
  pub many_is : more ≡ run_with last many place
  pub adds : HasAdded (Some id) db after place entry
  pub sound : IsSound store_schema after
