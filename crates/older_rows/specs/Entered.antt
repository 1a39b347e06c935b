-- What the rows of the entries of an older store make of a fresh one.
use Rattle.std.specs.Prelude.{◌≡◌, List, [], Some}
use Rattle.std.specs.FinMap as map
use Rattle.sqlite.specs.Order.{Row}
use Rattle.sqlite.specs.Tree.{Trees}
use Rattle.sqlite_rules.specs.Lists.{Has}
use Rattle.sqlite_catalog.specs.Listing.{IsSound}
use Rattle.world.specs.World.{World, IsWorld}
use Rattle.tables.specs.Means.{Tabulates, IsAccess, StandFor}
use Rattle.tables.specs.Schema.{store_schema, access_table, version_table, piece_table}
use Rattle.older.specs.declared.schema.Format.{Format}
use Rattle.older.specs.declared.schema.Format.TheVariants.{One, Two}
use Rattle.older.specs.Means.{IsShelf, IsEntryIn}
use Rattle.older.specs.Schemas.{shelf_table}
use Rattle.statements.specs.Rows.{version_read}
use Rattle.older_rows.specs.Registry.{HasRegistry}

-- from the rows of one table is read what is read from the others
pub record AreAlike (read : Row → Row) (rows others : List Row) : Type 0 where
  pub there : (row : Row) → Has rows row → (other : Row) × Has others other × (read other ≡ read row)
  pub back : (other : Row) → Has others other → (row : Row) × Has rows row × (read other ≡ read row)

-- In schema 1 the old rows of `version` and of `body` are the entries of the world. In schema 2 the fresh rows of
-- `version` show what the old ones show, and no version has a piece yet.
abbrev pub AreEntered : Format → Trees → Trees → World → Type 0
AreEntered One old after w =
    Tabulates (IsEntryIn One old) (old version_table.tree) (λ it. map.get w.entries it.0 ≡ Some it.1)
AreEntered Two old after w = AreAlike version_read (old version_table.tree) (after version_table.tree)
    × (after piece_table.tree ≡ [])

-- the tables stand for a world with the old shelves and keys, and the entries were put in
pub record HasEntries (format : Format) (old after : Trees) : Type 0 where
  pub world : World
  pub is : IsWorld world
  pub shelves : Tabulates IsShelf (old shelf_table.tree) (λ it. map.get world.shelves it.0 ≡ Some it.1)
  pub keys : Tabulates IsAccess (old access_table.tree) (λ it. map.get world.keys it.0 ≡ Some it.1)
  pub entries : AreEntered format old after world
  pub stands : StandFor after world

abbrev pub PutsEntries : Format → Trees → Trees → Trees → Type 0
PutsEntries format old db after = HasRegistry old db → HasEntries format old after

-- the tables stand for a world with the old shelves, keys and entries
pub record HasAll (format : Format) (old after : Trees) : Type 0 where
  pub world : World
  pub is : IsWorld world
  pub shelves : Tabulates IsShelf (old shelf_table.tree) (λ it. map.get world.shelves it.0 ≡ Some it.1)
  pub keys : Tabulates IsAccess (old access_table.tree) (λ it. map.get world.keys it.0 ≡ Some it.1)
  pub entries : Tabulates (IsEntryIn format old) (old version_table.tree) (λ it. map.get world.entries it.0 ≡ Some it.1)
  pub stands : StandFor after world

abbrev pub PutsZips : Format → Trees → Trees → Trees → Type 0
PutsZips format old db after = HasEntries format old db → IsSound store_schema after → HasAll format old after
