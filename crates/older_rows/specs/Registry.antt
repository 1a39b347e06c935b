-- What the rows of `meta`, `shelf` and `access` of an older store make of a fresh one.
use Rattle.std.specs.Prelude.{ℤ, ℕ, pos, ◌≡◌, true, false, List, Some, codes, if◌then◌else◌}
use Rattle.std.specs.FinMap as map
use Rattle.std.specs.FinSet as set
use Rattle.sqlite.specs.declared.types.Value.TheVariants.{Int, Text}
use Rattle.sqlite.specs.Order.{Row, column}
use Rattle.sqlite.specs.Tree.{Trees}
use Rattle.world.specs.declared.entry.Holder.{Holder}
use Rattle.world.specs.declared.entry.Right.{Right}
use Rattle.world.specs.World.{World, IsWorld, common, text_cmp, is_team_name, is_key, only_common}
use Rattle.tables.specs.Means.{Tabulates, IsMeta, IsAccess, StandFor, may_publish}
use Rattle.tables.specs.Schema.{meta_table, access_table}
use Rattle.older.specs.declared.schema.Format.{Format}
use Rattle.older.specs.Means.{IsShelf}
use Rattle.older.specs.Schemas.{shelf_table, number_of}
use Rattle.statements.specs.Extract.{PutsShelf, ShowsKey, PutsKey}

-- ---- meta

-- a row shows the number of the schema under the name `schema`
abbrev pub NamesSchema : ℤ → Row → Type 0
NamesSchema number row = (column row 0 ≡ Text (codes "schema")) × (column row 1 ≡ Int number)

-- `meta` names the schema and nothing else, and nothing is put in
abbrev pub IsNamed : Format → Trees → Trees → Trees → Type 0
IsNamed format old db after = Tabulates IsMeta (old meta_table.tree) (λ it. it ≡ (codes "schema", number_of format))
    × (after ≡ db)

-- ---- shelves

-- a row shows `common`, and nothing is put in for it
abbrev pub IsCommonRow : Row → Trees → Trees → Type 0
IsCommonRow row db after = (column row 0 ≡ Text common) × (after ≡ db)

-- a row shows a team that has not come before, and the team is put in without a group
pub record IsTeamRow (names : set.FinSet text_cmp) (row : Row) (db after : Trees)
    (more : set.FinSet text_cmp) : Type 0 where
  pub name : List ℕ
  pub shows : column row 0 ≡ Text name
  pub good : is_team_name name ≡ true
  pub new : set.contains names name ≡ false
  pub noted : more ≡ set.insert names name
  pub puts : PutsShelf name (Some common) db after

-- the tables stand for a world with the old shelves and nothing else
pub record HasShelves (old after : Trees) : Type 0 where
  pub world : World
  pub is : IsWorld world
  pub shelves : Tabulates IsShelf (old shelf_table.tree) (λ it. map.get world.shelves it.0 ≡ Some it.1)
  pub keys : world.keys ≡ map.empty
  pub entries : world.entries ≡ map.empty
  pub stands : StandFor after world

abbrev pub PutsShelves : Trees → Trees → Trees → Type 0
PutsShelves old db after = StandFor db only_common → HasShelves old after

-- ---- keys

-- a column shows a right: 1 if it may publish, otherwise 0
abbrev pub ShowsRight : Row → ℕ → Right → Type 0
ShowsRight row at right = column row at ≡ Int (if may_publish right then pos 1 else pos 0)

-- a row shows a well-formed key, its shelf and its right
abbrev pub IsGoodKey : Row → Type 0
IsGoodKey row = (it : List ℕ × Holder) × ShowsKey row it × (is_key it.0 ≡ true)

-- a row shows a well-formed key, and the key is put in
abbrev pub IsKeyRow : Row → Trees → Trees → Type 0
IsKeyRow row db after = IsGoodKey row × PutsKey row db after

-- the tables stand for a world with the old shelves and keys, and nothing else
pub record HasRegistry (old after : Trees) : Type 0 where
  pub world : World
  pub is : IsWorld world
  pub shelves : Tabulates IsShelf (old shelf_table.tree) (λ it. map.get world.shelves it.0 ≡ Some it.1)
  pub keys : Tabulates IsAccess (old access_table.tree) (λ it. map.get world.keys it.0 ≡ Some it.1)
  pub entries : world.entries ≡ map.empty
  pub stands : StandFor after world

abbrev pub PutsKeys : Trees → Trees → Trees → Type 0
PutsKeys old db after = HasShelves old db → HasRegistry old after
