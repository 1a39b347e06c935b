-- Rows put into the tables one after another, inside a transaction.
use Rattle.std.specs.Prelude.{ℤ, ◌≡◌, ◌≢◌, ◌⊎◌, ◌↔◌, Bool, List, [], ◌∷◌, IsTrue}
use Rattle.std.specs.List.{AllByRecursion}
use Rattle.sqlite.specs.declared.types.Value.TheVariants.{Null, Int}
use Rattle.sqlite.specs.Order.{Row, column}
use Rattle.sqlite.specs.Tree.{Trees, rowid}
use Rattle.sqlite.specs.Table.{Table}
use Rattle.sqlite.specs.State.{State, HasCleanDisk, Survives, KeepsCommit}
use Rattle.sqlite_catalog.specs.Listing.{IsSound}
use Rattle.sqlite_rules.specs.Lists.{Has}
use Rattle.world.specs.World.{World}
use Rattle.tables.specs.Inserted.{Inserted}
use Rattle.tables.specs.Means.{StandFor}
use Rattle.tables.specs.Schema.{store_schema, version_table, piece_table}

-- the connection is open inside a transaction, and its tables obey the schema
pub record Filling (s : State) : Type 0 where
  pub schema : s.now.schema ≡ store_schema
  pub sound : IsSound store_schema s.now.trees
  pub is_open : IsTrue s.is_open
  pub inside : IsTrue s.in_transaction

-- the connection is open inside a transaction, and its tables stand for the world
pub record Writing (s : State) (x : World) : Type 0 where
  pub schema : s.now.schema ≡ store_schema
  pub trees : StandFor s.now.trees x
  pub is_open : IsTrue s.is_open
  pub inside : IsTrue s.in_transaction

-- Nothing is committed, and if the disk has returned what was written, a call that is done leaves the transaction open.
pub record GoesOn (old new : State) (done : Bool) : Type 0 where
  pub survives : Survives old new (λ _. ⊥)
  pub commit : HasCleanDisk new → IsTrue old.in_transaction → KeepsCommit old new
  pub inside : HasCleanDisk new → IsTrue old.in_transaction → IsTrue done → IsTrue new.in_transaction

-- ---- one row

-- the row of `version` that has these values, the first of which is its number
abbrev pub version_of : Row → Row
version_of values =
    column values 0 ∷ Null ∷ column values 1 ∷ column values 2 ∷ column values 3
    ∷ column values 4 ∷ column values 5 ∷ column values 6 ∷ column values 7 ∷ []

-- a row of `version` with these values is put in
pub record PutsVersion (values : Row) (db after : Trees) : Type 0 where
  pub id : ℤ
  pub number : column values 0 ≡ Int id
  pub put : Inserted db after version_table (version_of values)
  pub sound : IsSound store_schema after

-- the row of `piece` with these values, under this number
abbrev pub piece_of : ℤ → Row → Row
piece_of id values = Int id ∷ column values 0 ∷ column values 1 ∷ column values 2 ∷ []

-- a row of `piece` with these values is put in
pub record PutsPiece (values : Row) (db after : Trees) : Type 0 where
  pub id : ℤ
  pub version : ℤ
  pub number : ℤ
  pub of_version : column values 0 ≡ Int version
  pub numbered : column values 1 ≡ Int number
  pub put : Inserted db after piece_table (piece_of id values)
  pub sound : IsSound store_schema after

-- ---- many rows

-- what is read from a row of `version`
abbrev pub version_read : Row → Row
version_read row =
    column row 0 ∷ column row 2 ∷ column row 3 ∷ column row 4 ∷ column row 5 ∷ column row 6 ∷ column row 7
    ∷ column row 8 ∷ []

-- what is read from a row of `piece`
abbrev pub piece_read : Row → Row
piece_read row = column row 1 ∷ column row 2 ∷ column row 3 ∷ []

-- the values are read from one of the rows
abbrev pub IsRead : (Row → Row) → List Row → Row → Type 0
IsRead read rows values = (row : Row) × Has rows row × (values ≡ read row)

-- what satisfies `Is` is exactly what satisfies `Was` or `IsSo`
abbrev pub Adds : {A : Type 0} → (A → Type 0) → (A → Type 0) → (A → Type 0) → Type 0
Adds IsSo Was Is = (a : _) → Is a ↔ (Was a ⊎ IsSo a)

-- what is read from `more` is exactly what is read from `rows` or satisfies `IsSo`
abbrev pub AddsRows : (Row → Row) → (Row → Type 0) → List Row → List Row → Type 0
AddsRows read IsSo rows more = Adds IsSo (IsRead read rows) (IsRead read more)

-- one of these satisfies `IsSo`
abbrev pub IsOfAny : {A : Type 0} → List A → (A → Type 0) → Type 0
IsOfAny xs IsSo = (x : _) × Has xs x × IsSo x

-- each table of the schema but this one is as it was
abbrev pub IsElseSame : Table → Trees → Trees → Type 0
IsElseSame table db after = AllByRecursion (λ t. t.tree ≢ table.tree → after t.tree ≡ db t.tree) store_schema.tables

-- each row has a number, and `Once` holds of the rows
pub record AreApart (Once : List Row → Type 0) (rows : List Row) : Type 0 where
  pub numbers : (row : Row) → Has rows row → (n : ℤ) × (rowid row ≡ Int n)
  pub once : Once rows

-- Rows are put into one table: what is read from it is exactly what was read before or satisfies `IsSo`. Rows that were
-- apart still are, and each other table is as it was.
pub record PutsRows (table : Table) (read : Row → Row) (Once : List Row → Type 0) (IsSo : Row → Type 0)
    (db after : Trees) : Type 0 where
  pub rows : AddsRows read IsSo (db table.tree) (after table.tree)
  pub apart : AreApart Once (db table.tree) → AreApart Once (after table.tree)
  pub tables : IsElseSame table db after
