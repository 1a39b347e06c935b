-- The tables after one row is inserted.
use Rattle.std.specs.Prelude.{◌≡◌, ◌≢◌, true, [], ◌∷◌}
use Rattle.std.specs.List.{AllByRecursion}
use Rattle.sqlite.specs.Order.{Row}
use Rattle.sqlite.specs.Tree.{Trees}
use Rattle.sqlite.specs.Table.{Table}
use Rattle.sqlite.specs.Edit.{are_fresh, put_all}
use Rattle.tables.specs.Schema.{store_schema}

-- one row was put in, at a rowid that was free, and each other table of the schema is as it was
pub record Inserted (db after : Trees) (table : Table) (row : Row) : Type 0 where
  pub fresh : are_fresh (db table.tree) (row ∷ []) ≡ true
  pub rows : after table.tree ≡ put_all (db table.tree) (row ∷ [])
  pub tables : AllByRecursion (λ t. t.tree ≢ table.tree → after t.tree ≡ db t.tree) store_schema.tables
