-- The tables of schemas 1 and 2: those of today, except for `shelf`, and in schema 1 `version` and `body`.
use Rattle.std.specs.Prelude.{ℤ, pos, codes, List, [], ◌∷◌, Some}
use Rattle.sqlite.specs.Kind.TheVariants.{Integer, Text, Blob}
use Rattle.sqlite.specs.Table.{Table}
use Rattle.sqlite.specs.Schema.{Schema}
use Rattle.sqlite_schema.specs.declared.schema.Column.{Column}
use Rattle.tables.specs.Schema.{given, optional, refers, plain_table, meta_table, access_table, version_table}
use Rattle.tables.specs.Schema.{piece_table}
use Rattle.tables.specs.Schema.{meta_index, shelf_index, access_index, version_index, store_schema}
use Rattle.older.specs.declared.schema.Format.{Format}
use Rattle.older.specs.declared.schema.Format.TheVariants.{One, Two}

-- a row of `shelf` has only a name
abbrev pub shelf_table : Table
shelf_table = plain_table (codes "shelf") 2 (given (codes "name") Text ∷ [])

-- in schema 1 a version has no keys of order
abbrev pub keyless_columns : List Column
keyless_columns =
    optional (codes "id") Integer ∷ given (codes "shelf") Text ∷ given (codes "path") Text
    ∷ given (codes "version") Text
    ∷ optional (codes "time") Text ∷ given (codes "mod") Blob ∷ []

abbrev pub keyless_table : Table
keyless_table = record version_table { columns = keyless_columns }

-- in schema 1 a zip is one row, which has the number of its version
abbrev pub body_table : Table
body_table = record (plain_table (codes "body") 8 (optional (codes "id") Integer ∷ given (codes "zip") Blob ∷ [])) {
  key = Some 0;
  primary = 0 ∷ [];
  uniques = [];
  orders = [];
  references = refers 0 (codes "version") (codes "id") ∷ [];
}

abbrev pub schema_1 : Schema
schema_1 = record {
  tables = meta_table ∷ shelf_table ∷ access_table ∷ keyless_table ∷ body_table ∷ [];
  indexes = meta_index ∷ shelf_index ∷ access_index ∷ version_index ∷ [];
  views = [];
}

abbrev pub schema_2 : Schema
schema_2 = record {
  tables = meta_table ∷ shelf_table ∷ access_table ∷ version_table ∷ piece_table ∷ [];
  indexes = store_schema.indexes;
  views = [];
}

-- the tables of a format
abbrev pub schema_of : Format → Schema
schema_of One = schema_1
schema_of Two = schema_2

-- the number of a format
abbrev pub number_of : Format → ℤ
number_of One = pos 1
number_of Two = pos 2
