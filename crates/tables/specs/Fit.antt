-- What the rows of the tables must be for the tables to stand for a world.
use Rattle.std.specs.Prelude.{◌≡◌, ◌≤◌, ◌<◌, ◌⊎◌, ◌&&◌, ◌==◌, ◌+◌, ℕ, ℤ, pos, negsuc, Bool, true, List}
use Rattle.std.specs.Prelude.{[], ◌∷◌, length, map, filter, bytes_eq, codes, IsUtf8, Option, Some, None}
use Rattle.std.specs.List.{list_all}
use Rattle.std.specs.FinSet as set
use Rattle.sqlite.specs.declared.types.Value.{Value}
use Rattle.sqlite.specs.declared.types.Value.TheVariants.{Null, Int, Real, Text, Blob}
use Rattle.sqlite.specs.Order.{Row, column}
use Rattle.sqlite.specs.Tree.{Trees}
use Rattle.sqlite.specs.Values.{or_null}
use Rattle.sqlite_trees.specs.Tree.{IsAscending}
use Rattle.sqlite_rules.specs.Lists.{Has}
use Rattle.world.specs.declared.entry.Place.{Place}
use Rattle.world.specs.declared.entry.Entry.{Entry}
use Rattle.world.specs.World.{IsEntry, place, common, text_cmp, is_team_name, is_key, version_limit}
use Rattle.world.specs.Lines.{in_order}
use Rattle.tables.specs.declared.pieces.LastPiece.{LastPiece}
use Rattle.tables.specs.Pieces.{piece_size, piece_limit}
use Rattle.tables.specs.VersionKeys.{order_key_at, rank_key_at}
use Rattle.tables.specs.Schema.{meta_table, shelf_table, access_table, version_table, piece_table}

-- the text of a value, or the empty text if it is no text
abbrev pub text_in : Value → List ℕ
text_in Null = []
text_in (Int n) = []
text_in (Real x) = []
text_in (Text t) = t
text_in (Blob b) = []

-- the integer of a value, or 0 if it is no integer
abbrev pub int_in : Value → ℤ
int_in Null = pos 0
int_in (Int n) = n
int_in (Real x) = pos 0
int_in (Text t) = pos 0
int_in (Blob b) = pos 0

-- the integer of a value, or 0 if it is no integer or is negative
abbrev pub nat_in : Value → ℕ
nat_in Null = 0
nat_in (Int (pos n)) = n
nat_in (Int (negsuc n)) = 0
nat_in (Real x) = 0
nat_in (Text t) = 0
nat_in (Blob b) = 0

-- the bytes of a value, or no bytes if it is no blob
abbrev pub blob_in : Value → List ℕ
blob_in Null = []
blob_in (Int n) = []
blob_in (Real x) = []
blob_in (Text t) = []
blob_in (Blob b) = b

-- ---- the values that a walk reads of each row

-- the name and the value of a row of `meta`
abbrev pub meta_shown : Row → Row
meta_shown row = column row 1 ∷ column row 2 ∷ []

-- the first column of a row: the key of a row of `access`
abbrev pub name_shown : Row → Row
name_shown row = column row 1 ∷ []

-- the name and the parent of a row of `shelf`
abbrev pub shelf_shown : Row → Row
shelf_shown row = column row 1 ∷ column row 2 ∷ []

-- the rowid of a row
abbrev pub number_shown : Row → Row
number_shown row = column row 0 ∷ []

-- shelf, path, version, time, go.mod, order_key and rank_key of a row of `version`
abbrev pub entry_shown : Row → Row
entry_shown row = column row 2 ∷ column row 3 ∷ column row 4 ∷ column row 5 ∷ column row 6 ∷ column row 7 ∷ column row 8
    ∷ []

-- how many values a walk reads of a row of `version`
abbrev pub entry_width : ℕ
entry_width = 7

-- the version, the number and the bytes of a row of `piece`
abbrev pub piece_shown : Row → Row
piece_shown row = column row 1 ∷ column row 2 ∷ column row 3 ∷ []

-- how many values a walk reads of a row of `piece`
abbrev pub piece_width : ℕ
piece_width = 3

-- ---- one row, as a walk reads it

-- the row names schema 3
abbrev pub IsSchemaRow : Row → Type 0
IsSchemaRow row = (column row 0 ≡ Text (codes "schema")) × (column row 1 ≡ Int (pos 3))

-- a shelf may have this name
abbrev pub IsShelfName : List ℕ → Type 0
IsShelfName name = (name ≡ common) ⊎ (is_team_name name ≡ true)

-- a shelf may have this name and this parent; common may have none
abbrev pub MayHaveParent : List ℕ → Option (List ℕ) → Type 0
MayHaveParent name None = IsShelfName name
MayHaveParent name (Some parent) = (is_team_name name ≡ true) × IsShelfName parent

-- the row shows a shelf with a name and a parent that it may have
abbrev pub IsShelfRow : Row → Type 0
IsShelfRow row = (name : List ℕ) × (parent : Option (List ℕ)) × (column row 0 ≡ Text name)
    × (column row 1 ≡ or_null Text parent) × MayHaveParent name parent

-- the names with this one added, if its row shows no parent
abbrev pub top_put : Value → List ℕ → set.FinSet text_cmp → set.FinSet text_cmp
top_put Null name tops = set.insert tops name
top_put (Int n) name tops = tops
top_put (Real x) name tops = tops
top_put (Text t) name tops = tops
top_put (Blob b) name tops = tops

-- the names, with the parent that a row shows added, if it shows one
abbrev pub parent_put : Value → set.FinSet text_cmp → set.FinSet text_cmp
parent_put Null parents = parents
parent_put (Int n) parents = parents
parent_put (Real x) parents = parents
parent_put (Text t) parents = set.insert parents t
parent_put (Blob b) parents = parents

-- whether common is among the shelves without a parent, and so is each parent
abbrev pub are_whole : set.FinSet text_cmp → set.FinSet text_cmp → Bool
are_whole tops parents = set.contains tops common && list_all (λ t. set.contains tops t) (in_order parents)

-- the row shows a well-formed key
abbrev pub IsKeyRow : Row → Type 0
IsKeyRow row = (key : List ℕ) × (column row 0 ≡ Text key) × (is_key key ≡ true)

-- the text in the first value of a row: the name of a shelf, or a key
abbrev pub key_in : Row → List ℕ
key_in row = text_in (column row 0)

-- the row shows a number
abbrev pub IsNumberRow : Row → Type 0
IsNumberRow row = (n : ℤ) × (column row 0 ≡ Int n)

-- the number in the first value of a row
abbrev pub number_in : Row → ℤ
number_in row = int_in (column row 0)

-- the row shows the time and the go.mod of the entry, and no byte of its zip
pub record ShowsFiles (row : Row) (e : Entry) : Type 0 where
  pub time : column row 3 ≡ or_null Text e.time
  pub gomod : column row 4 ≡ Blob e.gomod
  pub zip : e.zip ≡ []

-- the row shows the order_key and the rank_key of the version that this text names
pub record ShowsKeys (row : Row) (version : List ℕ) : Type 0 where
  pub order : column row 5 ≡ Blob (order_key_at version)
  pub rank : column row 6 ≡ Blob (rank_key_at version)

-- the row shows an entry that may stand at the path and the version, on whatever shelf, and the keys of the version
pub record ShowsAt (row : Row) (path version : List ℕ) : Type 0 where
  pub entry : Entry
  pub files : ShowsFiles row entry
  pub keys : ShowsKeys row version
  pub may : (s : List ℕ) → IsEntry (place s path version) entry

-- the row shows the entry and its place, at which it may stand, and the keys of its version
pub record ShowsEntry (row : Row) (q : Place) (e : Entry) : Type 0 where
  pub shelf : column row 0 ≡ Text q.shelf
  pub path : column row 1 ≡ Text q.path
  pub version : column row 2 ≡ Text q.version
  pub files : ShowsFiles row e
  pub keys : ShowsKeys row q.version
  pub utf8 : IsUtf8 q.shelf
  pub may : IsEntry q e

-- the row shows an entry that may stand at its place, and the keys of its version
abbrev pub IsEntryRow : Row → Type 0
IsEntryRow row = (q : Place) × (e : Entry) × ShowsEntry row q e

-- the place in the first three values of a row
abbrev pub place_in : Row → Place
place_in row = record {
  shelf = text_in (column row 0);
  path = text_in (column row 1);
  version = text_in (column row 2);
}

-- whether the place is one of this path on this shelf
abbrev pub is_on : List ℕ → List ℕ → Place → Bool
is_on s p q = bytes_eq q.shelf s && bytes_eq q.path p

-- the row shows a piece: the number of its version, its own number, and its bytes, at least one and no more than a
-- piece may have
pub record IsPieceRow (row : Row) : Type 0 where
  pub version : ℤ
  pub number : ℕ
  pub bytes : List ℕ
  pub of_version : column row 0 ≡ Int version
  pub numbered : column row 1 ≡ Int (pos number)
  pub holds : column row 2 ≡ Blob bytes
  pub within : number < piece_limit
  pub some : 0 < length bytes
  pub most : length bytes ≤ piece_size

-- the version and the number of the piece in a row
abbrev pub piece_key : Row → ℤ × ℕ
piece_key row = (int_in (column row 0), nat_in (column row 1))

-- what a walk keeps of the piece in a row
abbrev pub piece_in : Row → LastPiece
piece_in row =
    record {
      version = int_in (column row 0);
      number = nat_in (column row 1);
      is_full = length (blob_in (column row 2)) == piece_size;
    }

-- what a walk keeps of a full piece
abbrev pub full_piece : ℤ → ℕ → LastPiece
full_piece version number = record { version = version; number = number; is_full = true }

-- ---- all rows of a table

-- there is a row, and each row names schema 3
pub record IsMetaFit (rows : List Row) : Type 0 where
  pub each : (row : Row) → Has rows row → IsSchemaRow row
  pub some : (row : Row) × Has rows row

-- each row is of this form, and no two have one key
pub record AreOnce {K : Type 0} (IsRow : Row → Type 0) (key : Row → K) (rows : List Row) : Type 0 where
  pub each : (row : Row) → Has rows row → IsRow row
  pub once : IsAscending (λ a b. key a ≡ key b → ⊥) rows

-- some row shows that a shelf of this name has no parent
abbrev pub HasTop : List Row → List ℕ → Type 0
HasTop rows name = (row : Row) × Has rows row × (column row 0 ≡ Text name) × (column row 1 ≡ Null)

-- each row shows a shelf, each name comes once, common has no parent, and no parent has one
pub record AreShelvesFit (rows : List Row) : Type 0 where
  pub shelves : AreOnce IsShelfRow key_in rows
  pub has_common : HasTop rows common
  pub parents : (row : Row) (parent : List ℕ) → Has rows row → column row 1 ≡ Text parent → HasTop rows parent

-- each row shows a well-formed key, and none comes twice
abbrev pub AreKeysFit : List Row → Type 0
AreKeysFit = AreOnce IsKeyRow key_in

-- each row shows a number, and none comes twice
abbrev pub AreNumbersFit : List Row → Type 0
AreNumbersFit = AreOnce IsNumberRow number_in

-- each row shows an entry that may stand, each place comes once, and no shelf has too many versions of a path
pub record AreEntriesFit (rows : List Row) : Type 0 where
  pub each : (row : Row) → Has rows row → IsEntryRow row
  pub once : IsAscending (λ a b. place_in a ≡ place_in b → ⊥) rows
  pub few : (s p : List ℕ) → length (filter (λ row. is_on s p (place_in row)) rows) ≤ version_limit

-- each row shows a piece, no version has a number twice, and for each piece n + 1 its version has a full piece n
pub record ArePiecesFit (rows : List Row) : Type 0 where
  pub pieces : AreOnce IsPieceRow piece_key rows
  pub before : (row : Row) (n : ℕ) → Has rows row → nat_in (column row 1) ≡ n + 1
      → (other : Row) × Has rows other × (piece_in other ≡ full_piece (int_in (column row 0)) n)

-- What the rows of all tables must be for the tables to stand for a world.
pub record AreFit (db : Trees) : Type 0 where
  pub named : IsMetaFit (map meta_shown (db meta_table.tree))
  pub shelves : AreShelvesFit (map shelf_shown (db shelf_table.tree))
  pub access : AreKeysFit (map name_shown (db access_table.tree))
  pub numbers : AreNumbersFit (map number_shown (db access_table.tree))
  pub entries : AreEntriesFit (map entry_shown (db version_table.tree))
  pub pieces : ArePiecesFit (map piece_shown (db piece_table.tree))
