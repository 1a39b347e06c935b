-- The queries of the walks.
use Rattle.std.specs.Prelude.{codes, List, ℕ}

abbrev pub meta_rows_text : List ℕ
meta_rows_text = codes "SELECT name, value FROM meta"

abbrev pub shelf_rows_text : List ℕ
shelf_rows_text = codes "SELECT name, parent FROM shelf ORDER BY name"

abbrev pub key_rows_text : List ℕ
key_rows_text = codes "SELECT token FROM access ORDER BY token"

abbrev pub number_rows_text : List ℕ
number_rows_text = codes "SELECT rowid FROM access ORDER BY rowid"

abbrev pub entry_rows_text : List ℕ
entry_rows_text = codes "SELECT shelf, path, version, time, mod, order_key, rank_key FROM version ORDER BY shelf, path, version"

abbrev pub piece_rows_text : List ℕ
piece_rows_text = codes "SELECT version, number, bytes FROM piece ORDER BY version, number"
