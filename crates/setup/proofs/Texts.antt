-- The statements that find out whether a store has more than `common`.
use Rattle.std.specs.Prelude.{codes, List, ℕ}

abbrev pub other_shelf_text : List ℕ
other_shelf_text = codes "SELECT name FROM shelf WHERE name <> ?1"

abbrev pub tokens_text : List ℕ
tokens_text = codes "SELECT token FROM access"

abbrev pub all_paths_text : List ℕ
all_paths_text = codes "SELECT path FROM version"
