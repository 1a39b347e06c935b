-- Names that SQLite takes for no file.
use Rattle.std.specs.Prelude.{ℕ, ◌≡◌, ◌⊎◌, List, [], IsTrue, codes, nat_eq}
use Rattle.std.specs.List.{starts_with}

-- the name is empty, `:memory:` or a URI
abbrev pub IsNoFileName : List ℕ → Type 0
IsNoFileName name = (name ≡ []) ⊎ ((name ≡ codes ":memory:") ⊎ IsTrue (starts_with nat_eq name (codes "file:")))
