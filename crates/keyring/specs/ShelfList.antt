-- The list of shelves: a line for each, in byte order.
use Rattle.std.specs.Prelude.{ℕ, List, [], ◌++◌, codes, if◌then◌else◌, bytes_eq, Option, Some, None}
use Rattle.std.specs.List.{flat_map}
use Rattle.std.specs.FinMap as map
use Rattle.keyring.specs.Named.{shelves_in}
use Rattle.world.specs.Lines.{in_order}
use Rattle.world.specs.World.{World, common}

-- what kind of shelf has this name and this parent; a team of a group with the name of the group
abbrev pub kind : List ℕ → Option (List ℕ) → List ℕ
kind s None = if bytes_eq s common then codes "common" else codes "group"
kind s (Some parent) = if bytes_eq parent common then codes "team" else codes "team " ++ parent

-- the line of a shelf, with its end
abbrev pub shelf_line : List ℕ → Option (List ℕ) → List ℕ
shelf_line s parent = s ++ (codes " " ++ (kind s parent ++ codes "\n"))

-- the line of what stands at a shelf's name, or nothing if nothing does
abbrev pub line_in : List ℕ → Option (Option (List ℕ)) → List ℕ
line_in s None = []
line_in s (Some parent) = shelf_line s parent

-- the lines of all shelves, in the order of their names
abbrev pub shelf_text : World → List ℕ
shelf_text w = flat_map (λ s. line_in s (map.get w.shelves s)) (in_order (shelves_in w))
