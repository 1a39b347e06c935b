-- Entries in maps of texts, one in another, and the finite map from places that they stand for.
use Rattle.std.specs.Prelude.{◌≡◌, ℕ, List, map as each, Some}
use Rattle.std.specs.List.{flat_map}
use Rattle.std.specs.FinMap as map
use Rattle.world.specs.declared.entry.Place.{Place}
use Rattle.world.specs.declared.entry.Entry.{Entry}
use Rattle.world.specs.World.{text_cmp, place_cmp, place}
use Rattle.world.specs.FinMaps.{get_under, map_at, put_under}

-- entries by shelf, then by path, then by version
abbrev pub Nested : Type 0
Nested = map.FinMap text_cmp (map.FinMap text_cmp (map.FinMap text_cmp Entry))

-- the versions of a path on a shelf, each with its place
abbrev pub placed : List ℕ → List ℕ → map.FinMap text_cmp Entry → List (Place × Entry)
placed s p versions = each (λ v. (place s p v.0, v.1)) (map.entries versions)

-- the entries of a shelf, each with its place
abbrev pub placed_on : List ℕ → map.FinMap text_cmp (map.FinMap text_cmp Entry) → List (Place × Entry)
placed_on s paths = flat_map (λ p. placed s p.0 p.1) (map.entries paths)

-- the entries of all shelves, as a finite map from places
abbrev pub by_place : Nested → map.FinMap place_cmp Entry
by_place shelves = map.from_entries (flat_map (λ s. placed_on s.0 s.1) (map.entries shelves))

-- with an entry put at a shelf, a path and a version
abbrev pub put_at : Nested → List ℕ → List ℕ → List ℕ → Entry → Nested
put_at m s p v e = map.insert m s (put_under (map_at m s) p v e)

-- each path on a shelf has a version
abbrev pub EachHasVersion : Nested → Type 0
EachHasVersion m = (s p : List ℕ) (versions : map.FinMap text_cmp Entry) → get_under m s p ≡ Some versions
    → map.len versions ≡ 0 → ⊥
