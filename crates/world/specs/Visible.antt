-- Which versions of a path, and which paths, a shelf sees.
use Rattle.std.specs.Prelude.{ℕ, ◌≡◌, List, [], ◌∷◌, ◌&&◌, if◌then◌else◌, bytes_eq, Some}
use Rattle.std.specs.FinMap as map
use Rattle.std.specs.FinSet as set
use Rattle.latest.specs.Latest.{Versions}
use Rattle.modver.specs.SemanticVersion.{IsVersion, version_text}
use Rattle.world.specs.declared.entry.Place.{Place}
use Rattle.world.specs.declared.entry.Entry.{Entry}
use Rattle.world.specs.declared.entry.Seen.{Seen}
use Rattle.world.specs.World.{World, chain, text_cmp, view}

-- ---- what a shelf sees

-- the shelf sees an entry at this version of a path
abbrev pub IsSeen : World → List ℕ → List ℕ → List ℕ → Type 0
IsSeen w s p v = (e : Seen) × (view w s p v ≡ Some e)

-- the versions of a path that a shelf sees
abbrev pub seen_versions : World → List ℕ → List ℕ → Versions
seen_versions w s p v = IsVersion v × IsSeen w s p (version_text v)

-- ---- the texts of the versions that a shelf sees

-- among these entries, the texts of the versions of a path on one shelf
abbrev pub versions_among : List ℕ → List ℕ → List (Place × Entry) → set.FinSet text_cmp
versions_among s p [] = set.empty
versions_among s p (e ∷ es) =
    if bytes_eq e.0.shelf s && bytes_eq e.0.path p then set.insert (versions_among s p es) e.0.version
    else versions_among s p es

-- the texts of the versions of a path on any of these shelves
abbrev pub versions_on : World → List (List ℕ) → List ℕ → set.FinSet text_cmp
versions_on w [] p = set.empty
versions_on w (s ∷ ss) p = set.union (versions_among s p (map.entries w.entries)) (versions_on w ss p)

-- the texts of the versions of a path that a shelf sees
abbrev pub versions_seen : World → List ℕ → List ℕ → set.FinSet text_cmp
versions_seen w s p = versions_on w (chain w s) p

-- ---- paths

-- among these entries, the paths on one shelf
abbrev pub paths_among : List ℕ → List (Place × Entry) → set.FinSet text_cmp
paths_among s [] = set.empty
paths_among s (e ∷ es) = if bytes_eq e.0.shelf s then set.insert (paths_among s es) e.0.path else paths_among s es

-- the paths on any of these shelves
abbrev pub paths_on : World → List (List ℕ) → set.FinSet text_cmp
paths_on w [] = set.empty
paths_on w (s ∷ ss) = set.union (paths_among s (map.entries w.entries)) (paths_on w ss)

-- the paths that a shelf sees
abbrev pub paths_seen : World → List ℕ → set.FinSet text_cmp
paths_seen w s = paths_on w (chain w s)
