-- The finite maps that ordered maps stand for.
use Rattle.std.specs.Prelude.{ℕ, List, [], ◌∷◌, String, map as each, string_bytes, unwrap_or, Option, option_and_then}
use Rattle.std.specs.FinMap as map
use Rattle.std.specs.FinSet as set
use Rattle.world.specs.World.{text_cmp}

-- the entries of an ordered map, as a finite map from the bytes of the texts
abbrev pub by_text : {Y X : Type 0} → List (String Y × X) → map.FinMap text_cmp X
by_text es = map.from_entries (each (λ e. (string_bytes e.0, e.1)) es)

-- the texts of an ordered set, as a finite set of their bytes
abbrev pub texts : {Y : Type 0} → List (String Y) → set.FinSet text_cmp
texts ks = set.from_list (each string_bytes ks)

-- the set with these texts added
abbrev pub with_texts : set.FinSet text_cmp → List (List ℕ) → set.FinSet text_cmp
with_texts s [] = s
with_texts s (t ∷ ts) = with_texts (set.insert s t) ts

-- the value at the second text of the map at the first one, if there is one
abbrev pub get_under : {X : Type 0} → map.FinMap text_cmp (map.FinMap text_cmp X) → List ℕ → List ℕ → Option X
get_under m t u = option_and_then (λ i. map.get i u) (map.get m t)

-- the map at a text, or the empty map if there is none
abbrev pub map_at : {X : Type 0} → map.FinMap text_cmp (map.FinMap text_cmp X) → List ℕ → map.FinMap text_cmp X
map_at m t = unwrap_or (map.get m t) map.empty

-- with a value put at the second text into the map at the first one
abbrev pub put_under : {X : Type 0} → map.FinMap text_cmp (map.FinMap text_cmp X)
    → List ℕ → List ℕ → X → map.FinMap text_cmp (map.FinMap text_cmp X)
put_under m t u x = map.insert m t (map.insert (map_at m t) u x)
