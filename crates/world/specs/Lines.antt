-- The members of a set in its order, and texts as lines.
use Rattle.std.specs.Prelude.{ℕ, List, [], ◌∷◌, ◌++◌}
use Rattle.std.specs.FinMap as map
use Rattle.std.specs.FinSet as set
use Rattle.std.specs.declared.cmp.Ordering.{Ordering}

-- the members as entries without values
abbrev pub bare : {K : Type 0} → List K → List (K × Unit {0})
bare [] = []
bare (k ∷ ks) = (k, tt) ∷ bare ks

-- the members of a set, each once, in the order of the set
unfoldable pub in_order : {K : Type 0} {R : K → K → Ordering} → set.FinSet R → List K
in_order {R = R} s = map.keys (map.from_entries {R = R} (bare (set.items s)))

-- each member stands in this relation to the next
abbrev pub EachToNext : {A : Type 0} → (A → A → Type 0) → List A → Type 0
EachToNext R [] = Unit {0}
EachToNext R (x ∷ []) = Unit {0}
EachToNext R (x ∷ y ∷ ys) = R x y × EachToNext R (y ∷ ys)

-- the texts one after another, each ended by a newline
abbrev pub lines_of : List (List ℕ) → List ℕ
lines_of [] = []
lines_of (t ∷ ts) = t ++ (10 ∷ lines_of ts)
