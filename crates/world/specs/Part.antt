-- What a shelf sees of a world, as a world of its own.
use Rattle.std.specs.Prelude.{ℕ, ◌≡◌, List, Bool, true, false, Option, Some, None}
use Rattle.std.specs.FinMap as map
use Rattle.world.specs.declared.entry.Holder.{Holder}
use Rattle.world.specs.World.{World, IsWorld, chain, is_among, sees}

-- the shelf exists and has a parent
abbrev pub IsTeam : World → List ℕ → Type 0
IsTeam w t = (parent : List ℕ) × (map.get w.shelves t ≡ Some (Some parent))

-- whether there is a holder and its shelf is one of these
abbrev pub is_held : List (List ℕ) → Option Holder → Bool
is_held ss None = false
is_held ss (Some h) = is_among ss h.shelf

-- the shelves that a shelf sees, each with its parent, their entries, their keys with their rights, and nothing else
abbrev pub part : World → List ℕ → World
part w t = record {
  keys = map.retain_keys w.keys (λ k. is_held (chain w t) (map.get w.keys k));
  shelves = map.retain_keys w.shelves (is_among (chain w t));
  entries = map.retain_keys w.entries (λ q. is_among (chain w t) q.shelf);
}

-- What a shelf sees of a world is a world.
abbrev pub PartIsWorld : Type 0
PartIsWorld = (w : World) (t : List ℕ) → IsWorld w → IsWorld (part w t)

-- If a shelf exists, the world that it sees has exactly the shelves that it sees.
abbrev pub PartHasTheChain : Type 0
PartHasTheChain = (w : World) (t s : List ℕ) → IsWorld w → map.contains_key w.shelves t ≡ true
    → map.contains_key (part w t).shelves s ≡ sees w t s
