-- What happens to a store while it is copied.
use Rattle.std.specs.Prelude.{ℕ, ◌≡◌, ◌≤◌, true, List, Option, Some, None, if◌then◌else◌}
use Rattle.std.specs.FinMap as map
use Rattle.std.specs.FinSet as set
use Rattle.world.specs.declared.entry.Place.{Place}
use Rattle.world.specs.Store.{Shown}
use Rattle.world.specs.World.{World, place, place_cmp}

-- each shelf of w is in the later world, with the parent that it has in w
abbrev pub KeepsShelves : World → World → Type 0
KeepsShelves w later =
    (s : List ℕ) (parent : Option (List ℕ)) → map.get w.shelves s ≡ Some parent → map.get later.shelves s ≡ Some parent

-- the later world has the shelves of w, and its entries but for the newcomers are those of w
pub record IsSince (w later : World) (newcomers : set.FinSet place_cmp) : Type 0 where
  pub shelves : KeepsShelves w later
  pub entries : (q : Place)
      → map.get w.entries q ≡ (if set.contains newcomers q then None else map.get later.entries q)

-- one of the newcomers has this path and this version, on whichever shelf
abbrev pub IsNamed : set.FinSet place_cmp → List ℕ → List ℕ → Type 0
IsNamed newcomers p v = (s : List ℕ) × (set.contains newcomers (place s p v) ≡ true)

-- Of a world that the store stood for before the turn, a world is left that is as late as it: what was since the
-- newcomers before the turn is since those after it.
pub record NotesOne (old new : Shown) (before after : set.FinSet place_cmp) : Type 0 where
  pub was : World
  pub stood : old.stands was
  pub later : World
  pub stands : new.stands later
  pub since : (w : World) → IsSince w was before → IsSince w later after

-- if the store stood for a world, the places that were published in a turn are among the newcomers after it, if the
-- disks are honest
abbrev pub Notes : Shown → Shown → set.FinSet place_cmp → set.FinSet place_cmp → Type 0
Notes old new before after = new.is_honest → (w : World) → old.stands w → NotesOne old new before after

-- if the disks are honest, the store stands for no two worlds
abbrev pub StandsForOne : Shown → Type 0
StandsForOne shown = shown.is_honest → (w x : World) → shown.stands w → shown.stands x → w ≡ x

-- The store still stands for each world that it stood for, if a crash left one of two worlds, it still leaves one of
-- the two, and the count of failures did not fall.
pub record IsAsItWas (old new : Shown) : Type 0 where
  pub honest : new.is_honest → old.is_honest
  pub stays : new.is_honest → (w : World) → old.stands w → new.stands w
  pub left : new.is_honest → (w x y : World) → old.stands w → old.leaves x y → new.leaves x y
  pub failures : old.failures ≤ new.failures
