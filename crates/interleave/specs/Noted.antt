-- A store that notes the places of the versions that may have been published in it since a moment.
use Rattle.std.specs.Prelude.{◌≡◌, ◌⊎◌, Bool, true, false}
use Rattle.std.specs.FinSet as set
use Rattle.world.specs.declared.entry.Place.{Place}
use Rattle.world.specs.Store.{Shown}
use Rattle.world.specs.World.{World, place_cmp}
use Rattle.interleave.specs.Interleave.{IsSince}

-- This world has come of one that the store stood for at the moment: what was since the newcomers before the moment is
-- since those now.
pub record HasCome (was : World → Type 0) (before now : set.FinSet place_cmp) (later : World) : Type 0 where
  pub first : World
  pub stood : was first
  pub since : (w : World) → IsSince w first before → IsSince w later now

-- it has, unless the place of a version was lost
abbrev pub IsNoted : (lost : Bool) (was : World → Type 0) (before now : set.FinSet place_cmp) → World → Type 0
IsNoted true was before now later = Unit {0}
IsNoted false was before now later = HasCome was before now later

-- what is known of a store, and of each world that it stands for this too
abbrev pub with_said : Shown → (World → Type 0) → Shown
with_said shown said = record {
  stands = λ w. shown.stands w × said w;
  is_honest = shown.is_honest;
  leaves = shown.leaves;
  failures = shown.failures;
}

-- the place is among the newcomers now, or a place is lost
abbrev pub NotesPlace : (news news_new : set.FinSet place_cmp) (lost lost_new : Bool) → Place → Type 0
NotesPlace news news_new lost lost_new q =
    (lost_new ≡ true) ⊎ ((news_new ≡ set.insert news q) × (lost_new ≡ lost))
