-- What is read of a store that is served: copies, counts of its versions, lists, and keys by fingerprints.
use Rattle.std.specs.Prelude.{ℕ, ◌≡◌, ◌≤◌, Bool, true, false, List, [], ◌∷◌, All, Option, Result, Ok, Err, IsErrOf}
use Rattle.keyring.specs.Named.{keys_in}
use Rattle.keyring.specs.Revoke.{only_with}
use Rattle.world.specs.World.{World}
use Rattle.world.specs.Store.{Shown}
use Rattle.world.specs.declared.registry.StoreFault.{StoreFault}
use Rattle.control.specs.Listing.{IsList}
use Rattle.control.specs.Tasks.{Task, GoesThroughTasks, messages, world_at}
use Rattle.control.specs.declared.copies.CatalogRefusal.{CatalogRefusal}
use Rattle.control.specs.declared.copies.CatalogRefusal.TheVariants as catalog
use Rattle.control.specs.declared.copies.CopyRefusal.{CopyRefusal}
use Rattle.control.specs.declared.copies.CopyRefusal.TheVariants as copy
use Rattle.control.specs.declared.health.Health.{Health}
use Rattle.orders.specs.declared.listing.Listing.{Listing}

-- A store was only read: it stands for the worlds that it stood for, and a crash leaves nothing that it did not leave
-- before.
pub record IsOnlyRead (old new : Shown) : Type 0 where
  pub honest : new.is_honest → old.is_honest
  pub stays : new.is_honest → (w : World) → old.stands w → new.stands w
  pub left : new.is_honest → (w x y : World) → old.stands w → old.leaves x y → new.leaves x y
  pub no_fewer : old.failures ≤ new.failures

-- what was made of a store while others were served, or why it was not: a copy to a path, or the catalog of a key, of
-- which these lines were printed
pub data Making : Type 0 where
  ToPath : List ℕ → Result (Unit {0}) CopyRefusal → Making
  OfKey : List ℕ → List ℕ → Result (Unit {0}) CatalogRefusal → Making

-- it was not begun, since another one is being made
abbrev pub IsBusy : Making → Type 0
IsBusy (ToPath path told) = IsErrOf told copy.Busy
IsBusy (OfKey key printed told) = IsErrOf told catalog.Busy

-- it was begun, and ended before all of it was made
abbrev pub IsEnded : Making → Type 0
IsEnded (ToPath path told) = IsErrOf told copy.Ended
IsEnded (OfKey key printed told) = IsErrOf told catalog.Ended

-- it was begun, and ended early only for this cause
pub record IsBegun (cause : Type 0) (making : Making) : Type 0 where
  pub begun : ¬ IsBusy making
  pub ended : IsEnded making → cause

-- what happened to a store that is served: a task of the machine; or something that was made of it, a ping, a list, or
-- a look for the key with a fingerprint, which is none
pub data Step : Type 0 where
  OfTask : Task → Step
  Made : Making → Step
  Counted : Result Health StoreFault → Step
  Listed : Listing → Result (List ℕ) StoreFault → Step
  LookedUp : List ℕ → Result (Option (List ℕ)) StoreFault → Step

-- the tasks among them
abbrev pub tasks_in : List Step → List Task
tasks_in [] = []
tasks_in (OfTask t ∷ steps) = t ∷ tasks_in steps
tasks_in (Made making ∷ steps) = tasks_in steps
tasks_in (Counted told ∷ steps) = tasks_in steps
tasks_in (Listed listing told ∷ steps) = tasks_in steps
tasks_in (LookedUp f found ∷ steps) = tasks_in steps

-- whether the store was read in one of them
abbrev pub has_read : List Step → Bool
has_read [] = false
has_read (OfTask t ∷ steps) = has_read steps
has_read (Made making ∷ steps) = true
has_read (Counted told ∷ steps) = true
has_read (Listed listing told ∷ steps) = true
has_read (LookedUp f found ∷ steps) = true

-- a ping was told that the server began at this time
abbrev pub TellsSince : List ℕ → Step → Type 0
TellsSince since (Counted (Ok health)) = health.tally.since ≡ since
TellsSince since other = Unit {0}

-- from old to new the store went through the tasks among the steps, and was read if one of them reads it
abbrev pub GoesThroughSteps : Shown → Shown → List Step → Type 0
GoesThroughSteps old new steps = GoesThroughTasks old new (tasks_in steps) (has_read steps)

module _ {S : Type 0} (shown : S → Shown) (made : S → S → Making → Type 0)
    (counted : S → S → ℕ → Type 0) where
  -- it was made of a store that stood for this world, and this came of it
  pub record IsMade (w : World) (making : Making) : Type 0 where
    pub source : S
    pub source_new : S
    pub honest : (shown source_new).is_honest
    pub stands : (shown source).stands w
    pub came : made source source_new making

  -- a ping was told the failures of a store that stood for this world, and versions that were counted in it
  pub record IsCounted (w : World) (health : Health) : Type 0 where
    pub source : S
    pub source_new : S
    pub honest : (shown source_new).is_honest
    pub stands : (shown source).stands w
    pub failures_now : health.store_failures ≡ (shown source_new).failures
    pub came : counted source source_new health.versions

  -- so it is of all that was made, each ping, each list and each look for a key, with the machine's world at its moment
  abbrev pub AllRead : World → List Step → Type 0
  AllRead w [] = Unit {0}
  AllRead w (OfTask t ∷ steps) = AllRead (world_at w (t ∷ [])) steps
  AllRead w (Made making ∷ steps) = IsMade w making × AllRead w steps
  AllRead w (Counted (Ok health) ∷ steps) = IsCounted w health × AllRead w steps
  AllRead w (Counted (Err fault) ∷ steps) = AllRead w steps
  AllRead w (Listed listing (Ok text) ∷ steps) = IsList listing w text × AllRead w steps
  AllRead w (Listed listing (Err fault) ∷ steps) = AllRead w steps
  AllRead w (LookedUp f (Ok found) ∷ steps) = (found ≡ only_with (keys_in w) f) × AllRead w steps
  AllRead w (LookedUp f (Err fault) ∷ steps) = AllRead w steps

  -- The store went through these steps, with so many messages at most, and each ping was told that the server began at
  -- this time.
  pub record GoesOnRead (old new : S) (since : List ℕ) (most : ℕ) : Type 0 where
    pub steps : List Step
    pub few : messages (tasks_in steps) ≤ most
    pub through : GoesThroughSteps (shown old) (shown new) steps
    pub reads : (shown new).is_honest → (w : World) → (shown old).stands w → AllRead w steps
    pub begun : All (TellsSince since) steps
