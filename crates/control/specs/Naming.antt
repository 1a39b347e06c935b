-- A key that an operator names by its fingerprint or its SHA-256, to revoke it.
use Rattle.std.specs.Prelude.{ℕ, ◌≡◌, List, [], ◌∷◌, Option, Some, None, Result, Ok, Err}
use Rattle.std.specs.Borrow.{Bor}
use Rattle.keyring.specs.Named.{keys_in}
use Rattle.keyring.specs.Revoke.{only_with}
use Rattle.world.specs.Store.{Shown}
use Rattle.world.specs.World.{World}
use Rattle.world.specs.declared.registry.RegistryReply.{RegistryReply}
use Rattle.world.specs.declared.registry.RegistryReply.TheVariants.{NoKey}
use Rattle.world.specs.declared.registry.StoreFault.{StoreFault}
use Rattle.control.specs.Copying.{Step, LookedUp, OfTask, GoesThroughSteps}
use Rattle.control.specs.Noted.{IsNoted, Noted}
use Rattle.control.specs.Notices as notice
use Rattle.control.specs.Outcome.{outcome_of}
use Rattle.control.specs.Reserve.{DiskDeed, UsesRoom}
use Rattle.control.specs.Tasks.{Ordered}
use Rattle.orders.specs.declared.command.RegistryCommand.TheVariants.{KeyRevoke}
use Rattle.orders.specs.declared.outcome.Outcome.{Outcome}

-- what came of a fingerprint
pub data Naming : Type 0 where
  -- one key has it, and the registry command that revokes this key was carried out, with this result
  NamesOne : Bor (List ℕ) → Result RegistryReply StoreFault → Naming
  -- no key has it, or several have
  NamesNone : Naming
  -- the look for the key met a fault
  ReadError : StoreFault → Naming

-- the result of the whole
abbrev pub named_result : Naming → Result RegistryReply StoreFault
named_result (NamesOne key told) = told
named_result NamesNone = Ok NoKey
named_result (ReadError fault) = Err fault

-- the steps of it: the look, which only reads, and the registry command if one key was found
abbrev pub named_steps : List ℕ → Naming → List Step
named_steps f (NamesOne key told) = LookedUp f (Ok (Some key.now)) ∷ OfTask (Ordered (KeyRevoke key) told) ∷ []
named_steps f NamesNone = LookedUp f (Ok None) ∷ []
named_steps f (ReadError fault) = LookedUp f (Err fault) ∷ []

-- what is noted of it: the registry command, if one was carried out
abbrev pub named_notice : Naming → Option notice.Occasion
named_notice (NamesOne key told) = Some (notice.Ordered (KeyRevoke key) told)
named_notice NamesNone = None
named_notice (ReadError fault) = None

-- on an honest disk this was found of the keys of each world that the store stood for
abbrev pub IsFound : Shown → Shown → List ℕ → Option (List ℕ) → Type 0
IsFound old new f found = new.is_honest → (w : World) → old.stands w → found ≡ only_with (keys_in w) f

-- so it is, unless the look met a fault
abbrev pub Finds : Shown → Shown → List ℕ → Naming → Type 0
Finds old new f (NamesOne key told) = IsFound old new f (Some key.now)
Finds old new f NamesNone = IsFound old new f None
Finds old new f (ReadError fault) = Unit {0}

-- what this did to the reserve: the registry command what `UsesRoom` says, and the look nothing
abbrev pub UsesRoomNamed : Shown → Shown → List DiskDeed → List DiskDeed → Naming → Type 0
UsesRoomNamed old new deeds deeds_new (NamesOne key told) = UsesRoom old new deeds deeds_new told
UsesRoomNamed old new deeds deeds_new NamesNone = deeds_new ≡ deeds
UsesRoomNamed old new deeds deeds_new (ReadError fault) = deeds_new ≡ deeds

-- From old to new the key with this fingerprint was looked up, and revoked if it was found, with the reserve if the
-- disk was full, and this came of it, and is noted.
pub record RevokesNamed (old new : Shown) (deeds deeds_new : List DiskDeed) (f : List ℕ) (outcome : Outcome)
    (noted : Option Noted) : Type 0 where
  pub naming : Naming
  pub through : GoesThroughSteps old new (named_steps f naming)
  pub finds : Finds old new f naming
  pub tells : outcome ≡ outcome_of (named_result naming)
  pub notes : IsNoted (named_notice naming) noted
  pub room : UsesRoomNamed old new deeds deeds_new naming
