-- Revoking the key that has a fingerprint.
use Rattle.std.proofs.Common.{◌≡◌, ◌≤◌, arith, inl, inr, ℕ, List, [], ◌∷◌, true, false, Option, Some, None, Result, Ok, Err, refl}
use Rattle.std.specs.Borrow.{Bor}
use Rattle.keyring.specs.Named.{keys_in}
use Rattle.keyring.specs.Revoke.{only_with}
use Rattle.machine.specs.Machine.{after}
use Rattle.world.specs.Store.{Shown, Does, Reads}
use Rattle.world.specs.declared.registry.RegistryReply.{RegistryReply}
use Rattle.world.specs.declared.registry.RegistryReply.TheVariants.{NoKey}
use Rattle.world.specs.declared.registry.StoreFault.{StoreFault}
use Rattle.control.specs.Naming.{NamesOne, NamesNone, ReadError, RevokesNamed}
use Rattle.control.specs.RegistryCommand.{event_of, outcome_in}
use Rattle.control.specs.Noted.{IsAbout, Noted}
use Rattle.control.specs.Notices as notice
use Rattle.control.specs.Outcome.{outcome_of}
use Rattle.control.specs.Reserve.{DiskDeed, UsesRoom}
use Rattle.control.specs.Tasks.{Ordered}
use Rattle.orders.specs.declared.command.RegistryCommand.TheVariants.{KeyRevoke}
use Rattle.orders.specs.declared.outcome.Outcome.{Outcome}
use Rattle.control.proofs.ListingLemmas.{only_read}
use Rattle.control.proofs.TaskLemmas.{tasks_more, tasks_ordered, tasks_read}

module _ (old mid new : Shown) (deeds deeds_new : List DiskDeed) (f : List ℕ) where
  -- what was so of a later moment is so of an earlier one
  later_room : (told : Result RegistryReply StoreFault) → old.failures ≤ mid.failures
      → UsesRoom mid new deeds deeds_new told → UsesRoom old new deeds deeds_new told
  later_room told few room = record {
    cause = elim room.cause [
      | inl same ↦ inl same
      | inr (inl grew) ↦ inr (inl (omega (arith, few, grew)))
      | inr (inr full) ↦ inr (inr full)
    ];
    once = room.once;
    none = room.none;
    device = λ is. elim (room.device is) [
      | inl none ↦ inl none
      | inr (given, inl twice) ↦ inr (given, inl (omega (arith, few, twice)))
      | inr (given, inr full) ↦ inr (given, inr full)
    ];
  }

  -- one key was found, and then revoked
  pub one_named : (key : Bor (List ℕ)) (told : Result RegistryReply StoreFault) (outcome : Outcome)
      (noted : Option Noted)
      → Reads old mid (Ok (Some key.now)) (λ w. only_with (keys_in w) f)
      → Does mid new told (λ w. outcome_in w (KeyRevoke key)) (λ w. after w (event_of (KeyRevoke key)))
      → outcome ≡ outcome_of told → IsAbout (notice.Ordered (KeyRevoke key) told) noted
      → UsesRoom mid new deeds deeds_new told → RevokesNamed old new deeds deeds_new f outcome noted
  one_named key told outcome noted reads does tells notes room = record {
    naming = NamesOne key told;
    through = tasks_more old mid new [] true (tasks_read old mid (only_read old mid _ _ reads))
        (Ordered (KeyRevoke key) told ∷ []) false (tasks_ordered mid new (KeyRevoke key) told does);
    finds = λ h w stands. (reads.at (does.honest h) w stands).answer;
    tells = tells;
    notes = notes;
    room = later_room told (only_read old mid _ _ reads).no_fewer room;
  }

module _ (old new : Shown) (deeds : List DiskDeed) (f : List ℕ) where
  -- no key was found, or several
  pub none_named : Reads old new (Ok None) (λ w. only_with (keys_in w) f)
      → RevokesNamed old new deeds deeds f (outcome_of (Ok NoKey)) None
  none_named reads = record {
    naming = NamesNone;
    through = tasks_read old new (only_read old new _ _ reads);
    finds = λ h w stands. (reads.at h w stands).answer;
    tells = refl;
    notes = refl;
    room = refl;
  }

  -- the look met a fault
  pub unread_named : (fault : StoreFault) → Reads old new (Err fault) (λ w. only_with (keys_in w) f)
      → RevokesNamed old new deeds deeds f (outcome_of (Err fault)) None
  unread_named fault reads = record {
    naming = ReadError fault;
    through = tasks_read old new (only_read old new _ _ reads);
    finds = tt;
    tells = refl;
    notes = refl;
    room = refl;
  }
