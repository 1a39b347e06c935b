-- How a command ends, by the result of the store.
use Rattle.std.specs.Prelude.{ℕ, ◌≡◌, List, codes, Result, Ok, Err}
use Rattle.store_files.specs.declared.refusal.StoreRefusal.{StoreRefusal}
use Rattle.store_files.specs.declared.refusal.StoreRefusal.TheVariants as store
use Rattle.world.specs.Store.{Shown, Does}
use Rattle.world.specs.declared.registry.RegistryReply.{RegistryReply}
use Rattle.world.specs.declared.registry.RegistryReply.TheVariants as registered
use Rattle.world.specs.declared.registry.StoreFault.{StoreFault}
use Rattle.world.specs.declared.registry.StoreFault.TheVariants as fault
use Rattle.machine.specs.Machine.{after}
use Rattle.control.specs.RegistryCommand.{event_of, outcome_in}
use Rattle.orders.specs.declared.command.RegistryCommand.{RegistryCommand}
use Rattle.keyring.specs.Revoke.{revoked_with, after_revoke_with}
use Rattle.commands.specs.declared.refusal.CommandRefusal.{CommandRefusal}
use Rattle.commands.specs.declared.refusal.CommandRefusal.TheVariants as refusal

-- the word that says why a command was refused
abbrev pub word : CommandRefusal → List ℕ
word refusal.Name = codes "name"
word refusal.Taken = codes "taken"
word refusal.NoTeam = codes "no-team"
word refusal.NoKey = codes "no-key"
word refusal.NoGroup = codes "no-group"
word refusal.Device = codes "device"
word refusal.Memory = codes "memory"
word refusal.BadSchema = codes "bad-schema"
word refusal.NotEmpty = codes "not-empty"
word refusal.Busy = codes "busy"
word refusal.Ended = codes "ended"
word refusal.NotFound = codes "not-found"
word refusal.BadRow = codes "bad-row"
word refusal.Io = codes "io"

-- how a registry command ends
abbrev pub ending : Result RegistryReply StoreFault → Result (Unit {0}) CommandRefusal
ending (Ok registered.Done) = Ok tt
ending (Ok registered.Name) = Err refusal.Name
ending (Ok registered.Taken) = Err refusal.Taken
ending (Ok registered.NoTeam) = Err refusal.NoTeam
ending (Ok registered.NoKey) = Err refusal.NoKey
ending (Ok registered.NoGroup) = Err refusal.NoGroup
ending (Err fault.Device) = Err refusal.Device
ending (Err fault.Memory) = Err refusal.Memory

-- the refusal of a command, by that of the store
abbrev pub unopened : StoreRefusal → CommandRefusal
unopened store.Device = refusal.Device
unopened store.Memory = refusal.Memory
unopened store.BadSchema = refusal.BadSchema
unopened store.NotEmpty = refusal.NotEmpty
unopened store.NoTeam = refusal.NoTeam

-- From old to new the registry command was carried out: in each world that the store stood for, it gave the machine's
-- reply and made the world after its event, or met a fault and changed nothing; and the program's command ends by that.
pub record Registers
    (old new : Shown) (order : RegistryCommand) (result : Result (Unit {0}) CommandRefusal) : Type 0 where
  pub told : Result RegistryReply StoreFault
  pub does : Does old new told (λ w. outcome_in w order) (λ w. after w (event_of order))
  pub ends : result ≡ ending told

-- From old to new the one key with this fingerprint was revoked, if there is one; and the command ends by that.
pub record RevokesNamed (old new : Shown) (fingerprint : List ℕ) (result : Result (Unit {0}) CommandRefusal)
    : Type 0 where
  pub told : Result RegistryReply StoreFault
  pub does : Does old new told (λ w. revoked_with w fingerprint) (λ w. after_revoke_with w fingerprint)
  pub ends : result ≡ ending told
