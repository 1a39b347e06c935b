-- A command with `--control`, and the `serve` that gets its line.
use Rattle.std.specs.Prelude.{ℕ, ◌≡◌, ◌⊎◌, List, [], Option, Result, Ok, Err}
use Rattle.world.specs.Store.{Shown}
use Rattle.world.specs.World.{World}
use Rattle.world.specs.declared.registry.StoreFault.{StoreFault}
use Rattle.machine.specs.Machine.{after}
use Rattle.keyring.specs.Revoke.{after_revoke_with, revoked_with}
use Rattle.control.specs.Copying.{Making}
use Rattle.control.specs.Hearing.{Handles, Heard}
use Rattle.control.specs.Noted.{Noted}
use Rattle.control.specs.RegistryCommand.{event_of, outcome_in}
use Rattle.control.specs.declared.health.Health.{Health}
use Rattle.orders.specs.declared.command.RegistryCommand.{RegistryCommand}
use Rattle.orders.specs.Order as orders
use Rattle.orders.specs.Order.{commanded}
use Rattle.orders.specs.declared.outcome.Outcome.{Outcome}
use Rattle.control.specs.declared.client.OrderReply.TheVariants as reply
use Rattle.control.specs.declared.control_reply.ControlReply.TheVariants as spoken
use Rattle.commands.specs.Connection.{Exchanges, Passed}
use Rattle.commands.specs.Ending.{ending}
use Rattle.commands.specs.Order.{ComeToTheSame}
use Rattle.commands.specs.SentOrder.{Ends, ending_of, quiet}

-- The command sent the line of an order with the same effect, the server did what that orders, and its outcome came.
pub record AreConnected (made : Making → Type 0)
    (pinged : Result Health StoreFault → Type 0) (idle : Option Heard → Type 0) (meanwhile : Making → Type 0)
    (old new : Shown) (order : RegistryCommand) (ended : Ends) : Type 0 where
  pub asked : RegistryCommand
  pub same : ComeToTheSame asked order
  pub passed : Passed
  pub told : Outcome
  pub exchanges : Exchanges (orders.Registry (commanded asked)) passed (Ok (reply.Outcome told))
  pub ends : ended ≡ ending_of (orders.Registry (commanded asked)) (Ok (reply.Outcome told))
  pub noted : Option Noted
  pub server : Handles made pinged idle meanwhile old new passed.sent [] (spoken.Outcome told) noted

-- The command ends by the machine's reply to the order in this world, and the store stands for the world after it. Or
-- it ends by a fault of the store, which still stands for this world.
abbrev pub EndsAt : Shown → World → RegistryCommand → Ends → Type 0
EndsAt new w order ended =
    ((ended ≡ quiet (ending (Ok (outcome_in w order)))) × new.stands (after w (event_of order)))
    ⊎ ((fault : StoreFault) × (ended ≡ quiet (ending (Err fault))) × new.stands w)

-- On an honest disk, the command ends so in each world that the store stood for.
abbrev pub EndsAsOnTheStore :
    (Making → Type 0) → (Result Health StoreFault → Type 0)
    → (idle : Option Heard → Type 0) (meanwhile : Making → Type 0) → Shown → Shown → Type 0
EndsAsOnTheStore made pinged idle meanwhile old new =
    (order : RegistryCommand) (ended : Ends) (w : World)
    → AreConnected made pinged idle meanwhile old new order ended → new.is_honest → old.stands w
    → EndsAt new w order ended

-- ---- a key that is named by its fingerprint

-- The command sent its line, the server did what that orders, and its outcome came.
pub record AreConnectedToRevoke
    (made : Making → Type 0) (pinged : Result Health StoreFault → Type 0)
    (idle : Option Heard → Type 0) (meanwhile : Making → Type 0) (old new : Shown) (f : List ℕ) (ended : Ends) : Type 0 where
  pub passed : Passed
  pub told : Outcome
  pub exchanges : Exchanges (orders.RevokeByFingerprint f) passed (Ok (reply.Outcome told))
  pub ends : ended ≡ ending_of (orders.RevokeByFingerprint f) (Ok (reply.Outcome told))
  pub noted : Option Noted
  pub server : Handles made pinged idle meanwhile old new passed.sent [] (spoken.Outcome told) noted

-- The command ends by the outcome of revoking the key that has this fingerprint in this world, and the store stands for
-- the world after that. Or it ends by a fault of the store, which still stands for this world.
abbrev pub RevokesAt : Shown → World → List ℕ → Ends → Type 0
RevokesAt new w f ended =
    ((ended ≡ quiet (ending (Ok (revoked_with w f)))) × new.stands (after_revoke_with w f))
    ⊎ ((fault : StoreFault) × (ended ≡ quiet (ending (Err fault))) × new.stands w)

-- On an honest disk, the command ends so in each world that the store stood for.
abbrev pub RevokesAsOnTheStore :
    (Making → Type 0) → (Result Health StoreFault → Type 0)
    → (idle : Option Heard → Type 0) (meanwhile : Making → Type 0) → Shown → Shown → Type 0
RevokesAsOnTheStore made pinged idle meanwhile old new =
    (f : List ℕ) (ended : Ends) (w : World)
    → AreConnectedToRevoke made pinged idle meanwhile old new f ended → new.is_honest → old.stands w
    → RevokesAt new w f ended
