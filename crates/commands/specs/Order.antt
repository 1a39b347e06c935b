-- Orders that a command sends to a running `serve`.
use Rattle.std.specs.Prelude.{ℕ, ◌≡◌, ◌⊎◌, if◌then◌else◌, Bool, List, codes, Option, Some, None, option_copied}
use Rattle.std.specs.Prelude.{Result, Ok, Err}
use Rattle.std.specs.Borrow.{Bor}
use Rattle.histories.specs.Calls.{Writes}
use Rattle.world.specs.World.{World, IsWorld, is_team_name}
use Rattle.machine.specs.Machine.{after}
use Rattle.keyring.specs.Revoke.{revoked_with}
use Rattle.network.specs.History.{Done, Fails, IsIdle}
use Rattle.orders.specs.declared.command.RegistryCommand.{RegistryCommand}
use Rattle.orders.specs.declared.command.RegistryCommand.TheVariants.{TeamAdd}
use Rattle.orders.specs.declared.order.Order.{Order}
use Rattle.orders.specs.declared.order.Order.TheVariants as order
use Rattle.orders.specs.Order as orders
use Rattle.orders.specs.Order.{HasLine, HasNoLine, Ordered, commanded, ordered}
use Rattle.control.specs.RegistryCommand.{event_of, outcome_in}
use Rattle.control.specs.declared.client.OrderReply.{OrderReply}
use Rattle.control.specs.declared.client.SendError.{SendError}
use Rattle.commands.specs.Connection.{Exchanges, Meets, Passed}
use Rattle.commands.specs.Ending.{ending}
use Rattle.commands.specs.SentOrder.{Ends, FailsFor, Shows, ending_of, unsaid, unsaid_command, without_text}
use Rattle.commands.specs.declared.refusal.CommandRefusal.{CommandRefusal}
use Rattle.commands.specs.declared.refusal.CommandRefusal.TheVariants.{Device, NoKey}

-- ---- what is sent

-- a word that is no name, so no group has it
abbrev pub no_name : List ℕ
no_name = codes "?"

-- the group that is sent for one: if its name breaks the rule, it may fit in no line, and `no_name` replaces it
abbrev pub group_sent : Option (List ℕ) → Option (List ℕ)
group_sent None = None
group_sent (Some group) = if is_team_name group then Some group else Some no_name

-- this order is sent for that one
abbrev pub IsSentFor : RegistryCommand → RegistryCommand → Type 0
IsSentFor (TeamAdd name group) sent =
    (other : Option (Bor (List ℕ))) × (sent ≡ TeamAdd name other)
    × (option_copied other ≡ group_sent (option_copied group))
IsSentFor order sent = sent ≡ order

-- two orders have the same outcome and the same effect in each world
abbrev pub ComeToTheSame : RegistryCommand → RegistryCommand → Type 0
ComeToTheSame one two = (w : World) → IsWorld w
    → (outcome_in w one ≡ outcome_in w two) × (after w (event_of one) ≡ after w (event_of two))

-- why a registry command is refused that no line can carry
abbrev pub unsayable : RegistryCommand → CommandRefusal
unsayable command = unsaid_command (commanded command)

-- in each world, the command ends as the order does there
abbrev pub EndsInEach : RegistryCommand → Result (Unit {0}) CommandRefusal → Type 0
EndsInEach order result = (w : World) → IsWorld w → result ≡ ending (Ok (outcome_in w order))

-- in each world, the command ends as the revocation of the key with this fingerprint does there
abbrev pub EndsNamedInEach : List ℕ → Result (Unit {0}) CommandRefusal → Type 0
EndsNamedInEach f result = (w : World) → result ≡ ending (Ok (revoked_with w f))

-- The second order is sent for the first: it has the same outcome and the same effect in each world, and if no line can
-- carry it, the command ends so in each world.
abbrev pub IsAlike : Order → Order → Type 0
IsAlike (order.Registry command) sent =
    (asked : RegistryCommand) × (sent ≡ order.Registry asked) × IsSentFor command asked × ComeToTheSame asked command
    × (HasNoLine (orders.Registry (commanded asked)) → EndsInEach command (Err (unsayable asked)))
IsAlike (order.RevokeByFingerprint f) sent =
    (sent ≡ order.RevokeByFingerprint f)
    × (HasNoLine (orders.RevokeByFingerprint f.now) → EndsNamedInEach f.now (Err NoKey))
IsAlike o sent = sent ≡ o

-- ---- what passes over a connection

-- The line of the order was sent, and what came of it decides how the command ends.
pub record EndsByReply (o : Ordered) (ended : Ends) (passed : Passed) : Type 0 where
  pub told : Result OrderReply SendError
  pub exchanges : Exchanges o passed told
  pub ends : ended ≡ ending_of o told

-- ---- what is connected to

module _ {L : Type 0} (all : L → Passed → Type 0) (before after : List (Done L)) (path : List ℕ) where
  -- The order was sent to the server of this path, and to no other, or it could not be connected to, which was tried
  -- once. Or no line can carry it, and nothing was connected to.
  abbrev pub SendsTo : Ordered → Ends → Type 0
  SendsTo o ended =
      (HasLine o
      × (Meets all before after path o (EndsByReply o ended) ⊎ (Fails before after path × (ended ≡ Err Device))))
      ⊎ (IsIdle before after × HasNoLine o × (ended ≡ Err (unsaid o)))

  -- so it was with an order that is sent for this one
  abbrev pub SendsFor : Order → Ends → Type 0
  SendsFor o ended = (sent : Order) × IsAlike o sent × SendsTo (ordered sent) ended

  -- So it was, and a text that was asked for was printed; where there is none, nothing was.
  pub record SendsThere (o : Order) (printed printed_new : Option (List ℕ)) (result : Result Bool CommandRefusal) : Type 0
    where
      pub ended : Ends
      pub sends : SendsFor o ended
      pub shows : Shows printed printed_new result ended

  -- it fails because of what came, or because the output failed
  pub record FailsThere (o : Order) (writes writes_new : Writes) (result : Result Bool CommandRefusal) : Type 0 where
    pub ended : Ends
    pub sends : SendsFor o ended
    pub fails : FailsFor writes writes_new result ended

-- a registry command was sent, and the command ends so
abbrev pub OrdersAt : {L : Type 0} → (L → Passed → Type 0) → List ℕ → List (Done L) → List (Done L) → RegistryCommand
    → Result (Unit {0}) CommandRefusal → Type 0
OrdersAt all path before after command result =
    (ended : Ends) × SendsFor all before after path (order.Registry command) ended × (result ≡ without_text ended)
