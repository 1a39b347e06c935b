-- A command with `--control`, and the `serve` that gets its line.
use Rattle.std.proofs.Common.{◌≡◌, ℕ, List, [], Bool, true, Option, Result, Ok, Err, refl, ◌∙◌, sym, ap}
use Rattle.std.proofs.Common.{subst, inl, inr, true≢false, false}
use Rattle.world.specs.Store.{Shown}
use Rattle.world.specs.World.{World, IsWorld}
use Rattle.world.specs.declared.registry.RegistryReply.{RegistryReply}
use Rattle.world.specs.declared.registry.RegistryReply.TheVariants.{Done}
use Rattle.world.specs.declared.registry.StoreFault.{StoreFault}
use Rattle.machine.specs.Machine.{after, reply_to}
use Rattle.machine.specs.declared.request.Event.{Event}
use Rattle.machine.specs.declared.request.Event.TheVariants as event
use Rattle.machine.specs.declared.reply.Reply.{Reply}
use Rattle.machine.specs.declared.reply.Reply.TheVariants.{Registry}
use Rattle.control.specs.Copying.{Making, OfKey, ToPath, GoesThroughSteps}
use Rattle.control.specs.Hearing.{Heard, Carried, Made, Listed, Pinged, Named, Stop, NoOrder, NoMemory}
use Rattle.control.specs.Hearing.{GoesAs, IsHeardIn, steps_heard}
use Rattle.control.specs.Hearing.{told_heard}
use Rattle.control.specs.RegistryCommand.{event_of, outcome_in}
use Rattle.control.specs.Outcome.{outcome_of}
use Rattle.orders.specs.Order as orders
use Rattle.orders.specs.Order.{Commanded, Ordered, IsLineOf, commanded}
use Rattle.control.specs.declared.health.Health.{Health}
use Rattle.orders.specs.declared.outcome.Outcome.{Outcome}
use Rattle.orders.specs.declared.outcome.Outcome.TheVariants as outcome
use Rattle.control.specs.declared.client.OrderReply.TheVariants as reply
use Rattle.control.specs.declared.control_reply.ControlReply.{ControlReply}
use Rattle.control.specs.declared.control_reply.ControlReply.TheVariants as spoken
use Rattle.orders.specs.declared.command.RegistryCommand.{RegistryCommand}
use Rattle.orders.specs.declared.command.RegistryCommand.TheVariants.{TeamAdd, GroupAdd, KeyAdd}
use Rattle.orders.specs.declared.command.RegistryCommand.TheVariants.{KeyRevoke, KeysRevoke}
use Rattle.orders.proofs.OrderLemmas.{one_order}
use Rattle.commands.specs.Controlled.{EndsAt, EndsAsOnTheStore}
use Rattle.commands.specs.Ending.{ending}
use Rattle.commands.specs.Order.{ComeToTheSame}
use Rattle.commands.specs.SentOrder.{Ends, ending_of, quiet}

-- ---- a line that orders a registry command orders nothing else

abbrev is_registry : Ordered → Bool
is_registry (orders.Registry command) = true
is_registry other = false

-- a line orders a registry command, or none
alone : (sent : List ℕ) (command : Commanded) (o : Ordered) → IsLineOf sent (orders.Registry command)
    → IsLineOf sent o → true ≡ is_registry o
alone sent command o is is_too = ap is_registry (one_order sent (orders.Registry command) o is is_too)

-- ---- one order

abbrev event_commanded : Commanded → Event
event_commanded (orders.TeamAdd name group) = event.TeamAdd name group
event_commanded (orders.GroupAdd name) = event.GroupAdd name
event_commanded (orders.KeyAdd shelf key right) = event.KeyAdd shelf key right
event_commanded (orders.KeyRevoke key) = event.KeyRevoke key
event_commanded (orders.KeysRevoke shelf) = event.KeysRevoke shelf

same_as : (command : RegistryCommand) → event_commanded (commanded command) ≡ event_of command
same_as (TeamAdd name group) = refl
same_as (GroupAdd name) = refl
same_as (KeyAdd shelf key right) = refl
same_as (KeyRevoke key) = refl
same_as (KeysRevoke shelf) = refl

-- the event of an order that is a registry command, and otherwise any
abbrev event_ordered : Ordered → Event
event_ordered (orders.Registry command) = event_commanded command
event_ordered other = event.GroupAdd []

-- a line orders one event
same_event : (got : List ℕ) (one two : RegistryCommand) → IsLineOf got (orders.Registry (commanded one))
    → IsLineOf got (orders.Registry (commanded two)) → event_of one ≡ event_of two
same_event got one two first second =
    sym (same_as one)
    ∙ (ap event_ordered
    (one_order got (orders.Registry (commanded one)) (orders.Registry (commanded two)) first second)
    ∙ same_as two)

abbrev pub registered_in : Reply → RegistryReply
registered_in (Registry r) = r
registered_in reply = Done

pub replied : (w : World) (o : RegistryCommand) → registered_in (reply_to w (event_of o)) ≡ outcome_in w o
replied w (TeamAdd name group) = refl
replied w (GroupAdd name) = refl
replied w (KeyAdd shelf key right) = refl
replied w (KeyRevoke key) = refl
replied w (KeysRevoke shelf) = refl

abbrev pub outcome_in_told : ControlReply → Outcome
outcome_in_told (spoken.Outcome outcome) = outcome
outcome_in_told (spoken.Health line) = outcome.Bad
outcome_in_told (spoken.List lines) = outcome.Bad

module _ (idle : Option Heard → Type 0) (meanwhile : Making → Type 0) (old new : Shown) (sent : List ℕ) (order asked : RegistryCommand)
    (ended : Ends) (w : World) where
  carried : new.is_honest → old.stands w → IsWorld w → ComeToTheSame asked order
      → IsLineOf sent (orders.Registry (commanded asked))
      → (other : RegistryCommand) → IsLineOf sent (orders.Registry (commanded other))
      → (told : Result RegistryReply StoreFault)
      → ended ≡ ending_of (orders.Registry (commanded asked)) (Ok (reply.Outcome (outcome_of told)))
      → GoesThroughSteps old new (steps_heard (Carried other told)) → EndsAt new w order ended
  carried honest stands is same asks other heard (Ok r) ends through =
      let run = through.runs.at honest w stands in
      let event = same_event sent asked other asks heard in
      let outcome = ap registered_in (run.run.0 ∙ ap (reply_to w) (sym event)) ∙ replied w asked ∙ (same w is).0 in
      inl (
        ends ∙ ap (λ r. quiet (ending (Ok r))) outcome,
        subst new.stands (ap (after w) (sym event) ∙ (same w is).1) run.ends,
      )
  carried honest stands is same asks other heard (Err fault) ends through =
      inr (fault, ends, (through.runs.at honest w stands).ends)

  heard_so : new.is_honest → old.stands w → IsWorld w → ComeToTheSame asked order
      → IsLineOf sent (orders.Registry (commanded asked))
      → (heard : Heard) → IsHeardIn sent heard
      → (outcome : Outcome) → spoken.Outcome outcome ≡ told_heard heard
      → ended ≡ ending_of (orders.Registry (commanded asked)) (Ok (reply.Outcome outcome))
      → GoesAs idle meanwhile old new heard
      → EndsAt new w order ended
  heard_so honest stands is same asks (Carried other told) from outcome tells ends through =
      carried honest stands is same asks other from told
      (ends ∙ ap (λ o. ending_of (orders.Registry (commanded asked)) (Ok (reply.Outcome o))) (ap outcome_in_told tells))
      through.1
  heard_so honest stands is same asks (Made (ToPath path told)) from outcome tells ends through =
      absurd (true≢false (alone sent (commanded asked) (orders.Copy path) asks from))
  heard_so honest stands is same asks (Made (OfKey key printed told)) from outcome tells ends through =
      absurd (true≢false (alone sent (commanded asked) (orders.Catalog key) asks from))
  heard_so honest stands is same asks (Pinged told) from outcome tells ends through =
      absurd (true≢false (alone sent (commanded asked) orders.Ping asks from))
  heard_so honest stands is same asks (Listed listing told) from outcome tells ends through =
      absurd (true≢false (alone sent (commanded asked) (orders.ListOf listing) asks from))
  heard_so honest stands is same asks (Named f naming) from outcome tells ends through =
      absurd (true≢false (alone sent (commanded asked) (orders.RevokeByFingerprint f) asks from))
  heard_so honest stands is same asks Stop from outcome tells ends through =
      absurd (true≢false (alone sent (commanded asked) orders.Stop asks from))
  heard_so honest stands is same asks NoOrder from outcome tells ends through =
      absurd (from (orders.Registry (commanded asked)) asks)
  heard_so honest stands is same asks NoMemory from outcome tells ends through = absurd from

pub ends_as_on_the_store : (made : Making → Type 0)
    (pinged : Result Health StoreFault → Type 0) (idle : Option Heard → Type 0) (meanwhile : Making → Type 0) (old new : Shown)
    → ((w : World) → old.stands w → IsWorld w) → EndsAsOnTheStore made pinged idle meanwhile old new
ends_as_on_the_store made pinged idle meanwhile old new sound order ended w two honest stands =
    heard_so idle meanwhile old new two.passed.sent order two.asked ended w honest stands (sound w stands) two.same
    two.exchanges.0 two.server.heard two.server.from.0 two.told two.server.tells two.ends two.server.through
