-- How a command ends that sends an order to a running `serve`.
use Rattle.std.specs.Prelude.{ℕ, ◌≡◌, ◌⊎◌, Bool, true, false, if◌then◌else◌, List, [], Option, Some, None, Result, Ok, Err}
use Rattle.std.specs.Prelude.{IfErr}
use Rattle.histories.specs.Calls.{Writes}
use Rattle.world.specs.World.{is_key}
use Rattle.world.specs.declared.registry.RegistryReply.TheVariants as registered
use Rattle.orders.specs.Order as orders
use Rattle.orders.specs.Order.{Commanded, Ordered, Registry, RevokeByFingerprint, Copy, Catalog, Stop, Ping, ListOf}
use Rattle.orders.specs.declared.outcome.Outcome.{Outcome}
use Rattle.orders.specs.declared.outcome.Outcome.TheVariants as outcome
use Rattle.control.specs.declared.client.OrderReply.{OrderReply}
use Rattle.control.specs.declared.client.OrderReply.TheVariants as reply
use Rattle.control.specs.declared.client.SendError.{SendError}
use Rattle.control.specs.declared.client.SendError.TheVariants as untold
use Rattle.commands.specs.Ending.{ending}
use Rattle.commands.specs.Printed.{HasFailed}
use Rattle.commands.specs.Report.{Prints}
use Rattle.commands.specs.declared.refusal.CommandRefusal.{CommandRefusal}
use Rattle.commands.specs.declared.refusal.CommandRefusal.TheVariants as refusal

-- ---- an order that no line can carry

-- this refusal if the name keeps its rule, and otherwise `Name`
abbrev pub refusal_by : Bool → CommandRefusal → CommandRefusal
refusal_by keeps why = if keeps then why else refusal.Name

-- why a registry command is refused that no line can carry
abbrev pub unsaid_command : Commanded → CommandRefusal
unsaid_command (orders.TeamAdd name group) = refusal.Name
unsaid_command (orders.GroupAdd name) = refusal.Name
unsaid_command (orders.KeyAdd shelf key right) = refusal_by (is_key key) refusal.NoTeam
unsaid_command (orders.KeyRevoke key) = refusal.NoKey
unsaid_command (orders.KeysRevoke shelf) = refusal.NoTeam

-- so it is of an order; the last three have a line
abbrev pub unsaid : Ordered → CommandRefusal
unsaid (Registry command) = unsaid_command command
unsaid (RevokeByFingerprint f) = refusal.NoKey
unsaid (Copy path) = refusal.Name
unsaid (Catalog key) = refusal.NoKey
unsaid Stop = refusal.Io
unsaid Ping = refusal.Io
unsaid (ListOf listing) = refusal.Io

-- ---- what came of it

-- the outcomes that may come of an order; where a text is asked for, `done` stands behind that
abbrev pub may_have : Ordered → Outcome → Bool
may_have (Registry command) (outcome.RegistryReply reply) = true
may_have (RevokeByFingerprint f) (outcome.RegistryReply reply) = true
may_have (Copy path) (outcome.RegistryReply registered.Done) = true
may_have (Copy path) outcome.NotEmpty = true
may_have (Copy path) outcome.Busy = true
may_have (Copy path) outcome.Ended = true
may_have (Catalog key) (outcome.RegistryReply registered.NoKey) = true
may_have (Catalog key) outcome.Busy = true
may_have (Catalog key) outcome.Ended = true
may_have Stop outcome.Stopping = true
may_have o (outcome.Failed fault) = true
may_have o other = false

-- how a command ends by an outcome of its order
abbrev pub outcome_ending : Outcome → Result (Unit {0}) CommandRefusal
outcome_ending (outcome.RegistryReply reply) = ending (Ok reply)
outcome_ending (outcome.Failed fault) = ending (Err fault)
outcome_ending outcome.NotEmpty = Err refusal.NotEmpty
outcome_ending outcome.Busy = Err refusal.Busy
outcome_ending outcome.Ended = Err refusal.Ended
outcome_ending outcome.Stopping = Ok tt
outcome_ending outcome.Bad = Err refusal.Io

abbrev pub order_ending : Ordered → Outcome → Result (Unit {0}) CommandRefusal
order_ending o told = if may_have o told then outcome_ending told else Err refusal.Io

-- why a command is refused that knows nothing of what came, by why it is refused if no line can carry the order
abbrev pub untold_ending : CommandRefusal → SendError → CommandRefusal
untold_ending unsaid untold.Words = unsaid
untold_ending unsaid untold.Memory = refusal.Memory
untold_ending unsaid untold.Io = refusal.Io
untold_ending unsaid untold.NoReply = refusal.Io
untold_ending unsaid untold.ReplyMemory = refusal.Memory

-- How a command ends: with a text to print, with nothing, or refused.
abbrev pub Ends : Type 0
Ends = Result (Option (List ℕ)) CommandRefusal

-- with nothing to print, or refused
abbrev pub quiet : Result (Unit {0}) CommandRefusal → Ends
quiet (Ok u) = Ok None
quiet (Err why) = Err why

-- whether it was refused, and why
abbrev pub without_text : Ends → Result (Unit {0}) CommandRefusal
without_text (Ok text) = Ok tt
without_text (Err why) = Err why

-- how a command ends by what came of its order
abbrev pub ending_of : Ordered → Result OrderReply SendError → Ends
ending_of o (Ok (reply.Text text)) = Ok (Some text)
ending_of o (Ok (reply.Outcome told)) = quiet (order_ending o told)
ending_of o (Err why) = Err (untold_ending (unsaid o) why)

-- ---- what is printed

abbrev pub Shows : Option (List ℕ) → Option (List ℕ) → Result Bool CommandRefusal → Ends → Type 0
Shows printed printed_new result (Ok (Some text)) = Prints printed printed_new result (Ok text)
Shows printed printed_new result (Ok None) = (result ≡ Ok true) × (printed_new ≡ printed)
Shows printed printed_new result (Err why) = Prints printed printed_new result (Err why)

-- it fails as it ended, or because the output failed
abbrev pub FailsFor : Writes → Writes → Result Bool CommandRefusal → Ends → Type 0
FailsFor writes writes_new result ended = IfErr result (λ e. (ended ≡ Err e) ⊎ HasFailed writes writes_new)

-- all that was printed is flushed, or nothing was
abbrev pub IsFlushed : Writes → Writes → Type 0
IsFlushed writes writes_new = (writes_new.unflushed ≡ []) ⊎ (writes_new ≡ writes)
