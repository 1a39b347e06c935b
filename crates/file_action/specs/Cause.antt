-- Why a command on the store of a file ended with `Io`.
use Rattle.std.specs.Prelude.{Bool, Result}
use Rattle.histories.specs.Calls.{Reads, Writes}
use Rattle.commands.specs.Action.{Moment}
use Rattle.commands.specs.declared.refusal.CommandRefusal.{CommandRefusal}
use Rattle.commands.specs.declared.action.Action.{Action}
use Rattle.file_action.specs.OnFile.{Deeds}

-- the calls of the input and of the output of a command, at a moment
pub record Streams : Type 0 where
  pub reads : Reads
  pub writes : Writes

-- why an action ended with `Io`, and what else is known of how it ended, by the store and all else before it and after
-- it, the calls of its streams before it and after it, the result, and the action
abbrev pub Causes : Type 0 → Type 0 → Type 1
Causes S N = Moment S N → Moment S N → Streams → Streams → Result Bool CommandRefusal → Action → Type 0

-- the causes of an action that is done on a part of a store
abbrev pub causes_within : {S T N : Type 0} → (S → T) → Causes T N → Causes S N
causes_within part causes before after streams streams_new result action = causes
    (record { store = part before.store; outside = before.outside; came = before.came; written = before.written })
    (record { store = part after.store; outside = after.outside; came = after.came; written = after.written })
    streams streams_new result action

-- If an action ended with `Io`, this is why, by these calls of its streams.
abbrev pub caused : {S N : Type 0} → Causes S N → Streams → Streams → Deeds S N
caused causes streams streams_new name before after result action =
    causes before after streams streams_new result action
