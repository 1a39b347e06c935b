-- Why a command ended with `Io`, and that a key which was made and printed is no refusal.
use Rattle.std.specs.Prelude.{ℕ, List, ◌≡◌, Bool, Option, Result, Err, IfErr}
use Rattle.store_files.specs.History.{Span}
use Rattle.world.specs.Store.{Shown}
use Rattle.histories.specs.Account.{Account}
use Rattle.network.specs.History as network
use Rattle.commands.specs.Action as acting
use Rattle.commands.specs.Action.{Calls, Moment, NeverIo, PrintsKeyFor}
use Rattle.commands.specs.Connection.{Passed}
use Rattle.commands.specs.NewKey.{HasNoNewKey}
use Rattle.commands.specs.Opening.{Breaks, ServedFrom, opening}
use Rattle.commands.specs.Order.{FailsThere}
use Rattle.commands.specs.Printed.{FailsUnprinted}
use Rattle.commands.specs.declared.action.Action.{Action}
use Rattle.commands.specs.declared.refusal.CommandRefusal.{CommandRefusal}
use Rattle.commands.specs.declared.refusal.CommandRefusal.TheVariants.{Io}
use Rattle.file_action.specs.Cause.{Causes, Streams, caused}
use Rattle.file_action.specs.OnFile.{ActsOnFile, Inits}
use Rattle.runner.specs.declared.Command.{Command}
use Rattle.runner.specs.declared.Command.TheVariants as command

-- why an action ended with `Io`, if it did; and if making a key failed, nothing was printed, unless a call of the output
-- failed
abbrev pub EndsFor : {S N : Type 0} (shown : S → Shown) (before after : Moment S N) (calls calls_new : Calls)
    (result : Result Bool CommandRefusal) → Action → Type 0
EndsFor shown before after calls calls_new result action =
    acting.CauseOf shown before after calls calls_new result action
    × PrintsKeyFor action before.written after.written calls.writes calls_new.writes result

module _ {S C N : Type 0} (causes : Causes S N) (files : Span S C)
    {L : Type 0} (all : L → Passed → Type 0) (connected connected_new : List (network.Done L))
    (outside outside_new : N) (came came_new : Account) (written written_new : Option (List ℕ))
    (streams streams_new : Streams) (result : Result Bool CommandRefusal) where
  -- If a command ended with `Io`, this is why: for an action on the store of a file its own cause, if the store was
  -- opened; for answers from memory that a stream failed; for a command that a `serve` carries out what came of the
  -- order, or that a call of the output failed; for a key that is made and ordered also that there was none. A store
  -- that is not opened is no cause, and an `extract` and a `migrate` have none. A key that is made was not printed if
  -- the command failed, unless a call of the output did.
  abbrev pub CauseOf : Command → Type 0
  CauseOf (command.Init db) =
      Inits (caused causes streams streams_new) files db.now outside outside_new came came_new written written_new
      result
  CauseOf (command.AnswerInMemory team key) = IfErr result (λ e. e ≡ Io
      → Breaks (λ failure. ServedFrom (opening team.now key.now) came came_new written written_new (Err failure))
      streams.reads streams_new.reads streams.writes streams_new.writes)
  CauseOf (command.OnStore db action) =
      ActsOnFile (caused causes streams streams_new) files db.now outside outside_new came came_new written written_new
      action result
  CauseOf (command.Extract db teams to) = NeverIo result
  CauseOf (command.Migrate from to) = NeverIo result
  CauseOf (command.Send control order) =
      FailsThere all connected connected_new control.now order streams.writes streams_new.writes result
  CauseOf (command.OrderNew control shelf right) = IfErr result (λ e. e ≡ Io
      → HasNoNewKey all control.now shelf right connected connected_new streams.writes streams_new.writes)
      × FailsUnprinted written written_new streams.writes streams_new.writes result
