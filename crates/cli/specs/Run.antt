-- What one run of the program does.
use Rattle.std.specs.Prelude.{ℕ, List, [], ◌∷◌, ◌≡◌, ◌==◌, ◌⊎◌, ◌++◌, codes, Bool, true, false, Option, Result, Err}
use Rattle.std.specs.Prelude.{MatchResult}
use Rattle.std.specs.declared.io.ErrorKind.{ErrorKind as IoErrorKind}
use Rattle.std.specs.declared.io.ErrorKind.TheVariants as io
use Rattle.histories.specs.Account.{Account}
use Rattle.histories.specs.Calls.{Writes}
use Rattle.clap.specs.declared.error.kind.ErrorKind.{ErrorKind}
use Rattle.clap.specs.declared.error.kind.ErrorKind.TheVariants.{DisplayHelp, DisplayVersion, OutOfMemory}
use Rattle.commands.specs.declared.refusal.CommandRefusal.{CommandRefusal}
use Rattle.commands.specs.declared.refusal.CommandRefusal.TheVariants.{Io, Memory, NotEmpty}
use Rattle.commands.specs.Exit.{exit_of, status_of, IsSilent, Says}
use Rattle.commands.specs.Printed.{HasFailed, PrintsUnlessFailed}
use Rattle.commands.specs.declared.action.Action.TheVariants.{AddNew, Import, Publish, Register}
use Rattle.commands.specs.declared.action.Action.TheVariants.{RevokeByFingerprint, Serve}
use Rattle.commands.specs.declared.exit.Exit.{Exit}
use Rattle.commands.specs.declared.exit.Exit.TheVariants.{Done, Refused, BadUsage}
use Rattle.file_action.specs.Cause.{Streams}
use Rattle.file_action.specs.OnFile.{FlushesAll}
use Rattle.orders.specs.declared.order.Order.TheVariants.{Copy}
use Rattle.runner.specs.declared.Command.{Command}
use Rattle.runner.specs.declared.Command.TheVariants.{Send, Extract, Migrate, OnStore}
use Rattle.cli.specs.Asks.{Asks, IsShownFor}

-- the calls to an output, before and after
module _ (calls calls_new : Writes) where
  -- no call failed, or the first that did ended the function
  abbrev pub FailsAtOnce : {T E : Type 0} → Result T E → Type 0
  FailsAtOnce result = MatchResult result (λ _. calls_new.failed ≡ calls.failed) (λ _. HasFailed calls calls_new)

  -- How a run ends that prints the parser's text there: well once no call failed and what was printed is flushed, or
  -- with `Io` because one failed.
  abbrev pub EndsPrinted : Exit → Type 0
  EndsPrinted Done = (calls_new.failed ≡ calls.failed) × (calls_new.unflushed ≡ [])
  EndsPrinted (Refused Io) = HasFailed calls calls_new
  EndsPrinted other = ⊥

  -- How a run ends that shows the parser's text in place of a command, by the text's kind: as one that prints it for
  -- help and the version; with `Memory` if memory ran out; and with bad usage for every other text.
  abbrev pub EndsShown : ErrorKind → Exit → Type 0
  EndsShown DisplayHelp ended = EndsPrinted ended
  EndsShown DisplayVersion ended = EndsPrinted ended
  EndsShown OutOfMemory ended = ended ≡ Refused Memory
  EndsShown other ended = ended ≡ BadUsage

-- only help and the version are shown on the output
abbrev pub SparesOutput : ErrorKind → Option (List ℕ) → Option (List ℕ) → Type 0
SparesOutput DisplayHelp written written_new = Unit {0}
SparesOutput DisplayVersion written written_new = Unit {0}
SparesOutput other written written_new = written_new ≡ written

-- What running a command does: relates the runner before and after, what came on the input before and after, the bytes
-- on the output before and after, the result, and the command.
abbrev pub Ran : Type 0 → Type 1
Ran P = P → P → Account → Account → Option (List ℕ) → Option (List ℕ) → Result Bool CommandRefusal → Command → Type 0

-- Why a command ended with `Io`: by the same, and the calls of its streams before and after.
abbrev pub RunCauses : Type 0 → Type 1
RunCauses P = P → P → Account → Account → Option (List ℕ) → Option (List ℕ) → Streams → Streams
    → Result Bool CommandRefusal → Command → Type 0

-- what a runner says when it is asked: whether the store of this name is new, whether a log stands alone at this name,
-- and whether a person may see the errors
pub record Sayings (P : Type 0) : Type 1 where
  pub new : P → List ℕ → Bool → Type 0
  pub lone_log : P → List ℕ → Bool → Type 0
  pub watched : P → Bool → Type 0

-- what the lines about a new store begin with
abbrev pub new_store : List ℕ
new_store = codes "new store: the file of --db is missing or empty"

-- what the line for a store that is served goes on with, and that for a store that is written to
abbrev pub without_key : List ℕ
without_key = codes "; without a key, each request gets a 404\n"

abbrev pub line_end : List ℕ
line_end = codes "\n"

-- the path begins with a slash
abbrev pub is_absolute : List ℕ → Bool
is_absolute [] = false
is_absolute (b ∷ bs) = b == 47

-- the line that says that a log stands where no store is, at the name of a new one
abbrev pub lone_log_line : List ℕ → List ℕ
lone_log_line to = to ++ codes "-wal is a log without its store: move it away, or name another file\n"

-- A line was written to the errors if this is so, and otherwise nothing.
abbrev pub TellsIf : Bool → Option (List ℕ) × Writes → Option (List ℕ) × Writes → List ℕ → Type 0
TellsIf true errors errors_new line = PrintsUnlessFailed errors errors_new line
TellsIf false errors errors_new line = errors_new ≡ errors

-- What is written to the errors beside the line of a refusal: by what the runner says, which is as it is here.
module _ {P : Type 0} (says : Sayings P) (runner : P) (errors errors_new : Option (List ℕ) × Writes) where
  -- the line was written if the store is new
  abbrev pub TellsNew : List ℕ → List ℕ → Type 0
  TellsNew db line = (is_new : Bool) × says.new runner db is_new × TellsIf is_new errors errors_new line

  -- the line was written if a log stands alone at this name
  abbrev pub TellsLoneLog : List ℕ → Type 0
  TellsLoneLog to =
      (is_there : Bool) × says.lone_log runner to is_there × TellsIf is_there errors errors_new (lone_log_line to)

  -- if a person sees the errors, the line was written if the store is new
  abbrev pub TellsNewIf : Bool → List ℕ → Type 0
  TellsNewIf true db = TellsNew db (new_store ++ line_end)
  TellsNewIf false db = errors_new ≡ errors

  abbrev pub TellsNewFile : List ℕ → Type 0
  TellsNewFile db = (is_watched : Bool) × says.watched runner is_watched × TellsNewIf is_watched db

  -- Before a command that serves a store or writes to it, the line that its store is new was written where it is to be.
  -- Otherwise nothing was.
  abbrev pub Warns : Command → Type 0
  Warns (OnStore db (Serve entrance connections control)) = TellsNew db.now (new_store ++ without_key)
  Warns (OnStore db (Register command)) = TellsNewFile db.now
  Warns (OnStore db (AddNew shelf right)) = TellsNewFile db.now
  Warns (OnStore db (RevokeByFingerprint fingerprint)) = TellsNewFile db.now
  Warns (OnStore db (Publish words files)) = TellsNewFile db.now
  Warns (OnStore db (Import key list)) = TellsNewFile db.now
  Warns other = errors_new ≡ errors

  -- the same for a copy, if its path is absolute; nothing was written of another path, which another process reads
  abbrev pub TellsOfCopy : Bool → List ℕ → Type 0
  TellsOfCopy true to = TellsLoneLog to
  TellsOfCopy false to = errors_new ≡ errors

  -- After a command that was refused because its new store is not empty, the line was written if a log stands alone at
  -- its name; for a copy only if that is absolute. Otherwise nothing was written.
  abbrev pub Explains : Command → Result Bool CommandRefusal → Type 0
  Explains (Extract db teams to) (Err NotEmpty) = TellsLoneLog to.now
  Explains (Migrate from to) (Err NotEmpty) = TellsLoneLog to.now
  Explains (Send control (Copy to)) (Err NotEmpty) = TellsOfCopy (is_absolute to.now) to.now
  Explains command told = errors_new ≡ errors

-- `words` are the words after the name of the program
module _ {P : Type 0} (ran : Ran P) (causes : RunCauses P) (sayings : Sayings P) (words : List (List ℕ)) (old new : P)
    (came came_new : Account) (written written_new : Option (List ℕ)) (streams streams_new : Streams) where
  -- The command that the words ask for was run, once, and the run ends by its result. If that is no refusal, all that
  -- was printed is flushed. If it is `Io`, there is a cause.
  pub record RunsCommand (errors errors_new : Option (List ℕ) × Writes) (ended : Exit) : Type 0 where
    pub command : Command
    pub asks : Asks words command
    pub told : Result Bool CommandRefusal
    pub errors_warned : Option (List ℕ) × Writes
    pub warns : Warns sayings old errors errors_warned command
    pub explains : Explains sayings new errors_warned errors_new command told
    pub runs : ran old new came came_new written written_new told command
    pub flushes : FlushesAll streams.writes streams_new.writes told
    pub cause : causes old new came came_new written written_new streams streams_new told command
    pub ends : ended ≡ exit_of told

  -- No command was run, because the words ask for none or memory ran out. The text of that was to be shown, and nothing
  -- was read.
  pub record ShowsText (errors errors_new : Option (List ℕ) × Writes) (ended : Exit) : Type 0 where
    pub kind : ErrorKind
    pub why : IsShownFor words kind
    pub ends : EndsShown streams.writes streams_new.writes kind ended
    pub idle : new ≡ old
    pub input : came_new ≡ came
    pub output : SparesOutput kind written written_new
    pub silent : IsSilent errors errors_new ended

  -- a command was run, or the parser's text was shown
  abbrev pub RunsOrShows : Option (List ℕ) × Writes → Option (List ℕ) × Writes → Exit → Type 0
  RunsOrShows errors errors_new ended = RunsCommand errors errors_new ended ⊎ ShowsText errors errors_new ended

  -- The program ran, and its exit status and the line on the errors say how the run ended.
  pub record Exits (errors errors_new : Option (List ℕ) × Writes) (status : ℕ) : Type 0 where
    pub ended : Exit
    pub errors_run : Option (List ℕ) × Writes
    pub runs : RunsOrShows errors errors_run ended
    pub says : Says errors_run errors_new ended
    pub tells : status ≡ status_of ended

-- How a run ends whose words could not be read, by an error of this kind: with `Memory` if memory ran out, and
-- otherwise with bad usage.
abbrev pub EndsUnread : IoErrorKind → Exit → Type 0
EndsUnread io.OutOfMemory ended = ended ≡ Refused Memory
EndsUnread _ ended = ended ≡ BadUsage

-- The words could not be read, by an error of this kind, and the run ends by it.
pub record RefusesWords (kind : IoErrorKind) (errors errors_new : Option (List ℕ) × Writes) (status : ℕ)
    : Type 0 where
  pub ended : Exit
  pub why : EndsUnread kind ended
  pub errors_run : Option (List ℕ) × Writes
  pub silent : IsSilent errors errors_run ended
  pub says : Says errors_run errors_new ended
  pub tells : status ≡ status_of ended
