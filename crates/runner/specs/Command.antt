-- What running a command does.
use Rattle.std.specs.Prelude.{ℕ, map as each, List, ◌≡◌, Bool, Option, Result}
use Rattle.store_files.specs.History.{Span, IsIdle}
use Rattle.sqlite.specs.State.{State}
use Rattle.histories.specs.Account.{Account}
use Rattle.world.specs.Store.{Shown}
use Rattle.commands.specs.Opening.{AnsweredFor}
use Rattle.network.specs.History as network
use Rattle.commands.specs.Connection.{Passed}
use Rattle.commands.specs.Order.{SendsThere}
use Rattle.commands.specs.NewKey.{OrdersNew}
use Rattle.commands.specs.Action.{acceptance}
use Rattle.commands.specs.declared.refusal.CommandRefusal.{CommandRefusal}
use Rattle.file_action.specs.OnFile.{Deeds, TellsAlone, ActsOnFile, Inits}
use Rattle.runner.specs.Extract.{ExtractsFile}
use Rattle.runner.specs.Migrate.{MigratesFile}
use Rattle.runner.specs.declared.Command.{Command}
use Rattle.runner.specs.declared.Command.TheVariants as command

module _ {N : Type 0} (outside outside_new : N) (came came_new : Account) (written written_new : Option (List ℕ))
    (result : Result Bool CommandRefusal) where
  -- the requests of the input were answered from shelves in memory
  pub record AnswersInMemory (team key : List ℕ) : Type 0 where
    pub ended : Result (Unit {0}) CommandRefusal
    pub answers : AnsweredFor team key came came_new written written_new ended
    pub tells : result ≡ acceptance ended
    pub idle : outside_new ≡ outside

  -- this was done, the result says how it ended, nothing was read or written, and nothing was done outside
  pub record EndsAlone (done : Result (Unit {0}) CommandRefusal → Type 0) : Type 0 where
    pub ended : Result (Unit {0}) CommandRefusal
    pub does : done ended
    pub tells : TellsAlone outside outside_new came came_new written written_new result (acceptance ended)

  -- this was done, which says what was printed and how it ended, nothing was read, and nothing was done outside
  pub record PrintsAlone (done : Option (List ℕ) → Option (List ℕ) → Result Bool CommandRefusal → Type 0) : Type 0 where
    pub does : done written written_new result
    pub input : came_new ≡ came
    pub idle : outside_new ≡ outside

  -- so it was with an end that has no output of its own
  pub record EndsPrinting (done : Option (List ℕ) → Option (List ℕ) → Result (Unit {0}) CommandRefusal → Type 0)
      : Type 0 where
    pub ended : Result (Unit {0}) CommandRefusal
    pub does : done written written_new ended
    pub tells : result ≡ acceptance ended
    pub input : came_new ≡ came
    pub idle : outside_new ≡ outside

module _ {S C N : Type 0} (acts : Deeds S N) (state_of : C → State) (shown : S → Shown)
    (files targets : Span S C) (older : Span C C)
    {L : Type 0} (all : L → Passed → Type 0) (connected connected_new : List (network.Done L))
    (outside outside_new : N) (came came_new : Account) (written written_new : Option (List ℕ)) (result : Result Bool CommandRefusal) where
  -- the command did this, read and wrote nothing, and did nothing outside
  abbrev pub Alone : (Result (Unit {0}) CommandRefusal → Type 0) → Type 0
  Alone = EndsAlone outside outside_new came came_new written written_new result

  -- of the files of stores, nothing was done to a new one or an older one
  abbrev pub IsOnFiles : Type 0
  IsOnFiles = IsIdle targets × IsIdle older

  -- nothing was done to any file of a store
  abbrev pub IsOnNone : Type 0
  IsOnNone = IsIdle files × IsIdle targets × IsIdle older

  -- no server was connected to
  abbrev pub IsUnconnected : Type 0
  IsUnconnected = network.IsIdle connected connected_new

  -- What each kind of command does, to which files of stores: those of the command, the new one, and the older one; and
  -- to which servers. The last two open no store: they send a line to a running `serve`, or can't.
  abbrev pub Runs : Command → Type 0
  Runs (command.Init db) = Inits acts files db.now outside outside_new came came_new written written_new result × IsOnFiles × IsUnconnected
  Runs (command.AnswerInMemory team key) =
      AnswersInMemory outside outside_new came came_new written written_new result team.now key.now × IsOnNone × IsUnconnected
  Runs (command.OnStore db action) =
      ActsOnFile acts files db.now outside outside_new came came_new written written_new action result × IsOnFiles × IsUnconnected
  Runs (command.Extract db teams to) =
      Alone (ExtractsFile shown shown files targets db.now (each (λ team. team.now) teams.now) to.now) × IsIdle older
      × IsUnconnected
  Runs (command.Migrate from to) =
      Alone (MigratesFile state_of shown older targets from.now to.now) × IsIdle files × IsUnconnected
  Runs (command.Send control order) =
      PrintsAlone outside outside_new came came_new written written_new result (SendsThere all connected connected_new control.now order)
      × IsOnNone
  Runs (command.OrderNew control shelf right) =
      EndsPrinting outside outside_new came came_new written written_new result
      (OrdersNew all control.now connected connected_new shelf right) × IsOnNone
