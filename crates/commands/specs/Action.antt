-- What an action does on a store.
use Rattle.std.specs.Borrow.{Bor}
use Rattle.std.specs.Prelude.{ℕ, List, [], ◌≡◌, true, Bool, Option, option_copied, Result, Ok, Err, IfErr, OnErr}
use Rattle.histories.specs.Account.{Account}
use Rattle.histories.specs.Calls.{Reads, Writes}
use Rattle.control.specs.Notices.{WritesNotices}
use Rattle.control.specs.Reserve.{DiskDeed}
use Rattle.engine.specs.Served.{ServesAllHeard}
use Rattle.socket.specs.History.{Door, Known}
use Rattle.socket.specs.declared.callers.Caller.{Caller}
use Rattle.socket.specs.declared.deed.ListenOn.{ListenOn}
use Rattle.world.specs.Store.{Shown}
use Rattle.world.specs.declared.entry.Right.{Right}
use Rattle.orders.specs.declared.command.RegistryCommand.{RegistryCommand}
use Rattle.commands.specs.Ending.{Registers, RevokesNamed}
use Rattle.commands.specs.ImportFile.{FailsUnopenedOrByOutput, ImportsFile}
use Rattle.commands.specs.NewKey.{AddsNew, HasNoKey}
use Rattle.commands.specs.Opening.{AnswersAll, Breaks}
use Rattle.commands.specs.Printed.{FailsByOutput, FailsEarlyOrByOutput, FailsUnprinted}
use Rattle.commands.specs.Publish.{asked_by, PublishesFiles}
use Rattle.commands.specs.RandomBytes.{Drawn}
use Rattle.commands.specs.Report.{PrintsCatalogOf, PrintsInventory, PrintsList, PrintsRequirements}
use Rattle.commands.specs.Serve.{Made, Counted, ListensAs}
use Rattle.commands.specs.Sources.{FileDone}
use Rattle.commands.specs.declared.refusal.CommandRefusal.{CommandRefusal}
use Rattle.commands.specs.declared.refusal.CommandRefusal.TheVariants.{Io}
use Rattle.commands.specs.declared.action.Action.{Action}
use Rattle.commands.specs.declared.action.Action.TheVariants as action
use Rattle.commands.specs.declared.action.Outside.{Outside}

-- What is seen of what an action reaches outside of its store and its streams, which is entrances of callers, files that
-- are read, and what gives random bytes: what passed over the connections of operators and of peers, what is known of a
-- caller who was just taken and of a peer whose connection was ended, who waits and what was done there; the files that
-- were read; and the bytes that were drawn.
pub record Views (N P O : Type 0) : Type 1 where
  pub heeded : O → Account × Reads
  pub told : O → Option (List ℕ) × Writes
  pub heard : P → Account × Reads
  pub written : P → Option (List ℕ) × Writes
  pub known : Known P O
  pub door : N → Door (Caller P O)
  pub read : N → List FileDone
  pub drawn : N → Drawn

-- what is seen of the entrances, of the files, or of what gives random bytes, of what is reached
abbrev pub of_entrances : {N F B V : Type 0} → (N → V) → Outside N F B → V
of_entrances view outside = view outside.entrances

abbrev pub of_files : {N F B V : Type 0} → (F → V) → Outside N F B → V
of_files view outside = view outside.files

abbrev pub of_random : {N F B V : Type 0} → (B → V) → Outside N F B → V
of_random view outside = view outside.random

-- a store, what is reached outside of it, what came on the input, and the bytes on the output, at a moment
pub record Moment (S N : Type 0) : Type 0 where
  pub store : S
  pub outside : N
  pub came : Account
  pub written : Option (List ℕ)

module _ {S N : Type 0} (old new : Moment S N) where
  -- nothing was read from the input, and nothing was done outside
  pub record KeepsInput : Type 0 where
    pub came : new.came ≡ old.came
    pub outside : new.outside ≡ old.outside

  -- nothing was read or written, and nothing was done outside
  pub record KeepsStreams : Type 0 where
    pub came : new.came ≡ old.came
    pub written : new.written ≡ old.written
    pub outside : new.outside ≡ old.outside

-- nothing was read from the input, nothing was done with callers, and nothing was drawn
pub record OnlyReads {S N P O : Type 0} (views : Views N P O) (old new : Moment S N) : Type 0 where
  pub came : new.came ≡ old.came
  pub door : views.door new.outside ≡ views.door old.outside
  pub drawn : views.drawn new.outside ≡ views.drawn old.outside

-- the result of a command that is accepted once it is done
abbrev pub acceptance : Result (Unit {0}) CommandRefusal → Result Bool CommandRefusal
acceptance (Ok u) = Ok true
acceptance (Err refusal) = Err refusal

module _ {S N P O : Type 0} (views : Views N P O) (shown : S → Shown) (old new : Moment S N) where
  -- the registry command was carried out on the store, and nothing was read or written
  pub record RegistersAlone (command : RegistryCommand) (result : Result Bool CommandRefusal) : Type 0 where
    pub ended : Result (Unit {0}) CommandRefusal
    pub registers : Registers (shown old.store) (shown new.store) command ended
    pub told : result ≡ acceptance ended
    pub streams : KeepsStreams old new

  -- a key was made of the bytes that were drawn, printed and added, nothing was read from the input or from files, and
  -- nothing was done with callers
  pub record AddsNewAlone (shelf : Bor (List ℕ)) (right : Right) (result : Result Bool CommandRefusal) : Type 0 where
    pub ended : Result (Unit {0}) CommandRefusal
    pub adds : AddsNew shown (views.drawn old.outside) (views.drawn new.outside) old.store new.store shelf right
        old.written new.written ended
    pub told : result ≡ acceptance ended
    pub came : new.came ≡ old.came
    pub door : views.door new.outside ≡ views.door old.outside
    pub read : views.read new.outside ≡ views.read old.outside

  -- the key with this fingerprint was revoked, and nothing was read or written
  pub record RevokesNamedAlone (fingerprint : List ℕ) (result : Result Bool CommandRefusal) : Type 0 where
    pub ended : Result (Unit {0}) CommandRefusal
    pub revokes : RevokesNamed (shown old.store) (shown new.store) fingerprint ended
    pub told : result ≡ acceptance ended
    pub streams : KeepsStreams old new

  -- the requests of the input were answered from the store
  pub record AnswersFrom (result : Result Bool CommandRefusal) : Type 0 where
    pub ended : Result (Unit {0}) CommandRefusal
    pub answers : AnswersAll (shown old.store) (shown new.store) old.came new.came old.written new.written ended
    pub told : result ≡ acceptance ended
    pub outside : new.outside ≡ old.outside

  -- What is done by the kind of action that is no `serve`: nothing, one command of the registry, a key that is made is
  -- added, the key of a fingerprint is revoked, one publish, those of a list, an inventory, a catalog, the requirements
  -- of a version, or a list of the keys or of the shelves is printed, or all requests of the input are answered.
  abbrev pub ActsAlone : Result Bool CommandRefusal → Action → Type 0
  ActsAlone result action.Open = (new ≡ old) × (result ≡ Ok true)
  ActsAlone result (action.Register command) = RegistersAlone command result
  ActsAlone result (action.AddNew shelf right) = AddsNewAlone shelf right result
  ActsAlone result (action.RevokeByFingerprint fingerprint) = RevokesNamedAlone fingerprint.now result
  ActsAlone result (action.Publish words files) =
      PublishesFiles files (views.read old.outside) (views.read new.outside) shown old.store new.store (asked_by words)
      old.written new.written result × OnlyReads views old new
  ActsAlone result (action.Import key list) =
      ImportsFile shown old.store new.store key.now list.now (views.read old.outside) (views.read new.outside)
      old.written new.written result × OnlyReads views old new
  ActsAlone result (action.Inventory key) =
      PrintsInventory (shown old.store) (shown new.store) key.now old.written new.written result × KeepsInput old new
  ActsAlone result (action.Catalog key) =
      PrintsCatalogOf (shown old.store) (shown new.store) key.now old.written new.written result × KeepsInput old new
  ActsAlone result (action.Requires version) =
      PrintsRequirements (shown old.store) (shown new.store) version old.written new.written result
      × KeepsInput old new
  ActsAlone result (action.List listing) =
      PrintsList (shown old.store) (shown new.store) listing old.written new.written result × KeepsInput old new
  ActsAlone result action.Answer = AnswersFrom result
  ActsAlone result (action.Serve entrance connections control) = ⊥

module _ {S N P O : Type 0} (views : Views N P O) (shown : S → Shown) (made : Made S) (counted : Counted S)
    (old new : Moment S N) where
  -- callers who came in outside were served from the store, by what a calendar showed, these calls of the output, this
  -- writer of errors and this reserve, nothing was read from the input or from files, and nothing was drawn
  pub record ServesConnections
      (entrance : ListenOn) (connections : ℕ) (control : Option (List ℕ)) (times : List (Option (List ℕ)))
      (writes writes_new : Writes) (errors errors_new : Option (List ℕ) × Writes) (file : List ℕ) (deeds deeds_new : List DiskDeed)
      (result : Result Bool CommandRefusal) : Type 0 where
    pub ended : Result (Unit {0}) CommandRefusal
    pub serves : ListensAs views.heeded views.told views.heard views.written views.known shown made counted
        old.store new.store entrance connections old.written new.written writes writes_new
        errors errors_new file [] times deeds deeds_new (views.door old.outside) (views.door new.outside) ended control
    pub told : result ≡ acceptance ended
    pub came : new.came ≡ old.came
    pub read : views.read new.outside ≡ views.read old.outside
    pub drawn : views.drawn new.outside ≡ views.drawn old.outside

  -- What is done by the kind of action: no more requests than there are connections are answered, and orders, copies
  -- and pings between them; or an action is done that is no `serve`.
  abbrev pub Acts : Result Bool CommandRefusal → Action → Type 0
  Acts result (action.Serve entrance connections control) =
      (times : List (Option (List ℕ))) × (writes writes_new : Writes) × (errors errors_new : Option (List ℕ) × Writes)
      × (file : List ℕ) × (deeds deeds_new : List DiskDeed)
      × ServesConnections entrance connections (option_copied control) times writes writes_new errors errors_new file
      deeds deeds_new result
  Acts result other = ActsAlone views shown old new result other

  -- so it is of a `serve` whose calendar showed these times, whose output was called so, of its writer of errors, of the
  -- file that it serves, and of its reserve; another action does nothing to the reserve
  abbrev pub ServesFor : List (Option (List ℕ)) → Writes → Writes → Option (List ℕ) × Writes
      → Option (List ℕ) × Writes → List ℕ → List DiskDeed → List DiskDeed → Result Bool CommandRefusal → Action → Type 0
  ServesFor times writes writes_new errors errors_new file deeds deeds_new result
      (action.Serve entrance connections control) =
      ServesConnections entrance connections (option_copied control) times writes writes_new errors errors_new file
      deeds deeds_new result
  ServesFor times writes writes_new errors errors_new file deeds deeds_new result other = deeds_new ≡ deeds

-- the action is no `serve`
abbrev pub IsNoServe : Action → Type 0
IsNoServe (action.Serve entrance connections control) = ⊥
IsNoServe other = Unit {0}

-- what is written to the writer of errors: notices by a `serve`, and nothing by another action
abbrev pub WritesErrors : Action → Option (List ℕ) → Option (List ℕ) → Type 0
WritesErrors (action.Serve entrance connections control) errors errors_new = WritesNotices errors errors_new
WritesErrors other errors errors_new = errors_new ≡ errors

-- If making a key failed, nothing was printed, unless a call of the output failed. Of another action this says nothing.
abbrev pub PrintsKeyFor : Action → Option (List ℕ) → Option (List ℕ) → Writes → Writes → Result Bool CommandRefusal
    → Type 0
PrintsKeyFor (action.AddNew shelf right) written written_new writes writes_new result =
    FailsUnprinted written written_new writes writes_new result
PrintsKeyFor other written written_new writes writes_new result = Unit {0}

-- the calls of the input and of the output, the bytes that were drawn, and the files that were read, at a moment
pub record Calls : Type 0 where
  pub reads : Reads
  pub writes : Writes
  pub drawn : Drawn
  pub files : List FileDone

-- a command does not end with `Io`
abbrev pub NeverIo : {T : Type 0} → Result T CommandRefusal → Type 0
NeverIo result = IfErr result (λ e. ¬ (e ≡ Io))

module _ {S N : Type 0} (shown : S → Shown) (old new : Moment S N) (calls calls_new : Calls)
    (result : Result Bool CommandRefusal) where
  -- an action that answers the requests of the input failed because a stream failed
  abbrev pub FailsByStream : Type 0
  FailsByStream = OnErr result (Breaks (λ failure. ServesAllHeard (shown old.store) (shown new.store) old.came new.came
      old.written new.written (Err failure)) calls.reads calls_new.reads calls.writes calls_new.writes)

  -- Why an action ended with `Io`. A publish did so because its output failed, or before it did anything, and an import
  -- because its output failed, or its list was not opened. One that prints what it reads did so because its output
  -- failed. A registry command never does. Of a `serve`, `ServesFor` says why it failed.
  abbrev pub CauseOf : Action → Type 0
  CauseOf (action.AddNew shelf right) =
      IfErr result (λ e. e ≡ Io → HasNoKey calls.drawn calls_new.drawn calls.writes calls_new.writes)
  CauseOf (action.Publish words files) =
      FailsEarlyOrByOutput old.store new.store old.written new.written calls.writes calls_new.writes result
  CauseOf (action.Import key list) =
      FailsUnopenedOrByOutput shown old.store new.store key.now list.now calls.files calls_new.files old.written
      new.written calls.writes calls_new.writes result
  CauseOf (action.Inventory key) = FailsByOutput calls.writes calls_new.writes result
  CauseOf (action.Catalog key) = FailsByOutput calls.writes calls_new.writes result
  CauseOf (action.Requires version) = FailsByOutput calls.writes calls_new.writes result
  CauseOf (action.List listing) = FailsByOutput calls.writes calls_new.writes result
  CauseOf action.Answer = FailsByStream
  CauseOf (action.Serve entrance connections control) = Unit {0}
  CauseOf action.Open = NeverIo result
  CauseOf (action.Register command) = NeverIo result
  CauseOf (action.RevokeByFingerprint fingerprint) = NeverIo result
