-- Callers who are served from one moment to another, while a copy is made or not.
use Rattle.std.specs.Prelude.{ℕ, ◌≡◌, ◌≤◌, ◌+◌, ◌⊎◌, ◌||◌, Bool, true, false, List, [], ◌∷◌, ◌++◌, length, All}
use Rattle.std.specs.Prelude.{Option, IfOk}
use Rattle.std.proofs.Common.{inl, inr, refl, arith}
use Rattle.histories.specs.Account.{Account}
use Rattle.histories.specs.Calls.{Reads, Writes}
use Rattle.world.specs.Store.{Shown}
use Rattle.world.specs.World.{World}
use Rattle.socket.specs.Connections.{AnswersOne, Come}
use Rattle.socket.specs.History.{Does, Door, EndsOperator, EndsPeer, Known, written_whole}
use Rattle.socket.specs.declared.deed.Deed.TheVariants as deed
use Rattle.interleave.specs.Interleave.{IsAsItWas}
use Rattle.interleave.specs.declared.between.CopyProgress.{CopyProgress}
use Rattle.control.specs.Copying.{Making, AllRead, IsBegun, IsBusy, IsOnlyRead, tasks_in, has_read}
use Rattle.control.specs.Finds.{WritesAndDoes}
use Rattle.control.specs.Health.{Answered, IsPinged, with_one}
use Rattle.control.specs.Notices.{WritesNotices}
use Rattle.control.specs.Pinging.{TellsHowFar}
use Rattle.control.specs.Reserve.{Lent, once_begun}
use Rattle.control.specs.Tasks.{GoesThroughTasks}
use Rattle.control.specs.Traces.{Log, UsesAndTells, WritesTraces}
use Rattle.control.specs.Visits.{Call, OfPeer, OfOperator, Untaken, IsCallThere, IsClosed, IsNoStop, IsStop, ObeysOne}
use Rattle.control.specs.Visits.{Happened, TellsTally}
use Rattle.control.specs.Visits.{answered_with, callers_of, connections_of, steps_with}
use Rattle.socket.specs.declared.callers.Caller.{Caller}
use Rattle.control.specs.declared.progress.Progress.{Progress}
use Rattle.control.specs.declared.tally.Tally.{Tally}

-- the tally after these connections
abbrev pub tally_after : Tally → List Answered → Tally
tally_after t [] = t
tally_after t (answered ∷ more) = tally_after (with_one t answered) more

-- each ping was told the tally of its moment
abbrev pub AllTold : {P O : Type 0} → Tally → List (Call P O) → Type 0
AllTold t [] = Unit {0}
AllTold t (OfPeer visit answered ∷ calls) = AllTold (with_one t answered) calls
AllTold t (OfOperator audience ∷ calls) = TellsTally t audience.heard × AllTold t calls
AllTold t (Untaken ∷ calls) = AllTold t calls

-- The flags say whether an operator was told, before these callers and after them, that the server ends. If so before
-- them, there are none; otherwise the last of them was told so, or none was.
abbrev pub EndsBy : {P O : Type 0} → Bool → Bool → List (Call P O) → Type 0
EndsBy true stops calls = (stops ≡ true) × (calls ≡ [])
EndsBy {P} {O} false true calls =
    (first : List (Call P O)) × (last : Call P O) × (calls ≡ first ++ last ∷ []) × All IsNoStop first × IsStop last
EndsBy false false calls = All IsNoStop calls

-- An operator was obeyed while a copy is made or a catalog is printed, with the tally of the moment. No copy was made
-- for it, and a ping was told how far the one is, or of none. A line was written for its order, which used the reserve
-- as it may. Then it was ended.
pub record ObeysMeanwhile {P O : Type 0} (heeded : O → Account × Reads) (told : O → Option (List ℕ) × Writes)
    {S : Type 0} (shown : S → Shown) (made : S → S → Making → Type 0)
    (counted : S → S → ℕ → Type 0) (operator : O) (far : Option CopyProgress) (door end : Door (Caller P O))
    (before after : Progress) (log log_new : Log) (room room_new : Lent) (old new : S) : Type 0
  where
    pub stops : Bool
    pub gone : O
    pub obeys : ObeysOne heeded told (made old new)
        (IsPinged before.tally (shown old).failures (shown new).failures (counted old new)) (λ _. Unit {0})
        (λ making. IsOnlyRead (shown old) (shown new) × IsBusy making) operator gone stops (shown old) (shown new)
    pub ended : EndsOperator door end gone
    pub tally : after.tally ≡ before.tally
    pub left : after.left ≡ before.left
    pub taken : after.taken ≡ before.taken + 1
    pub ends : after.stops ≡ (before.stops || stops)
    pub tells : IfOk obeys.audience.told (TellsHowFar far)
    pub traces : WritesAndDoes (UsesAndTells obeys.audience.heard obeys.audience.told) log.0 log_new.0
        room room_new
    pub faults : log_new.1 ≡ log.1

-- a peer was answered, left with the status of the reply if that was written whole, and ended, and counts as a connection
pub record ServesPeer {P O : Type 0} (heard : P → Account × Reads) (written : P → Option (List ℕ) × Writes)
    (known : Known P O) (peer : P) (door end : Door (Caller P O)) (before after : Progress) (old new : Shown) : Type 0 where
  pub gone : P
  pub answered : Answered
  pub answers : AnswersOne heard written peer gone old new answered
  pub ended : EndsPeer known.is_ended door end gone (written_whole answered)
  pub tally : after.tally ≡ with_one before.tally answered
  pub left : before.left ≡ after.left + 1
  pub taken : after.taken ≡ before.taken + 1
  pub stops : after.stops ≡ before.stops

-- how many are connected besides, by whether something is made meanwhile: the one who ordered that
abbrev pub connected : Bool → ℕ
connected false = 0
connected true = 1

-- a server that makes a copy, and its store, at an instant: who waits and what was done with those who came, how far it
-- is, what it told, its two loans, and its reserve
pub record Instant (P O S : Type 0) : Type 0 where
  pub door : Door (Caller P O)
  pub progress : Progress
  pub log : Log
  pub lent : ℕ × ℕ
  pub room : Lent
  pub store : S

module _ {P O : Type 0} (heeded : O → Account × Reads) (told : O → Option (List ℕ) × Writes)
    (heard : P → Account × Reads) (written : P → Option (List ℕ) × Writes) (known : Known P O)
    {S : Type 0} (shown : S → Shown) (made : S → S → Making → Type 0)
    (counted : S → S → ℕ → Type 0) where
  -- From one moment to another, callers were served one after another, each once. If the flag is true, something was
  -- made for an operator meanwhile: the store was also read between them, and nobody was waited for. What was said of
  -- them holds as `ServesEach`, `ReadsEach`, `EndsEach` and `TracesEach` say, and the progress goes on by them.
  pub record Serves (read : Bool) (door end : Door (Caller P O)) (before after : Progress)
      (log log_new : Log) (room room_new : Lent) (old new : S) : Type 0 where
    pub calls : List (Call P O)
    pub came : Come door.0 end.0 (callers_of calls)
    pub happened : Happened (connected read) door.1 end.1 calls
    pub begun : All known.is_new (callers_of calls)
    pub closed : All (IsClosed known) calls
    pub there : All (IsCallThere heeded told heard written) calls
    pub through : GoesThroughTasks (shown old) (shown new) (tasks_in (steps_with calls))
        (read || has_read (steps_with calls))
    pub reads : (shown new).is_honest → (w : World) → (shown old).stands w
        → AllRead shown made counted w (steps_with calls)
    pub tally : after.tally ≡ tally_after before.tally (answered_with calls)
    pub tallies : AllTold before.tally calls
    pub left : before.left ≡ after.left + connections_of calls
    pub taken : after.taken ≡ before.taken + length calls
    pub ends : EndsBy before.stops after.stops calls
    pub traces : WritesTraces calls log log_new room room_new

  -- So it was while a copy was made, notices were written, and both loans of the server are the same ones.
  pub record ServesMeanwhile (a b : Instant P O S) : Type 0 where
    pub serves : Serves true a.door b.door a.progress b.progress a.log b.log a.room b.room a.store b.store
    pub notes : WritesNotices a.log.0.0 b.log.0.0
    pub same : b.lent ≡ a.lent

  -- the store was read and nothing else was done, or callers were served
  abbrev pub TakesTurn : Instant P O S → Instant P O S → Type 0
  TakesTurn a b = (IsAsItWas (shown a.store) (shown b.store) × (b ≡ record a { store = b.store })) ⊎ ServesMeanwhile a b

  -- so it went on, by these instants
  abbrev pub TakesTurnsBy : Instant P O S → List (Instant P O S) → Instant P O S → Type 0
  TakesTurnsBy a [] b = TakesTurn a b
  TakesTurnsBy a (mid ∷ more) b = TakesTurn a mid × TakesTurnsBy mid more b

  -- turns, one after another
  abbrev pub TakesTurns : Instant P O S → Instant P O S → Type 0
  TakesTurns a b = (by : List (Instant P O S)) × TakesTurnsBy a by b

  -- Something was made between two instants. Before it, the operator who was taken last was watched, and had not been
  -- seen to leave, and of a copy it was noted that it is begun; then came the turns. It was begun, and ended early only
  -- for this cause.
  pub record MakesWatched {L : Type 0} (door : L → Door (Caller P O)) (left : L → Bool) (callers : L)
      (a b : Instant P O S) (cause : Type 0) (making : Making) : Type 0 where
    pub watching : L
    pub watched : Does (door callers) (door watching) [] deed.Watched
    pub here : left watching ≡ false
    pub last : S
    pub turns : TakesTurns (record a { door = door watching; room = once_begun making a.room })
        (record b { store = last })
    pub read : IsOnlyRead (shown last) (shown b.store)
    pub begun : IsBegun cause making

  pub turns_rest : (a : Instant P O S) (t : S) → IsAsItWas (shown a.store) (shown t)
      → TakesTurns a (record a { store = t })
  turns_rest a t read = ([], inl (read, refl))

  turns_by : (a b c : Instant P O S) (by more : List (Instant P O S)) → TakesTurnsBy a by b → TakesTurnsBy b more c
      → TakesTurnsBy a (by ++ b ∷ more) c
  turns_by a b c [] more one two = (one, two)
  turns_by a b c (mid ∷ by) more one two = (one.0, turns_by mid b c by more one.1 two)

  pub then_turns : (a b c : Instant P O S) → TakesTurns a b → TakesTurns b c → TakesTurns a c
  then_turns a b c one two = (one.0 ++ b ∷ two.0, turns_by a b c one.0 two.0 one.1 two.1)

  no_fewer_turn : (a b : Instant P O S) → TakesTurn a b → (shown a.store).failures ≤ (shown b.store).failures
  no_fewer_turn a b (inl (read, rest)) = read.failures
  no_fewer_turn a b (inr served) = served.serves.through.no_fewer

  no_fewer_by : (a b : Instant P O S) (by : List (Instant P O S)) → TakesTurnsBy a by b
      → (shown a.store).failures ≤ (shown b.store).failures
  no_fewer_by a b [] turn = no_fewer_turn a b turn
  no_fewer_by a b (mid ∷ more) turns =
      omega (arith, no_fewer_turn a mid turns.0, no_fewer_by mid b more turns.1)

  pub no_fewer_turns : (a b : Instant P O S) → TakesTurns a b → (shown a.store).failures ≤ (shown b.store).failures
  no_fewer_turns a b turns = no_fewer_by a b turns.0 turns.1
