-- What a store goes through on one connection, and on those before it.
use Rattle.std.specs.Prelude.{◌↔◌, IsTrue}
use Rattle.std.proofs.Common.{Bool, ℕ, ◌≤◌, ◌≡◌, refl, sym, ap, ◌∙◌, subst, List}
use Rattle.std.proofs.Common.{[], ◌∷◌, ◌++◌, map, Option, Some, None, Result, Ok, Err, IfErr, inl, inr, arith}
use Rattle.std.proofs.Common.{append_assoc}
use Rattle.std.specs.Io.KnownBytes.{Appends}
use Rattle.histories.specs.Account.{Account}
use Rattle.histories.specs.Calls.{Reads, Writes}
use Rattle.world.specs.Store.{Shown}
use Rattle.world.specs.declared.registry.StoreFault.{StoreFault}
use Rattle.engine.specs.Causes.{IsCaused, IsCausedIn}
use Rattle.engine.specs.First.{First, Answers as Message, Closes}
use Rattle.engine.specs.Store.{GoesThrough}
use Rattle.engine.specs.declared.fault.Io.{Io}
use Rattle.engine.specs.declared.fault.Io.TheVariants as io
use Rattle.socket.specs.Connections.{Come, exchanges_of}
use Rattle.socket.specs.History.{Door, Known}
use Rattle.control.specs.Copying.{Making, OfTask, tasks_in, has_read, GoesOnRead, GoesThroughSteps}
use Rattle.control.specs.Hearing.{Heard, Carried, Made, Listed, Pinged, Named, Stop, NoOrder, NoMemory}
use Rattle.control.specs.Hearing.{Obeys, WritesSome, bytes_heard, printed_heard, told_heard}
use Rattle.control.specs.Line.{most_tries}
use Rattle.control.specs.Naming.{NamesOne, NamesNone, ReadError}
use Rattle.control.specs.Finds.{WritesAndDoes}
use Rattle.control.specs.Noted.{Noted, NotesAndLooks, NotesTold}
use Rattle.control.specs.Reserve.{Lent}
use Rattle.control.specs.ControlReply.{bytes_told}
use Rattle.control.specs.Tasks.{Asked, messages, GoesOn}
use Rattle.control.specs.Traces.{TellsOrder}
use Rattle.control.specs.Visits.{Call, OfPeer, OfOperator, Untaken, steps_if}
use Rattle.control.specs.Visits.{steps_with, peers, ObeysOne}
use Rattle.control.specs.Visits.{ReadsEach}
use Rattle.socket.specs.declared.callers.Caller.{Caller}
use Rattle.control.specs.declared.health.Health.{Health}
use Rattle.control.specs.declared.control_reply.ControlReply.{ControlReply}
use Rattle.control.specs.declared.control_reply.ControlReply.TheVariants as spoken
use Rattle.orders.specs.declared.outcome.Outcome.TheVariants.{Stopping}
use Rattle.control.proofs.StepLemmas.{messages_both}
use Rattle.control.proofs.TallyLemmas.{since_told}
use Rattle.control.proofs.TaskLemmas.{tasks_asked}
use Rattle.control.proofs.TraceLemmas.{trace_of}

-- ---- one connection

-- a store that goes through what came first from a peer goes through at most one step
pub steps_first : (old new : Shown) (first : Option First) → GoesThrough old new (exchanges_of first)
    → GoesThroughSteps old new (map (λ x. OfTask (Asked x)) (exchanges_of first))
steps_first old new None through = tasks_asked old new [] (omega arith) through
steps_first old new (Some (Message x)) through = tasks_asked old new (x ∷ []) (omega arith) through
steps_first old new (Some (Closes closing)) through = tasks_asked old new [] (omega arith) through

first_message : (first : Option First) → messages (tasks_in (map (λ x. OfTask (Asked x)) (exchanges_of first))) ≤ 1
first_message None = omega arith
first_message (Some (Message x)) = omega arith
first_message (Some (Closes closing)) = omega arith

no_message : (heard : Option Heard) → messages (tasks_in (steps_if heard)) ≡ 0
no_message None = refl
no_message (Some (Carried command told)) = refl
no_message (Some (Made making)) = refl
no_message (Some (Pinged told)) = refl
no_message (Some (Listed listing told)) = refl
no_message (Some (Named f (NamesOne key told))) = refl
no_message (Some (Named f NamesNone)) = refl
no_message (Some (Named f (ReadError fault))) = refl
no_message (Some Stop) = refl
no_message (Some NoOrder) = refl
no_message (Some NoMemory) = refl

-- the lines that were printed and what was told are all that was written
written_so : (writes : List ℕ → Type 0) (printed : List ℕ) (told : ControlReply) (heard : Heard)
    → printed ≡ printed_heard heard
    → told ≡ told_heard heard → writes (printed ++ bytes_told told) → writes (bytes_heard heard)
written_so writes printed told heard prints tells so =
    subst (λ (p : List ℕ). writes (p ++ bytes_told (told_heard heard))) prints
    (subst (λ (o : ControlReply). writes (printed ++ bytes_told o)) tells so)

module _ {O : Type 0} (heeded : O → Account × Reads) (told : O → Option (List ℕ) × Writes)
    (made : Making → Type 0)
    (pinged : Result Health StoreFault → Type 0) (idle : Option Heard → Type 0) (meanwhile : Making → Type 0) (old new : Shown) where
  -- an operator was obeyed, where a failure has its cause
  pub obeyed_one : (operator after : O) (stops : Bool) (result : Result ControlReply Io) (noted : Option Noted)
      → Obeys made pinged idle meanwhile old new (heeded operator).0 (heeded after).0 (told operator).0
      (told after).0 result noted
      → IfErr result (IsCausedIn most_tries (heeded operator).1 (heeded after).1 (told operator).1 (told after).1)
      → (IsTrue stops ↔ (result ≡ Ok (spoken.Outcome Stopping)))
      → ObeysOne heeded told made pinged idle meanwhile operator after stops old new
  obeyed_one operator after stops (Ok outcome) noted obeys cause stopped = record {
    audience = record { before = operator; after = after; heard = Some obeys.1.heard; told = Ok outcome };
    begins = refl;
    leaves = refl;
    there = (
      obeys.1.tells,
      obeys.1.from.0,
      written_so (Appends (told operator).0 (told after).0) obeys.0 outcome obeys.1.heard obeys.1.prints obeys.1.tells
          obeys.2,
    );
    stopped = stopped;
    through = obeys.1.through;
    came = obeys.1.came;
    lists = obeys.1.lists;
  }
  obeyed_one operator after stops (Err io.Read) noted obeys cause stopped = record {
    audience = record { before = operator; after = after; heard = None; told = Err io.Read };
    begins = refl;
    leaves = refl;
    there = (refl, obeys.2, cause);
    stopped = stopped;
    through = (obeys.0, obeys.1);
    came = tt;
    lists = tt;
  }
  obeyed_one operator after stops (Err io.Write) noted obeys cause stopped = record {
    audience = record { before = operator; after = after; heard = Some obeys.2.heard; told = Err io.Write };
    begins = refl;
    leaves = refl;
    there = (
      refl,
      obeys.2.from.0,
      written_so (WritesSome (told operator).0 (told after).0) obeys.0 obeys.1 obeys.2.heard obeys.2.prints
          obeys.2.tells obeys.3,
      cause,
    );
    stopped = stopped;
    through = obeys.2.through;
    came = obeys.2.came;
    lists = obeys.2.lists;
  }

  -- this was told
  pub obeyed_told : (operator after : O) (stops : Bool) (result : Result ControlReply Io) (noted : Option Noted)
      → (obeys : Obeys made pinged idle meanwhile old new (heeded operator).0 (heeded after).0 (told operator).0
      (told after).0 result noted)
      → (cause : IfErr result (IsCausedIn most_tries (heeded operator).1 (heeded after).1 (told operator).1
      (told after).1)) → (stopped : IsTrue stops ↔ (result ≡ Ok (spoken.Outcome Stopping)))
      → (obeyed_one operator after stops result noted obeys cause stopped).audience.told ≡ result
  unfolding obeyed_one
  obeyed_told operator after stops (Ok outcome) noted obeys cause stopped = refl
  obeyed_told operator after stops (Err io.Read) noted obeys cause stopped = refl
  obeyed_told operator after stops (Err io.Write) noted obeys cause stopped = refl

  -- the line that begins with what is noted of it is one for it
  pub obeyed_trace : (operator after : O) (stops : Bool) (result : Result ControlReply Io) (done noted : Option Noted)
      → (obeys : Obeys made pinged idle meanwhile old new (heeded operator).0 (heeded after).0 (told operator).0
      (told after).0 result done)
      → (cause : IfErr result (IsCausedIn most_tries (heeded operator).1 (heeded after).1 (told operator).1
      (told after).1)) → (stopped : IsTrue stops ↔ (result ≡ Ok (spoken.Outcome Stopping)))
      → (e f : Option (List ℕ) × Writes) (a b : Lent) → NotesTold done result noted
      → WritesAndDoes (NotesAndLooks noted) e f a b
      → WritesAndDoes (TellsOrder (obeyed_one operator after stops result done obeys cause stopped).audience.heard
      (obeyed_one operator after stops result done obeys cause stopped).audience.told) e f a b
  unfolding obeyed_one
  obeyed_trace operator after stops (Ok outcome) done noted obeys cause stopped e f a b notes written =
      trace_of (Some obeys.1.heard) (Ok outcome) done noted e f a b obeys.1.from.1 notes written
  obeyed_trace operator after stops (Err io.Read) done noted obeys cause stopped e f a b notes written =
      trace_of None (Err io.Read) done noted e f a b obeys.3 notes written
  obeyed_trace operator after stops (Err io.Write) done noted obeys cause stopped e f a b notes written =
      trace_of (Some obeys.2.heard) (Err io.Write) done noted e f a b obeys.2.from.1 notes written

-- ---- those who come

pub none_come : {C : Type 0} (waiting : Option (List C)) → Come waiting waiting []
none_come None = tt
none_come (Some all) = refl

-- if some callers come and then others, all of them come
pub then_come : {C : Type 0} (waiting left rest : Option (List C)) (first next : List C) → Come waiting left first
    → Come left rest next
    → Come waiting rest (first ++ next)
then_come None left rest first next one two = tt
then_come (Some all) None rest first next one two = absurd one
then_come (Some all) (Some more) None first next one two = absurd two
then_come (Some all) (Some more) (Some few) first next one two =
    one ∙ ap (λ l. first ++ l) two ∙ sym (append_assoc first next few)

-- ---- messages and peers

module _ {P O : Type 0} where
  -- there are at most as many messages as peers
  pub one_each : (calls : List (Call P O)) → messages (tasks_in (steps_with calls)) ≤ peers calls
  one_each [] = omega arith
  one_each (OfPeer visit answered ∷ calls) = omega (
    arith,
    messages_both (map (λ x. OfTask (Asked x)) (exchanges_of visit.first)) (steps_with calls),
    first_message visit.first,
    one_each calls,
  )
  one_each (OfOperator audience ∷ calls) = omega (
    arith,
    messages_both (steps_if audience.heard) (steps_with calls),
    no_message audience.heard,
    one_each calls,
  )
  one_each (Untaken ∷ calls) = one_each calls

  module _ (heeded : O → Account × Reads) (told : O → Option (List ℕ) × Writes)
      (heard : P → Account × Reads) (written : P → Option (List ℕ) × Writes) (known : Known P O)
      {S : Type 0} (shown : S → Shown) (made : S → S → Making → Type 0)
      (counted : S → S → ℕ → Type 0) where
    -- one run of the machine
    pub each_goes : (since : List ℕ) (door end : Door (Caller P O)) (s t : S) (n : ℕ)
        → ReadsEach heeded told heard written shown made counted known door end s t since n
        → GoesOn (shown s) (shown t) n
    each_goes since door end s t n all = record {
      tasks = tasks_in (steps_with all.each.calls);
      read = has_read (steps_with all.each.calls);
      few = omega (arith, one_each all.each.calls, all.each.few);
      through = all.each.through;
    }

    -- one run with the copies and the pings that were answered in it
    pub each_read : (since : List ℕ) (door end : Door (Caller P O)) (s t : S) (n : ℕ)
        → ReadsEach heeded told heard written shown made counted known door end s t since n
        → GoesOnRead shown made counted s t since n
    each_read since door end s t n all = record {
      steps = steps_with all.each.calls;
      few = omega (arith, one_each all.each.calls, all.each.few);
      through = all.each.through;
      reads = all.reads;
      begun = since_told since [] all.each.calls all.tallies;
    }
