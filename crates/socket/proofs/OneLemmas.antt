-- What a store goes through on one more connection.
use Rattle.std.proofs.Common.{ℕ, ◌+◌, ◌≤◌, ◌≡◌, refl, sym, ap, ◌∙◌, subst, List, [], ◌∷◌, ◌++◌, length, All, Option}
use Rattle.std.proofs.Common.{Some, None, Result, Ok, Err, IfOk, IfErr, inl, inr, arith, append_assoc, append-nil}
use Rattle.std.proofs.lemmas.List.{length-append}
use Rattle.std.proofs.lemmas.List.Elements.{All-nil, All-push}
use Rattle.histories.specs.Account.{Account}
use Rattle.histories.specs.Calls.{Reads, Writes}
use Rattle.world.specs.Store.{Shown}
use Rattle.engine.specs.Causes.{IsCaused}
use Rattle.engine.specs.First.{First, Answers as Message, Closes, ServesHeard}
use Rattle.engine.specs.Store.{GoesThrough}
use Rattle.engine.specs.declared.fault.Io.{Io}
use Rattle.engine.specs.declared.fault.Io.TheVariants as io
use Rattle.engine.proofs.StoreLemmas.{through_none, through_more}
use Rattle.socket.specs.Connections.{Answered, AnswersOne, Come, exchanges_of}
use Rattle.socket.specs.History.{Done, Door, EndsPeer, Known, Takes, TakesNoPeer, written_whole}
use Rattle.socket.specs.Serving.{AnswersEach, AnswersNext, Call, IsServed, OfPeer, Untaken}
use Rattle.socket.specs.Serving.{deeds_of, deeds_with, exchanges_at, exchanges_in, peers_of}
use Rattle.socket.specs.declared.callers.Caller.{Caller}
use Rattle.socket.specs.declared.callers.Caller.TheVariants.{Peer}
use Rattle.socket.specs.declared.deed.Deed.TheVariants as deed
use Rattle.socket.specs.declared.deed.Search.TheVariants.{Waiting}

one_at_most : (first : Option First) → length (exchanges_of first) ≤ 1
one_at_most None = omega arith
one_at_most (Some (Message x)) = omega arith
one_at_most (Some (Closes closing)) = omega arith

-- there are at most as many messages as connections
pub one_each : {P : Type 0} (calls : List (Call P)) → length (exchanges_in calls) ≤ length calls
one_each [] = omega arith
one_each (OfPeer visit answered ∷ calls) = omega (
  arith,
  length-append (exchanges_of visit.first) (exchanges_in calls),
  one_at_most visit.first,
  one_each calls,
)
one_each (Untaken ∷ calls) = let e = one_each calls in omega (arith, e)

module _ {P O : Type 0} where
  deeds_last : (calls : List (Call P)) (last : Call P)
      → deeds_with {P = P} {O = O} (calls ++ last ∷ []) ≡ deeds_with calls ++ deeds_of last
  deeds_last [] last = append-nil (deeds_of last)
  deeds_last (call ∷ calls) last = ap (λ more. deeds_of call ++ more) (deeds_last calls last)
      ∙ sym (append_assoc (deeds_of call) (deeds_with calls) (deeds_of last))

  peers_last : (calls : List (Call P)) (last : Call P)
      → peers_of {P = P} {O = O} (calls ++ last ∷ []) ≡ peers_of calls ++ peers_of (last ∷ [])
  peers_last [] last = refl
  peers_last (OfPeer visit answered ∷ calls) last = ap (λ more. Peer visit.before ∷ more) (peers_last calls last)
  peers_last (Untaken ∷ calls) last = peers_last calls last

exchanges_last : {P : Type 0} (calls : List (Call P)) (last : Call P)
    → exchanges_in (calls ++ last ∷ []) ≡ exchanges_in calls ++ exchanges_at last
exchanges_last [] last = append-nil (exchanges_at last)
exchanges_last (call ∷ calls) last = ap (λ more. exchanges_at call ++ more) (exchanges_last calls last)
    ∙ sym (append_assoc (exchanges_at call) (exchanges_in calls) (exchanges_at last))

none_come : {C : Type 0} (waiting : Option (List C)) → Come waiting waiting []
none_come None = tt
none_come (Some all) = refl

-- if some peers come and then others, all of them come
then_come : {C : Type 0} (waiting left rest : Option (List C)) (first next : List C) → Come waiting left first
    → Come left rest next
    → Come waiting rest (first ++ next)
then_come None left rest first next one two = tt
then_come (Some all) None rest first next one two = absurd one
then_come (Some all) (Some more) None first next one two = absurd two
then_come (Some all) (Some more) (Some few) first next one two =
    one ∙ ap (λ l. first ++ l) two ∙ sym (append_assoc first next few)

module _ {P : Type 0} (heard : P → Account × Reads) (written : P → Option (List ℕ) × Writes) where
  -- a peer whose first message was served as `ServesHeard` says was answered, where a failure has its cause
  pub answered_one : (old new : Shown) (peer gone : P) (status : Answered)
      → ServesHeard old new (heard peer).0 (heard gone).0 (written peer).0 (written gone).0 status
      → IfErr status (IsCaused (heard peer).1 (heard gone).1 (written peer).1 (written gone).1)
      → IfOk status (λ s. (written gone).1.unflushed ≡ [])
      → AnswersOne heard written peer gone old new status
  answered_one old new peer gone (Ok status) (first, takes, through, is, ended) cause flushed = record {
    answers = record { first = Some first; there = (takes, inr ended); through = through };
    counts = is;
    cause = flushed;
  }
  answered_one old new peer gone (Err io.Read) (got, consumed, unfinished, through, same) cause flushed = record {
    answers = record { first = None; there = (same, cause); through = through };
    counts = refl;
    cause = tt;
  }
  answered_one old new peer gone (Err io.Write) (first, takes, through, inl begun) cause flushed = record {
    answers = record { first = Some first; there = (takes, inl (begun, cause)); through = through };
    counts = refl;
    cause = cause;
  }
  answered_one old new peer gone (Err io.Write) (first, takes, through, inr ended) cause flushed = record {
    answers = record { first = Some first; there = (takes, inr ended); through = through };
    counts = refl;
    cause = cause;
  }

  module _ {O : Type 0} (known : Known P O) where
    -- a connection that was taken, answered and ended
    pub next_peer : (door mid left : Door (Caller P O)) (old new : Shown) (peer after : P) (answered : Answered)
        → known.is_new (Peer peer)
        → Takes Waiting door mid (Peer peer) → AnswersOne heard written peer after old new answered
        → EndsPeer known.is_ended mid left after (written_whole answered)
        → AnswersNext heard written known door left old new
    next_peer door mid left old new peer after answered fresh takes next (gone, is, ends) =
        let close : List (Done (Caller P O)) =
        ([], deed.Left (Peer after) (written_whole answered)) ∷ ([], deed.Ended (Peer gone)) ∷ [] in
        record {
          call = OfPeer (record { before = peer; after = after; gone = gone; first = next.answers.first }) answered;
          came = subst (λ w. Come door.0 w (Peer peer ∷ [])) (sym ends.waits) takes.comes;
          done = ends.noted ∙ (ap (λ m. m ++ close) takes.noted
              ∙ append_assoc door.1 (([], deed.Taken Waiting (Peer peer)) ∷ []) close);
          served = (fresh, (next.answers.there, next.counts, next.cause), is);
          through = next.answers.through;
        }

    -- a connection that could not be taken
    pub next_untaken : (door left : Door (Caller P O)) (shown : Shown) → TakesNoPeer door left
        → AnswersNext heard written known door left shown shown
    next_untaken door left shown takes = record {
      call = Untaken;
      came = takes.comes;
      done = takes.noted;
      served = tt;
      through = through_none shown;
    }

    pub each_none : (door : Door (Caller P O)) (shown : Shown) → AnswersEach heard written known door door shown shown 0
    each_none door shown = record {
      calls = [];
      count = refl;
      came = none_come door.0;
      done = sym (append-nil door.1);
      served = All-nil (IsServed heard written known);
      through = through_none shown;
    }

    -- one more after others
    pub each_more : (door mid left : Door (Caller P O)) (old now new : Shown) (n : ℕ)
        → AnswersEach heard written known door mid old now n → AnswersNext heard written known mid left now new
        → AnswersEach heard written known door left old new (n + 1)
    each_more door mid left old now new n first next = record {
      calls = first.calls ++ next.call ∷ [];
      count = length-append first.calls (next.call ∷ []) ∙ ap (λ k. k + 1) first.count;
      came = subst (Come door.0 left.0) (sym (peers_last first.calls next.call))
          (then_come door.0 mid.0 left.0 (peers_of first.calls) (peers_of (next.call ∷ [])) first.came next.came);
      done = next.done ∙ (ap (λ m. m ++ deeds_of next.call) first.done
          ∙ (append_assoc door.1 (deeds_with first.calls) (deeds_of next.call)
          ∙ ap (λ l. door.1 ++ l) (sym (deeds_last first.calls next.call))));
      served = All-push (IsServed heard written known) first.calls next.call first.served next.served;
      through = subst (GoesThrough old new) (sym (exchanges_last first.calls next.call))
          (through_more old now new (exchanges_in first.calls) first.through (exchanges_at next.call) next.through);
    }
