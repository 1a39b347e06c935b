-- Lists of callers, and what a store goes through for them.
use Rattle.std.specs.Prelude.{◌||◌}
use Rattle.std.proofs.Common.{Bool, true, false, ℕ, ◌+◌, ◌≤◌, ◌≡◌, refl, sym, ap, ◌∙◌, subst, List, [], ◌∷◌, ◌++◌}
use Rattle.std.proofs.Common.{length, inl, inr, arith, append_assoc}
use Rattle.std.proofs.Common.{append-nil}
use Rattle.std.proofs.lemmas.Bool.{false≢true}
use Rattle.std.proofs.lemmas.List.Elements.{All-append, All-cons, All-nil}
use Rattle.world.specs.Store.{Shown}
use Rattle.control.specs.Copying.{Step, tasks_in, has_read, IsOnlyRead}
use Rattle.control.specs.Health.{Answered, tally_of, with_one}
use Rattle.control.specs.Progress.{IsOver}
use Rattle.control.specs.Serving.{AllTold, EndsBy}
use Rattle.control.specs.Serving.{tally_after}
use Rattle.control.specs.Tasks.{Task, GoesThroughTasks, StandsIf}
use Rattle.control.specs.Visits.{Call, OfPeer, OfOperator, Untaken, AllTallied}
use Rattle.control.specs.Visits.{IsEnd, IsNoStop, IsStop, TellsTally}
use Rattle.control.specs.Visits.{answered_with, callers_of, connections_of, peers, steps_of, steps_with}
use Rattle.socket.specs.declared.callers.Caller.TheVariants.{Peer, Operator}
use Rattle.control.specs.declared.tally.Tally.{Tally}
use Rattle.control.proofs.StepLemmas.{read_append, tasks_append}
use Rattle.control.proofs.TallyLemmas.{answered_last, tally_push}
use Rattle.control.proofs.TaskLemmas.{read_none, tasks_more, tasks_none, tasks_read}

-- ---- lists of callers

pub none_ends : (P O : Type 0) (stops : Bool) → EndsBy {P = P} {O = O} stops stops []
none_ends P O true = (refl, refl)
none_ends P O false = All-nil IsNoStop

pub tally_append : (t : Tally) (xs ys : List Answered) → tally_after t (xs ++ ys) ≡ tally_after (tally_after t xs) ys
tally_append t [] ys = refl
tally_append t (answered ∷ xs) ys = tally_append (with_one t answered) xs ys

module _ {P O : Type 0} where
  pub callers_append : (xs ys : List (Call P O)) → callers_of (xs ++ ys) ≡ callers_of xs ++ callers_of ys
  callers_append [] ys = refl
  callers_append (OfPeer visit answered ∷ xs) ys = ap (λ more. Peer visit.before ∷ more) (callers_append xs ys)
  callers_append (OfOperator audience ∷ xs) ys = ap (λ more. Operator audience.before ∷ more) (callers_append xs ys)
  callers_append (Untaken ∷ xs) ys = callers_append xs ys

  pub connections_append : (xs ys : List (Call P O)) → connections_of (xs ++ ys) ≡ connections_of xs + connections_of ys
  connections_append [] ys = omega arith
  connections_append (OfPeer visit answered ∷ xs) ys = let e = connections_append xs ys in omega (arith, e)
  connections_append (OfOperator audience ∷ xs) ys = connections_append xs ys
  connections_append (Untaken ∷ xs) ys = let e = connections_append xs ys in omega (arith, e)

  pub answered_append : (xs ys : List (Call P O)) → answered_with (xs ++ ys) ≡ answered_with xs ++ answered_with ys
  answered_append [] ys = refl
  answered_append (OfPeer visit answered ∷ xs) ys = ap (λ more. answered ∷ more) (answered_append xs ys)
  answered_append (OfOperator audience ∷ xs) ys = answered_append xs ys
  answered_append (Untaken ∷ xs) ys = answered_append xs ys

  pub steps_append : (xs ys : List (Call P O)) → steps_with (xs ++ ys) ≡ steps_with xs ++ steps_with ys
  steps_append [] ys = refl
  steps_append (call ∷ xs) ys =
      ap (λ more. steps_of call ++ more) (steps_append xs ys)
      ∙ sym (append_assoc (steps_of call) (steps_with xs) (steps_with ys))

  pub peers_few : (calls : List (Call P O)) → peers calls ≤ connections_of calls
  peers_few [] = omega arith
  peers_few (OfPeer visit answered ∷ calls) = let e = peers_few calls in omega (arith, e)
  peers_few (OfOperator audience ∷ calls) = peers_few calls
  peers_few (Untaken ∷ calls) = let e = peers_few calls in omega (arith, e)

  -- ---- what was told of them

  pub told_append : (t : Tally) (xs ys : List (Call P O)) → AllTold t xs → AllTold (tally_after t (answered_with xs)) ys
      → AllTold t (xs ++ ys)
  told_append t [] ys all more = more
  told_append t (OfPeer visit answered ∷ xs) ys all more = told_append (with_one t answered) xs ys all more
  told_append t (OfOperator audience ∷ xs) ys all more = (all.0, told_append t xs ys all.1 more)
  told_append t (Untaken ∷ xs) ys all more = told_append t xs ys all more

  -- the tallies from the beginning on
  pub all_tallied : (since : List ℕ) (before calls : List (Call P O)) (t : Tally)
      → t ≡ tally_of since (answered_with before) → AllTold t calls → AllTallied since before calls
  all_tallied since before [] t is all = tt
  all_tallied since before (OfPeer visit answered ∷ calls) t is all = (
    tt,
    all_tallied since (before ++ OfPeer visit answered ∷ []) calls (with_one t answered)
        (ap (λ u. with_one u answered) is ∙ tally_push since (answered_with before) answered
        ∙ ap (tally_of since) (sym (answered_last before (OfPeer visit answered)))) all,
  )
  all_tallied since before (OfOperator audience ∷ calls) t is all = (
    subst (λ u. TellsTally u audience.heard) is all.0,
    all_tallied since (before ++ OfOperator audience ∷ []) calls t
        (is ∙ ap (tally_of since) (sym (answered_last before (OfOperator audience)
        ∙ append-nil (answered_with before)))) all.1,
  )
  all_tallied since before (Untaken ∷ calls) t is all = (
    tt,
    all_tallied since (before ++ Untaken ∷ []) calls t
        (is ∙ ap (tally_of since) (sym (answered_last before Untaken ∙ append-nil (answered_with before)))) all,
  )

  -- ---- how they end

  pub ends_append : (a b c : Bool) (xs ys : List (Call P O)) → EndsBy a b xs → EndsBy b c ys → EndsBy a c (xs ++ ys)
  ends_append true true c xs ys one two = (two.0, λ i. one.1 i ++ two.1 i)
  ends_append true false c xs ys one two = absurd (false≢true one.0)
  ends_append false true true xs ys one two =
      (one.0, one.1, (λ i. xs ++ two.1 i) ∙ append-nil xs ∙ one.2, one.3, one.4)
  ends_append false true false xs ys one two = absurd (false≢true two.0)
  ends_append false false true xs ys one two = (
    xs ++ two.0,
    two.1,
    ap (λ more. xs ++ more) two.2 ∙ sym (append_assoc xs two.0 (two.1 ∷ [])),
    All-append IsNoStop xs two.0 one two.3,
    two.4,
  )
  ends_append false false false xs ys one two = All-append IsNoStop xs ys one two

  -- a caller who is not told that the server ends
  pub goes_on : (a b : Bool) → a ≡ false → b ≡ a → (call : Call P O) → IsNoStop call → EndsBy a b (call ∷ [])
  goes_on true b going same call never = absurd (false≢true (sym going))
  goes_on false true going same call never = absurd (false≢true (sym same))
  goes_on false false going same call never = All-cons IsNoStop call [] never (All-nil IsNoStop)

  -- a caller who may be told so
  pub may_end : (a stops b : Bool) (call : Call P O) → a ≡ false → b ≡ (a || stops) → (stops ≡ true → IsStop call)
      → (stops ≡ false → IsNoStop call) → EndsBy a b (call ∷ [])
  may_end true stops b call going is ends on = absurd (false≢true (sym going))
  may_end false true true call going is ends on = ([], call, refl, All-nil IsNoStop, ends refl)
  may_end false true false call going is ends on = absurd (false≢true is)
  may_end false false true call going is ends on = absurd (false≢true (sym is))
  may_end false false false call going is ends on = All-cons IsNoStop call [] (on refl) (All-nil IsNoStop)

  -- no caller is taken any more
  pub is_end : (connections left taken : ℕ) (stops : Bool) (calls : List (Call P O)) → EndsBy false stops calls
      → connections ≡ left + connections_of calls → taken ≡ length calls → IsOver stops left taken
      → IsEnd connections calls
  is_end connections left taken true calls ends all many over = inl ends
  is_end connections left taken false calls ends all many (inl never) = absurd (false≢true never)
  is_end connections left taken false calls ends all many (inr (inl none)) =
      inr (ends, inl (omega (arith, all, none)))
  is_end connections left taken false calls ends all many (inr (inr most)) =
      inr (ends, inr (sym many ∙ most))

-- ---- what the store goes through

both_or : (read x y : Bool) → ((read || x) || (read || y)) ≡ (read || (x || y))
both_or true x y = refl
both_or false x y = refl

pub through_append : (read : Bool) (old mid new : Shown) (xs ys : List Step)
    → GoesThroughTasks old mid (tasks_in xs) (read || has_read xs)
    → GoesThroughTasks mid new (tasks_in ys) (read || has_read ys)
    → GoesThroughTasks old new (tasks_in (xs ++ ys)) (read || has_read (xs ++ ys))
through_append read old mid new xs ys first next =
    rw (tasks_append xs ys, read_append xs ys)
    (subst (GoesThroughTasks old new (tasks_in xs ++ tasks_in ys)) (both_or read (has_read xs) (has_read ys))
    (tasks_more old mid new (tasks_in xs) (read || has_read xs) first (tasks_in ys) (read || has_read ys) next))

stands_before : (read : Bool) (shown : Shown) → StandsIf true shown → StandsIf read shown
stands_before true shown some = some
stands_before false shown some = tt

-- if nothing is said of reads, it may have been read
pub read_or : (read b : Bool) (old new : Shown) (ts : List Task) → GoesThroughTasks old new ts b
    → GoesThroughTasks old new ts (read || b)
read_or true b old new ts through = record {
  runs = through.runs;
  left = through.left;
  settled = through.settled;
  untouched = λ none some. through.untouched none (stands_before b old some);
  no_fewer = through.no_fewer;
  device = through.device;
}
read_or false b old new ts through = through

-- a store that was read after some tasks
pub through_read : (old mid new : Shown) (ts : List Task) → GoesThroughTasks old mid ts true → IsOnlyRead mid new
    → GoesThroughTasks old new ts true
through_read old mid new ts first read =
    subst (λ us. GoesThroughTasks old new us true) (append-nil ts)
    (tasks_more old mid new ts true first [] true (tasks_read mid new read))

pub none_through : (read : Bool) (shown : Shown) → GoesThroughTasks shown shown [] (read || false)
none_through true shown = tasks_read shown shown (read_none shown)
none_through false shown = tasks_none shown
