-- The counts of those who came.
use Rattle.std.proofs.Common.{◌≡◌, ℕ, ◌+◌, ◌<◌, List, [], ◌∷◌, ◌++◌, length, refl, sym, ap, subst, Option, Some, None}
use Rattle.std.proofs.Common.{Ok, Err, All, arith, append_assoc, append-nil, map, ◌∙◌}
use Rattle.std.specs.Prelude.{Bool, cond, count_by}
use Rattle.std.proofs.lemmas.List.{length-append}
use Rattle.std.proofs.lemmas.List.Elements.{All-append, All-cons, All-nil}
use Rattle.std.proofs.lemmas.List.Sums.{sum_by_push, count_by-le-length}
use Rattle.engine.specs.Exchange.{Exchange}
use Rattle.socket.specs.Connections.{exchanges_of}
use Rattle.control.specs.Copying.{Making, Step, OfTask, Counted, LookedUp, TellsSince}
use Rattle.control.specs.Health.{Answered, AreBelow, IsPinged, is_of_class, is_unanswered, one_if, tally_of, with_one}
use Rattle.control.specs.Hearing.{Heard, Carried, Made, Listed, Pinged, Named, Stop, NoOrder, NoMemory}
use Rattle.control.specs.Visits.{Call, OfPeer, OfOperator, Untaken, AllTallied, CameIf, IsTallied, TellsTally}
use Rattle.control.specs.Naming.{NamesOne, NamesNone, ReadError}
use Rattle.control.specs.Tasks.{Asked, Ordered}
use Rattle.control.specs.Visits.{answered_with, peers, steps_if, steps_with}
use Rattle.orders.specs.declared.command.RegistryCommand.TheVariants.{KeyRevoke}
use Rattle.control.specs.declared.tally.Tally.{Tally}

-- ---- one connection more

counted_push : (test : Answered → Bool) (xs : List Answered) (x : Answered)
    → count_by test xs + one_if (test x) ≡ count_by test (xs ++ x ∷ [])
counted_push test xs x = sym (sum_by_push (λ y. cond (test y) 1 0) xs x)

length_push : (xs : List Answered) (x : Answered) → length xs + 1 ≡ length (xs ++ x ∷ [])
length_push xs x = sym (length-append xs (x ∷ []))

pub tally_push : (since : List ℕ) (xs : List Answered) (x : Answered)
    → with_one (tally_of since xs) x ≡ tally_of since (xs ++ x ∷ [])
tally_push since xs x =
    let all = length_push xs x in
    let two = counted_push (is_of_class 2) xs x in
    let four = counted_push (is_of_class 4) xs x in
    let five = counted_push (is_of_class 5) xs x in
    let none = counted_push is_unanswered xs x in
    λ i. record {
      since = since;
      connections = all i;
      succeeded = two i;
      refused = four i;
      failed = five i;
      unanswered =
          none i;
    }

pub below_of : (since : List ℕ) (xs : List Answered) (most : ℕ) → length xs < most → AreBelow most (tally_of since xs)
below_of since xs most few = record {
  connections = few;
  succeeded = omega (arith, few, count_by-le-length (is_of_class 2) xs);
  refused = omega (arith, few, count_by-le-length (is_of_class 4) xs);
  failed = omega (arith, few, count_by-le-length (is_of_class 5) xs);
  unanswered = omega (arith, few, count_by-le-length is_unanswered xs);
}

-- ---- those who came

module _ {P O : Type 0} where
  pub answered_last : (calls : List (Call P O)) (last : Call P O)
      → answered_with (calls ++ last ∷ []) ≡ answered_with calls ++ answered_with (last ∷ [])
  answered_last [] last = refl
  answered_last (OfPeer visit answered ∷ calls) last = ap (λ more. answered ∷ more) (answered_last calls last)
  answered_last (OfOperator audience ∷ calls) last = answered_last calls last
  answered_last (Untaken ∷ calls) last = answered_last calls last

  pub answered_peers : (calls : List (Call P O)) → length (answered_with calls) ≡ peers calls
  answered_peers [] = refl
  answered_peers (OfPeer visit answered ∷ calls) = let e = answered_peers calls in omega (arith, e)
  answered_peers (OfOperator audience ∷ calls) = answered_peers calls
  answered_peers (Untaken ∷ calls) = answered_peers calls

  pub tallied_push : (since : List ℕ) (before calls : List (Call P O)) (last : Call P O) → AllTallied since before calls
      → IsTallied since (before ++ calls) last → AllTallied since before (calls ++ last ∷ [])
  tallied_push since before [] last all one = (subst (λ b. IsTallied since b last) (append-nil before) one, tt)
  tallied_push since before (call ∷ calls) last all one = (
    all.0,
    tallied_push since (before ++ call ∷ []) calls last all.1
        (subst (λ b. IsTallied since b last) (sym (append_assoc before (call ∷ []) calls)) one),
  )

-- a ping was told the tally of the moment
pub tells_tally : (made : Making → Type 0) (tally : Tally) (before now : ℕ)
    (counted : ℕ → Type 0)
    (heard : Option Heard) → CameIf made (IsPinged tally before now counted) heard → TellsTally tally heard
tells_tally made tally before now counted None came = tt
tells_tally made tally before now counted (Some (Carried command told)) came = tt
tells_tally made tally before now counted (Some (Made making)) came = tt
tells_tally made tally before now counted (Some (Pinged (Ok health))) came = came.0
tells_tally made tally before now counted (Some (Pinged (Err fault))) came = tt
tells_tally made tally before now counted (Some (Listed listing told)) came = tt
tells_tally made tally before now counted (Some (Named f naming)) came = tt
tells_tally made tally before now counted (Some Stop) came = tt
tells_tally made tally before now counted (Some NoOrder) came = tt
tells_tally made tally before now counted (Some NoMemory) came = tt

-- ---- when the server began

one_step : (since : List ℕ) (step : Step) → TellsSince since step → All (TellsSince since) (step ∷ [])
one_step since step tells = All-cons (TellsSince since) step [] tells (All-nil (TellsSince since))

-- a ping whose tally counts since this time was told so
since_if : (since : List ℕ) (tally : Tally) (heard : Option Heard) → tally.since ≡ since → TellsTally tally heard
    → All (TellsSince since) (steps_if heard)
since_if since tally None is told = All-nil (TellsSince since)
since_if since tally (Some (Carried command done)) is told = one_step since _ tt
since_if since tally (Some (Made making)) is told = one_step since _ tt
since_if since tally (Some (Pinged (Ok health))) is told =
    one_step since (Counted (Ok health)) (ap (λ t. t.since) told ∙ is)
since_if since tally (Some (Pinged (Err fault))) is told = one_step since _ tt
since_if since tally (Some (Listed listing done)) is told = one_step since _ tt
since_if since tally (Some (Named f (NamesOne key done))) is told =
    All-cons (TellsSince since) (LookedUp f (Ok (Some key.now))) (OfTask (Ordered (KeyRevoke key) done) ∷ []) tt
    (one_step since (OfTask (Ordered (KeyRevoke key) done)) tt)
since_if since tally (Some (Named f NamesNone)) is told = one_step since _ tt
since_if since tally (Some (Named f (ReadError fault))) is told = one_step since _ tt
since_if since tally (Some Stop) is told = All-nil (TellsSince since)
since_if since tally (Some NoOrder) is told = All-nil (TellsSince since)
since_if since tally (Some NoMemory) is told = All-nil (TellsSince since)

since_asked : (since : List ℕ) (xs : List Exchange) → All (TellsSince since) (map (λ x. OfTask (Asked x)) xs)
since_asked since [] = All-nil (TellsSince since)
since_asked since (x ∷ xs) = All-cons (TellsSince since) (OfTask (Asked x)) _ tt (since_asked since xs)

module _ {P O : Type 0} where
  -- so was each ping
  pub since_told : (since : List ℕ) (before calls : List (Call P O)) → AllTallied since before calls
      → All (TellsSince since) (steps_with calls)
  since_told since before [] all = All-nil (TellsSince since)
  since_told since before (OfPeer visit answered ∷ calls) all =
      All-append (TellsSince since) _ _ (since_asked since (exchanges_of visit.first))
      (since_told since (before ++ OfPeer visit answered ∷ []) calls all.1)
  since_told since before (OfOperator audience ∷ calls) all =
      All-append (TellsSince since) _ _
      (since_if since (tally_of since (answered_with before)) audience.heard refl all.0)
      (since_told since (before ++ OfOperator audience ∷ []) calls all.1)
  since_told since before (Untaken ∷ calls) all = since_told since (before ++ Untaken ∷ []) calls all.1
