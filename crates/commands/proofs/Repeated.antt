-- A list that was imported whole changes nothing when it is imported again.
use Rattle.std.proofs.Common.{◌≡◌, ◌⊎◌, ◌++◌, ◌&&◌, ◌∙◌, ℕ, List, [], ◌∷◌, Bool, true, false, Option, Some, None, Ok}
use Rattle.std.proofs.Common.{Err, refl, sym, ap, subst, inl, inr, map}
use Rattle.std.specs.Prelude.{is_some, if◌then◌else◌}
use Rattle.std.specs.List.{list_all}
use Rattle.std.proofs.lemmas.Bool.{and_parts}
use Rattle.csv.specs.Machine.{Read, next_record}
use Rattle.csv.specs.Reading.{Reached, default_config, strip_bom}
use Rattle.csv.specs.declared.parser.Config.{Config}
use Rattle.csv.specs.declared.parser.State.{State}
use Rattle.csv.specs.declared.parser.State.TheVariants as st
use Rattle.modver.specs.SemanticVersion.{SemanticVersion}
use Rattle.modver.specs.Reading.{version_of}
use Rattle.machine.specs.Immutability.{AllAccepted, AllSameOrFailed, IsAcceptance, IsAccepted, IsFailed, puts}
use Rattle.machine.specs.Machine.{Run, after, request_reply}
use Rattle.machine.specs.declared.request.Request.{Request}
use Rattle.machine.specs.declared.request.Request.TheVariants.{Put}
use Rattle.machine.specs.declared.request.Body.{Body}
use Rattle.machine.specs.declared.request.Event.{Event}
use Rattle.machine.specs.declared.request.Event.TheVariants.{Requested}
use Rattle.machine.specs.declared.request.GivenTime.{GivenTime}
use Rattle.machine.specs.declared.request.Publish.{Publish}
use Rattle.machine.specs.declared.reply.Answer.{Answer}
use Rattle.machine.specs.declared.reply.Answer.TheVariants.{Replied, Failed}
use Rattle.machine.specs.declared.reply.Decision.{Decision}
use Rattle.machine.specs.declared.reply.Decision.TheVariants as decision
use Rattle.machine.specs.declared.reply.ContentRefusal.{ContentRefusal}
use Rattle.machine.specs.declared.reply.ContentRefusal.TheVariants as refusal
use Rattle.machine.specs.declared.reply.Reply.{Reply}
use Rattle.machine.specs.declared.reply.Reply.TheVariants as reply
use Rattle.machine.proofs.Repeated.{repeated_list_changes_nothing}
use Rattle.engine.specs.Reply.{refusal_of}
use Rattle.wire.specs.Reply.{fixed_status}
use Rattle.wire.specs.declared.reply.Fixed.TheVariants as fixed
use Rattle.world.specs.Forms.{path_of}
use Rattle.world.specs.World.{World, gomod_limit, zip_limit}
use Rattle.world.specs.declared.registry.StoreFault.TheVariants.{Memory}
use Rattle.commands.specs.Import as spec
use Rattle.commands.specs.Import.{Done, DoneRow, Answers, HasNoFile, Unfetched, answers, answers_of}
use Rattle.commands.specs.Import.{events, events_of, outcome_of}
use Rattle.commands.specs.ImportFiles.{IsReadable}
use Rattle.commands.specs.ImportLine.{accepts_outcome}
use Rattle.commands.specs.ImportList.{Line, Meets, fields_of_line}
use Rattle.commands.specs.Publish.{accepts, answer_of, asked_at, given_time}
use Rattle.commands.specs.Repetition.{AreRepeats, RepeatedImportChangesNothing}
use Rattle.commands.specs.declared.import.Closing.{Closing}
use Rattle.commands.specs.declared.import.Closing.TheVariants as closing
use Rattle.commands.specs.declared.import.Ending.TheVariants.{AllIn, SomeOut}
use Rattle.commands.specs.declared.import_line.RowOutcome.TheVariants as outcome
use Rattle.commands.specs.declared.sources.SourceFault.TheVariants as source
use Rattle.commands.proofs.KnownFiles.{AreDone, IsBodyOf, IsDone, IsRead, all_told}

-- ---- a list is read in one way

abbrev read_or : Read → Option Read → Read
read_or p None = p
read_or p (Some q) = q

no_read : (p : Read) → Some p ≡ None → ⊥
no_read p e = cc e

-- the rows are the first of others
abbrev AreFront : List (List (List ℕ)) → List (List (List ℕ)) → Type 0
AreFront [] qs = Unit {0}
AreFront (r ∷ rs) [] = ⊥
AreFront (r ∷ rs) (q ∷ qs) = (r ≡ q) × AreFront rs qs

-- the rows that were read from a text are the first of all its rows
front_of_all : (cfg : Config) (s s1 s2 : State) (xs y1 y2 : List ℕ) (rs qs : List (List (List ℕ)))
    → Reached cfg s xs rs s1 y1 → Reached cfg s xs qs s2 y2
    → next_record cfg s2 [] [] y2 ≡ None → AreFront rs qs
unfolding Reached
front_of_all cfg s s1 s2 xs y1 y2 [] qs some all end = tt
front_of_all cfg s s1 s2 xs y1 y2 (r ∷ rs) [] some all end =
    let more : next_record cfg s2 [] [] y2 ≡ Some some.0 =
    subst (λ y. next_record cfg s2 [] [] y ≡ Some some.0) all.1
    (subst (λ x. next_record cfg x [] [] xs ≡ Some some.0) all.0 some.1) in
    absurd (no_read some.0 (sym more ∙ end))
front_of_all cfg s s1 s2 xs y1 y2 (r ∷ rs) (q ∷ qs) some all end =
    let same : some.0 ≡ all.0 = ap (read_or some.0) (sym some.1 ∙ all.1) in
    let there : Reached cfg all.0.1 all.0.2 rs s1 y1 =
    subst (λ (p : Read). Reached cfg p.1 p.2 rs s1 y1) same some.3 in (
      some.2 ∙ ap (λ (p : Read). p.0) same
          ∙ sym all.2,
      front_of_all cfg all.0.1 s1 s2 all.0.2 y1 y2 rs qs there all.3 end,
    )

abbrev line_in : List (List ℕ) → Line
line_in (path ∷ version ∷ time ∷ gomod ∷ zip ∷ []) =
    record { path = path; version = version; time = time; gomod = gomod; zip = zip }
line_in fields = record { path = []; version = []; time = []; gomod = []; zip = [] }

-- the rows of the first import are the first rows of the second
abbrev AreFirstOf : List DoneRow → List DoneRow → Type 0
AreFirstOf [] us = Unit {0}
AreFirstOf (t ∷ ts) [] = ⊥
AreFirstOf (t ∷ ts) (u ∷ us) = (t.line ≡ u.line) × AreFirstOf ts us

first_of : (ts us : List DoneRow)
    → AreFront (map (λ (t : DoneRow). fields_of_line t.line) ts) (map (λ (t : DoneRow). fields_of_line t.line) us)
    → AreFirstOf ts us
first_of [] us front = tt
first_of (t ∷ ts) [] front = absurd front
first_of (t ∷ ts) (u ∷ us) front = (ap line_in front.0, first_of ts us front.1)

again_first : (text : List ℕ) (ts us : List DoneRow) → spec.AreFirst (Some text) ts
    → Meets (Some text) (spec.rows_of us) (λ next. next ≡ None) → AreFirstOf ts us
again_first text [] us first whole = tt
again_first text (t ∷ ts) us (s1, y1, some, _) (s2, y2, all, end) =
    let front = front_of_all default_config st.StartRecord s1 s2 (strip_bom text) y1 y2 (spec.rows_of (t ∷ ts))
    (spec.rows_of us) some all end in
    first_of (t ∷ ts) us front.1

-- ---- a row that was accepted

refused : (why : ContentRefusal) → accepts (fixed_status (refusal_of why)) ≡ true → ⊥
refused refusal.MajorMismatch is = cc is
refused refusal.BadTime is = cc is
refused refusal.TimeMismatch is = cc is
refused (refusal.BadGoMod line) is = cc is
refused refusal.ModulePath is = cc is
refused refusal.IncompatibleGoMod is = cc is

-- a decision that is answered 200 or 201 accepts the publish
decided : (d : Decision) → accepts (fixed_status (answer_of (Ok (reply.Decided d)))) ≡ true → IsAccepted d
decided decision.Published is = tt
decided decision.Same is = tt
decided decision.NotFound is = absurd (cc is)
decided decision.Forbidden is = absurd (cc is)
decided decision.BadLength is = absurd (cc is)
decided decision.TooLarge is = absurd (cc is)
decided (decision.Refused why) is = absurd (refused why is)
decided decision.Conflict is = absurd (cc is)
decided decision.Full is = absurd (cc is)

-- a reply that is answered 200 or 201 is a decision that accepts the publish
accepted : (r : Reply) → accepts (fixed_status (answer_of (Ok r))) ≡ true
    → (d : Decision) × (r ≡ reply.Decided d) × IsAccepted d
accepted (reply.Decided d) is = (d, refl, decided d is)
accepted reply.NotFound is = absurd (cc is)
accepted (reply.GoMod b) is = absurd (cc is)
accepted (reply.Zip b) is = absurd (cc is)
accepted (reply.Info version time) is = absurd (cc is)
accepted (reply.Versions versions) is = absurd (cc is)
accepted (reply.Paths paths) is = absurd (cc is)
accepted (reply.Registry outcome) is = absurd (cc is)

no_decision : (d : Decision) → reply.Decided d ≡ reply.NotFound → ⊥
no_decision d e = cc e

-- a request that got a decision is a publish, and with each key it is that publish
asked_put : (key : List ℕ) (path : Option (List ℕ)) (version : Option SemanticVersion) (time : GivenTime) (body : Body)
    (w : World) (d : Decision)
    → reply.Decided d ≡ request_reply w (asked_at key path version time body)
    → (p : Publish) × ((k : List ℕ) → asked_at k path version time body ≡ Put k p)
    × (is_some path && is_some version ≡ true)
asked_put key (Some path) (Some version) time body w d is =
    (record { path = path; version = version; body = Some body; time = time }, λ k. refl, refl)
asked_put key (Some path) None time body w d is = absurd (no_decision d is)
asked_put key None (Some version) time body w d is = absurd (no_decision d is)
asked_put key None None time body w d is = absurd (no_decision d is)

module _ (files : List ℕ → Option (List ℕ)) where
  -- the row asks this publish with each key
  record Asks (l : Line) (p : Publish) : Type 0 where
    body : Body
    had : IsBodyOf files l (Ok body)
    asks : (key : List ℕ) → spec.request_of key l body ≡ Put key p
    readable : IsReadable l

  -- each row asks the publish at its index
  abbrev AskEach : List DoneRow → List Publish → Type 0
  AskEach [] [] = Unit {0}
  AskEach [] (p ∷ ps) = ⊥
  AskEach (t ∷ ts) [] = ⊥
  AskEach (t ∷ ts) (p ∷ ps) = Asks t.line p × AskEach ts ps

  -- what was done with a row that was accepted
  record Accepted (key : List ℕ) (l : Line) (d : Done) : Type 0 where
    publish : Publish
    asks : Asks l publish
    event : events_of d ≡ Requested (Put key publish) ∷ []
    told : Answer
    answer : answers_of d ≡ told ∷ []
    accepts : IsAcceptance told

  -- a row that was accepted is a publish that the machine accepted
  row_accepted : (key : List ℕ) (w new : World) (l : Line) (d : Done) (es : List Event) (told : List Answer)
      → IsDone files key l d
      → accepts_outcome (outcome_of d) ≡ true → Run w (events_of d ++ es) (answers_of d ++ told) new → Accepted key l d
  row_accepted key w new l (Answers request (Replied r)) es told (body, had, is) accepts run =
      let (d, decides, accepting) = accepted r accepts in
      let put = asked_put key (path_of l.path) (version_of l.version) (given_time (spec.time_of l.time)) body w d
      (sym decides ∙ run.0 ∙ ap (request_reply w) is) in
      record {
        publish = put.0;
        asks = record { body = body; had = had; asks = put.1; readable = put.2 };
        event = ap (λ (a : Request). Requested a ∷ []) (is ∙ put.1 key);
        told = Replied (reply.Decided d);
        answer = ap (λ (x : Reply). Replied x ∷ []) decides;
        accepts = accepting;
      }
  row_accepted key w new l (Answers request (Failed fault)) es told done accepts run = absurd (cc accepts)
  row_accepted key w new l HasNoFile es told done accepts run = absurd (cc accepts)
  row_accepted key w new l Unfetched es told done accepts run = absurd (cc accepts)

  -- what was done by an import whose rows were all accepted
  record TookAll (key : List ℕ) (done_rows : List DoneRow) : Type 0 where
    publishes : List Publish
    asks : AskEach done_rows publishes
    are : events done_rows ≡ puts key publishes
    accepts : AllAccepted (answers done_rows)

  run_after : (w new : World) (e : Event) (a : Answer) (es : List Event) (told : List Answer)
      → Run w (e ∷ es) (a ∷ told) new → (v : World) × Run v es told new
  run_after w new e (Replied r) es told run = (after w e, run.1)
  run_after w new e (Failed fault) es told run = (w, run)

  -- rows that were all accepted are publishes that the machine accepted
  all_in : (key : List ℕ) (w new : World) (done_rows : List DoneRow) → AreDone files key done_rows
      → list_all spec.is_accepted done_rows ≡ true
      → Run w (events done_rows) (answers done_rows) new → TookAll key done_rows
  all_in key w new [] done all run = record { publishes = []; asks = tt; are = refl; accepts = tt }
  all_in key w new (t ∷ ts) done all run =
      let (here, others) = and_parts (spec.is_accepted t) (list_all spec.is_accepted ts) all in
      let row = row_accepted key w new t.line t.done (events ts) (answers ts) done.0 here run in
      let whole : Run w (Requested (Put key row.publish) ∷ events ts) (row.told ∷ answers ts) new =
      subst (λ xs. Run w (Requested (Put key row.publish) ∷ events ts) (xs ++ answers ts) new) row.answer
      (subst (λ es. Run w (es ++ events ts) (answers_of t.done ++ answers ts) new) row.event run) in
      let (v, later) = run_after w new (Requested (Put key row.publish)) row.told (events ts) (answers ts) whole in
      let rest = all_in key v new ts done.1 others later in
      record {
        publishes = row.publish ∷ rest.publishes;
        asks = (row.asks, rest.asks);
        are = ap (λ es. es ++ events ts) row.event ∙ ap (λ es. Requested (Put key row.publish) ∷ es) rest.are;
        accepts = subst (λ xs. AllAccepted (xs ++ answers ts)) (sym row.answer) (row.accepts, rest.accepts);
      }

  -- ---- the rows again

  read_once : (most : ℕ) (known : Option (List ℕ)) (xs ys : List ℕ)
      → IsRead most known (Ok xs) → IsRead most known (Ok ys) → xs ≡ ys
  read_once most None xs ys a b = absurd a
  read_once most (Some all) xs ys a b = a ∙ sym b

  read_or_none : (most : ℕ) (known : Option (List ℕ)) (xs : List ℕ)
      → IsRead most known (Ok xs) → IsRead most known (Err source.NoFile) → ⊥
  read_or_none most None xs a b = a
  read_or_none most (Some all) xs a b = b

  abbrev body : List ℕ → List ℕ → Body
  body gomod zip = record { gomod = gomod; zip = zip }

  same_body : (l : Line) (b c : Body) → IsReadable l → IsBodyOf files l (Ok b) → IsBodyOf files l (Ok c) → b ≡ c
  same_body l b c readable had have =
      let (gomod, zip) = had readable in
      let (gomod_again, zip_again) = have readable in
      ap (λ g. body g b.zip) (read_once gomod_limit (files l.gomod) b.gomod c.gomod gomod gomod_again)
      ∙ ap (body c.gomod) (read_once zip_limit (files l.zip) b.zip c.zip zip zip_again)

  has_files : (l : Line) (p : Publish) → Asks l p → IsBodyOf files l (Err source.NoFile) → ⊥
  has_files l p asks (readable, none) =
      let (gomod, zip) = asks.had asks.readable in
      elim none [
        | inl g ↦ read_or_none gomod_limit (files l.gomod) asks.body.gomod gomod g
        | inr z ↦ read_or_none zip_limit (files l.zip) asks.body.zip zip z
      ]

  -- a row that is done again with another key asks the same publish
  asked_again : (key : List ℕ) (l : Line) (p : Publish) (request : Request) (answer : Answer) → Asks l p
      → IsDone files key l (Answers request answer) → request ≡ Put key p
  asked_again key l p request answer asks (b, had, is) =
      is ∙ ap (spec.request_of key l) (same_body l b asks.body asks.readable had asks.had) ∙ asks.asks key

  -- the answer of a row, or a fault if the machine was not asked
  abbrev answer_in : Done → Answer
  answer_in (Answers request answer) = answer
  answer_in HasNoFile = Failed Memory
  answer_in Unfetched = Failed Memory

  -- an answer for each publish, which is a fault for those that the machine was not asked
  abbrev padded : List Publish → List DoneRow → List Answer
  padded [] ts = []
  padded (p ∷ ps) [] = Failed Memory ∷ padded ps []
  padded (p ∷ ps) (t ∷ ts) = answer_in t.done ∷ padded ps ts

  -- a run over a row that is done again is a run over its publish
  one_again : (key : List ℕ) (w new : World) (l : Line) (d : Done) (p : Publish) (es fs : List Event)
      (told more : List Answer) → Asks l p → IsDone files key l d
      → ((v : World) → Run v es told new → Run v fs more new) → Run w (events_of d ++ es) (answers_of d ++ told) new
      → Run w (Requested (Put key p) ∷ fs) (answer_in d ∷ more) new
  one_again key w new l (Answers request (Replied r)) p es fs told more asks done go run =
      let same = asked_again key l p request (Replied r) asks done in
      let whole : Run w (Requested (Put key p) ∷ es) (Replied r ∷ told) new =
      subst (λ (a : Request). Run w (Requested a ∷ es) (Replied r ∷ told) new) same run in
      (whole.0, go (after w (Requested (Put key p))) whole.1)
  one_again key w new l (Answers request (Failed fault)) p es fs told more asks done go run = go w run
  one_again key w new l HasNoFile p es fs told more asks done go run = absurd (has_files l p asks done)
  one_again key w new l Unfetched p es fs told more asks done go run = go w run

  -- a run over rows that are done again is a run over their publishes
  all_again : (key : List ℕ) (w new : World) (us ts : List DoneRow) (ps : List Publish) → AskEach us ps
      → AreFirstOf ts us → AreDone files key ts
      → Run w (events ts) (answers ts) new → Run w (puts key ps) (padded ps ts) new
  all_again key w new [] [] [] asks first done run = run
  all_again key w new [] [] (p ∷ ps) asks first done run = absurd asks
  all_again key w new [] (t ∷ ts) ps asks first done run = absurd first
  all_again key w new (u ∷ us) ts [] asks first done run = absurd asks
  all_again key w new (u ∷ us) [] (p ∷ ps) asks first done run = all_again key w new us [] ps asks.1 tt tt run
  all_again key w new (u ∷ us) (t ∷ ts) (p ∷ ps) asks first done run =
      one_again key w new t.line t.done p (events ts) (puts key ps) (answers ts) (padded ps ts)
      (subst (λ l. Asks l p) (sym first.0) asks.0) done.0
      (λ v so. all_again key v new us ts ps asks.1 first.1 done.1 so) run

  -- a row that is done again and got `Same` or a fault is answered `200 already published` or 503
  repeat : (key : List ℕ) (l : Line) (d : Done) (p : Publish) → Asks l p → IsDone files key l d
      → (answer_in d ≡ Replied (reply.Decided decision.Same)) ⊎ IsFailed (answer_in d)
      → (outcome_of d ≡ outcome.Answered fixed.AlreadyPublished) ⊎ (outcome_of d ≡ outcome.Answered fixed.Unavailable)
  repeat key l (Answers request (Replied r)) p asks done (inl same) =
      inl (ap (λ a. outcome.Answered (spec.fixed_answer a)) same)
  repeat key l (Answers request (Replied r)) p asks done (inr fails) = absurd fails
  repeat key l (Answers request (Failed fault)) p asks done got = inr refl
  repeat key l HasNoFile p asks done got = absurd (has_files l p asks done)
  repeat key l Unfetched p asks done got = inr refl

  repeats : (key : List ℕ) (us ts : List DoneRow) (ps : List Publish) → AskEach us ps → AreFirstOf ts us
      → AreDone files key ts → AllSameOrFailed (padded ps ts)
      → AreRepeats ts
  repeats key us [] ps asks first done same = tt
  repeats key [] (t ∷ ts) ps asks first done same = absurd first
  repeats key (u ∷ us) (t ∷ ts) [] asks first done same = absurd asks
  repeats key (u ∷ us) (t ∷ ts) (p ∷ ps) asks first done same = (
    repeat key t.line t.done p (subst (λ l. Asks l p) (sym first.0) asks.0) done.0 same.0,
    repeats key us ts ps asks.1 first.1 done.1 same.1,
  )

-- ---- the whole import

all_or_some : (b : Bool) → AllIn ≡ (if b then AllIn else SomeOut) → b ≡ true
all_or_some true e = refl
all_or_some false e = absurd (cc e)

-- an import that ended as all accepted did all rows of its list, and each was accepted
whole_list : (text : List ℕ) (done_rows : List DoneRow) (n : ℕ) (why : Closing)
    → spec.IsOver (Some text) done_rows n why → AllIn ≡ spec.ending_of (list_all spec.is_accepted done_rows) why
    → (list_all spec.is_accepted done_rows ≡ true) × Meets (Some text) (spec.rows_of done_rows) (λ next. next ≡ None)
whole_list text done_rows n closing.End (inl over) ends =
    (all_or_some (list_all spec.is_accepted done_rows) ends, over.1)
whole_list text done_rows n closing.End (inr over) ends = absurd over.2
whole_list text done_rows n closing.BadRow over ends = absurd (cc ends)
whole_list text done_rows n closing.ReadError over ends = absurd (cc ends)

-- importing a list again that was imported whole changes nothing
pub repeated_import_changes_nothing : RepeatedImportChangesNothing
repeated_import_changes_nothing files text k again s old mid later new done_rows repeated between told is own
    first (n, why, over, ends) after may second =
    let (accepts, whole) = whole_list text done_rows n why over ends in
    let took = all_in files k old mid done_rows (all_told files k done_rows first.deeds first.done first.told) accepts
    first.run in
    let front = again_first text repeated done_rows second.first whole in
    let once : Run old (puts k took.publishes) (answers done_rows) mid =
    subst (λ es. Run old es (answers done_rows) mid) took.are first.run in
    let done = all_told files again repeated second.deeds second.done second.told in
    let twice = all_again files again later new done_rows repeated took.publishes took.asks front done second.run in
    let law = repeated_list_changes_nothing old mid later new s k again took.publishes between (answers done_rows) told
    (padded files took.publishes repeated)
    is own once took.accepts after may twice in
    (repeats files again done_rows repeated took.publishes took.asks front done law.0, law.1)
