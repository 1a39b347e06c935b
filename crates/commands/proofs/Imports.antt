-- An import row by row.
use Rattle.std.proofs.Common.{◌≡◌, ◌≤◌, ◌+◌, ℕ, List, [], ◌∷◌, ◌++◌, ◌&&◌, Bool, true, false, Option, Some, None, Ok}
use Rattle.std.proofs.Common.{Err, Result, length, refl, sym, ap, subst, ◌∙◌, inl, inr, arith, append_assoc}
use Rattle.std.proofs.lemmas.List.{append-nil, map-append}
use Rattle.std.proofs.KnownBytes.{Appends-trans}
use Rattle.std.specs.Io.KnownBytes.{Appends}
use Rattle.std.specs.List.{list_all}
use Rattle.csv.specs.declared.parser.State.{State}
use Rattle.csv.specs.declared.reader.Reader.{Reader}
use Rattle.engine.specs.Causes.{FailsWith}
use Rattle.engine.specs.declared.fault.Io.{Io}
use Rattle.engine.specs.declared.fault.Io.TheVariants as io
use Rattle.engine.proofs.RunLemmas.{met_either}
use Rattle.machine.proofs.Runs.{runs_begun, runs_replied, runs_failed, runs_joined}
use Rattle.machine.specs.Machine.{request_reply, after_request, MetDevice}
use Rattle.machine.specs.Runs.{Runs}
use Rattle.machine.specs.declared.request.Request.{Request}
use Rattle.machine.specs.declared.request.Body.{Body}
use Rattle.machine.specs.declared.request.Event.TheVariants.{Requested}
use Rattle.machine.specs.declared.reply.Answer.TheVariants.{Replied, Failed}
use Rattle.machine.specs.declared.reply.Reply.{Reply}
use Rattle.wire.specs.declared.reply.Fixed.{Fixed}
use Rattle.wire.specs.declared.reply.Fixed.TheVariants.{Unavailable}
use Rattle.world.specs.Store.{Shown, Does}
use Rattle.world.specs.declared.registry.StoreFault.{StoreFault}
use Rattle.world.proofs.Causes.{grown_more, grown_before}
use Rattle.commands.specs.Import as spec
use Rattle.commands.specs.Sources.{Adds, FileDone}
use Rattle.commands.specs.Import.{Done, DoneRow, GoesThrough, Publishes, DoesRow, Imports, Answers, HasNoFile, Unfetched}
use Rattle.commands.specs.ImportFiles.{IsBodyOf}
use Rattle.commands.specs.ImportList.{HasRead, IsAt, Line, fields_of_line, header}
use Rattle.commands.specs.Printed.{IsFront, PrintsFront}
use Rattle.commands.specs.Publish.{answer_of}
use Rattle.commands.proofs.SourceLemmas.{adds_so, adds_none, adds_both}
use Rattle.commands.specs.declared.import.Closing.{Closing}
use Rattle.commands.specs.declared.import.Ending.{Ending}
use Rattle.commands.specs.declared.import_line.RowOutcome.TheVariants as outcome
use Rattle.commands.specs.declared.sources.SourceFault.TheVariants as source

-- ---- lists of done rows

pub events_more : (done_rows : List DoneRow) (t : DoneRow)
    → spec.events (done_rows ++ t ∷ []) ≡ spec.events done_rows ++ spec.events (t ∷ [])
events_more [] t = refl
events_more (u ∷ done_rows) t = ap (λ es. spec.events_of u.done ++ es) (events_more done_rows t)
    ∙ sym (append_assoc (spec.events_of u.done) (spec.events done_rows) (spec.events (t ∷ [])))

pub answers_more : (done_rows : List DoneRow) (t : DoneRow)
    → spec.answers (done_rows ++ t ∷ []) ≡ spec.answers done_rows ++ spec.answers (t ∷ [])
answers_more [] t = refl
answers_more (u ∷ done_rows) t =
    ap (λ es. spec.answers_of u.done ++ es) (answers_more done_rows t)
    ∙ sym (append_assoc (spec.answers_of u.done) (spec.answers done_rows) (spec.answers (t ∷ [])))

-- ---- one row

module _ (old new : Shown) (request : Request) where
  -- a request that the machine answered, or that met a fault, is a run of one event
  pub published : (told : Result Reply StoreFault) (answer : Fixed)
      → Does old new told (λ w. request_reply w request) (λ w. after_request w request) → answer ≡ answer_of told
      → Publishes old new request answer
  published (Ok reply) answer does is = record {
    told = Replied reply;
    runs = record {
      honest = does.honest;
      at = λ h w stands. runs_replied old new w (Requested request) reply (does.at h w stands tt);
    };
    is = is;
    no_fewer = does.cause.no_fewer;
    device = λ met. elim met [ inl e ↦ absurd (cc e) | inr never ↦ absurd never ];
  }
  published (Err fault) answer does is = record {
    told = Failed fault;
    runs = record {
      honest = does.honest;
      at = λ h w stands. runs_failed old new w (Requested request) fault _ (does.at h w stands tt);
    };
    is = is;
    no_fewer = does.cause.no_fewer;
    device = λ met. elim met [ inl e ↦ does.cause.device (cc e) | inr never ↦ absurd never ];
  }

module _ (key : List ℕ) where
  one_row : (l : Line) (d : Done) (deeds : List FileDone) → spec.IsDone key l d deeds
      → spec.AreDone key (record { line = l; done = d } ∷ []) deeds
  one_row l d deeds is = (deeds, [], sym (append-nil deeds), is, refl)

  -- a row whose files were read is a publish of them
  pub row_published : (old new : Shown) (before after : List FileDone) (l : Line) (body : Body) (answer : Fixed)
      → Adds before after (IsBodyOf l (Ok body)) → Publishes old new (spec.request_of key l body) answer
      → DoesRow old new before after key l (outcome.Answered answer)
  row_published old new before after l body answer had is =
      let done = Answers (spec.request_of key l body) is.told in
      record {
        done = done;
        through = record {
          done = adds_so (IsBodyOf l (Ok body)) (spec.AreDone key (record { line = l; done = done } ∷ [])) before after
              (λ deeds so. one_row l done deeds (body, so, refl)) had;
          runs = is.runs;
          no_fewer = is.no_fewer;
          device = is.device;
        };
        is = ap outcome.Answered is.is;
      }

  -- a row that was not asked of the machine leaves the store as it was
  pub row_without_file : (old : Shown) (before after : List FileDone) (l : Line)
      → Adds before after (IsBodyOf l (Err source.NoFile)) → DoesRow old old before after key l outcome.NoFile
  row_without_file old before after l none = record {
    done = HasNoFile;
    through = record {
      done = adds_so (IsBodyOf l (Err source.NoFile))
          (spec.AreDone key (record { line = l; done = HasNoFile } ∷ [])) before after
          (λ deeds so. one_row l HasNoFile deeds so) none;
      runs = runs_begun old;
      no_fewer = omega arith;
      device = λ never.
          absurd never;
    };
    is = refl;
  }

  pub row_unfetched : (old : Shown) (before after : List FileDone) (l : Line)
      → Adds before after (IsBodyOf l (Err source.Memory))
      → DoesRow old old before after key l (outcome.Answered Unavailable)
  row_unfetched old before after l none = record {
    done = Unfetched;
    through = record {
      done = adds_so (IsBodyOf l (Err source.Memory))
          (spec.AreDone key (record { line = l; done = Unfetched } ∷ [])) before after
          (λ deeds so. one_row l Unfetched deeds so) none;
      runs = runs_begun old;
      no_fewer = omega arith;
      device = λ never. absurd never;
    };
    is = refl;
  }

  -- an unchanged store goes through no rows
  pub nothing_done : (old : Shown) (before : List FileDone) → GoesThrough old old before before key []
  nothing_done old before = record {
    done = adds_none (spec.AreDone key []) before refl;
    runs = runs_begun old;
    no_fewer = omega arith;
    device = λ never. absurd never;
  }

  -- ---- one more row

  done_more : (done_rows : List DoneRow) (t : DoneRow) (ds es : List FileDone) → spec.AreDone key done_rows ds
      → spec.AreDone key (t ∷ []) es → spec.AreDone key (done_rows ++ t ∷ []) (ds ++ es)
  done_more [] t ds es none last = subst (λ d. spec.AreDone key (t ∷ []) (d ++ es)) (sym none) last
  done_more (u ∷ done_rows) t ds es (first, rest, same, is, more) last = (
    first,
    rest ++ es,
    ap (λ d. d ++ es) same ∙ append_assoc first rest es,
    is,
    done_more done_rows t rest es more last,
  )

  -- a store that goes through rows and then through one more goes through all of them
  pub through_more : (a b c : Shown) (before mid after : List FileDone) (done_rows : List DoneRow) (t : DoneRow)
      → GoesThrough a b before mid key done_rows
      → GoesThrough b c mid after key (t ∷ []) → GoesThrough a c before after key (done_rows ++ t ∷ [])
  through_more a b c before mid after done_rows t far next = record {
    done = adds_both (spec.AreDone key done_rows) (spec.AreDone key (t ∷ []))
        (spec.AreDone key (done_rows ++ t ∷ [])) before mid after (done_more done_rows t) far.done next.done;
    runs = subst (λ es. Runs a c es (spec.answers (done_rows ++ t ∷ []))) (sym (events_more done_rows t))
        (subst (λ told. Runs a c (spec.events done_rows ++ spec.events (t ∷ [])) told) (sym (answers_more done_rows t))
        (runs_joined a b c (spec.events done_rows) (spec.events (t ∷ [])) (spec.answers done_rows)
        (spec.answers (t ∷ [])) far.runs next.runs));
    no_fewer = omega (arith, far.no_fewer, next.no_fewer);
    device = λ met.
        elim (met_either (spec.answers done_rows) (spec.answers (t ∷ []))
        (subst MetDevice (answers_more done_rows t) met)) [
          | inl x ↦ grown_more a.failures b.failures c.failures (far.device x) next.no_fewer
          | inr x ↦ grown_before a.failures b.failures c.failures far.no_fewer (next.device x)
        ];
  }

  none_more : (done_rows : List DoneRow) (ds es : List FileDone) → spec.AreDone key done_rows ds → es ≡ []
      → spec.AreDone key done_rows (ds ++ es)
  none_more done_rows ds es are none =
      subst (spec.AreDone key done_rows) (sym (ap (λ e. ds ++ e) none ∙ append-nil ds)) are

  -- a store that goes through rows and then through none goes through the rows
  pub through_idle : (a b c : Shown) (before mid after : List FileDone) (done_rows : List DoneRow)
      → GoesThrough a b before mid key done_rows
      → GoesThrough b c mid after key [] → GoesThrough a c before after key done_rows
  through_idle a b c before mid after done_rows far idle = record {
    done = adds_both (spec.AreDone key done_rows) (spec.AreDone key []) (spec.AreDone key done_rows) before mid after
        (none_more done_rows) far.done idle.done;
    runs = subst (λ es. Runs a c es (spec.answers done_rows)) (append-nil (spec.events done_rows))
        (subst (λ xs. Runs a c (spec.events done_rows ++ []) xs) (append-nil (spec.answers done_rows))
        (runs_joined a b c (spec.events done_rows) [] (spec.answers done_rows) [] far.runs idle.runs));
    no_fewer = omega (arith, far.no_fewer, idle.no_fewer);
    device = λ met. grown_more a.failures b.failures c.failures (far.device met) idle.no_fewer;
  }

  -- ---- how an import ends

  module _ (old new : Shown) (before after : List FileDone) (list w0 w1 w2 : Option (List ℕ))
      (done_rows : List DoneRow) where
    -- an import that did these rows and printed the line that ends it does as `Imports` says
    pub closed : (n : ℕ) (why : Closing) (accepted : Bool) (result : Result Ending Io) → spec.AreFirst list done_rows
        → GoesThrough old new before after key done_rows → spec.IsOver list done_rows n why
        → accepted ≡ list_all spec.is_accepted done_rows → Appends w0 w1 (spec.lines_from 1 done_rows)
        → spec.Closes n why accepted w1 w2 result → Imports old new before after key list w0 w2 result
    closed n why accepted (Ok e) front far over all printed closes = record {
      done_rows = done_rows;
      first = front;
      through = far;
      ends = (n, why, over, closes.0 ∙ ap (λ b. spec.ending_of b why) all, Appends-trans w0 w1 w2 _ _ printed closes.1);
    }
    closed n why accepted (Err e) front far over all printed closes = record {
      done_rows = done_rows;
      first = front;
      through = far;
      ends = (closes.0, inr (n, why, closes.1.0, over, closes.1.1, Appends-trans w0 w1 w2 _ _ printed closes.1.2));
    }

    -- an import whose output broke off in the line of a row does as `Imports` says
    pub broken_off : (mid : Shown) (read : List FileDone) (n : ℕ) (t : DoneRow) (e : Io)
        → spec.AreFirst list (done_rows ++ t ∷ [])
        → GoesThrough old mid before read key done_rows → GoesThrough mid new read after key (t ∷ [])
        → Appends w0 w1 (spec.lines_from 1 done_rows) → n ≡ length done_rows + 1 → e ≡ io.Write
        → PrintsFront w1 w2 (spec.done_line n t) → Imports old new before after key list w0 w2 (Err e)
    broken_off mid read n t e first far next printed count is front = record {
      done_rows = done_rows ++ t ∷ [];
      first = first;
      through = through_more old mid new before read after done_rows t far next;
      ends = (
        is,
        inl (
          done_rows,
          t,
          front.0,
          refl,
          subst (λ k. IsFront front.0 (spec.done_line k t)) count front.1,
          Appends-trans w0 w1 w2 _ _ printed front.2,
        ),
      );
    }

-- ---- the rows so far

pub appends_none : (w : Option (List ℕ)) → Appends w w []
appends_none None = tt
appends_none (Some xs) = sym (append-nil xs)

-- the rows that a reader has read are the first of its list
begun : (list : Option (List ℕ)) (rows : List (List (List ℕ))) (state : State) (source : Option (List ℕ))
    → IsAt list rows state source
    → spec.Begins list rows
begun None rows state source at = tt
begun (Some text) rows state source (rest, is, reached) = (state, rest, reached, tt)

module _ {R : Type 0} (remaining : R → Option (List ℕ)) (list : Option (List ℕ)) where
  pub are_first : (done_rows : List DoneRow) (reader : Reader R)
      → HasRead remaining list (spec.rows_of done_rows) reader → spec.AreFirst list done_rows
  are_first [] reader read = tt
  are_first (t ∷ ts) reader read = begun list _ _ _ read.at

-- the rows with one more at the end
pub rows_more : (done_rows : List DoneRow) (t : DoneRow)
    → spec.rows_of done_rows ++ fields_of_line t.line ∷ [] ≡ spec.rows_of (done_rows ++ t ∷ [])
rows_more done_rows t = ap (λ l. header ∷ l)
    (sym (map-append (λ (u : DoneRow). fields_of_line u.line) done_rows (t ∷ [])))

lines_after : (n : ℕ) (done_rows : List DoneRow) (t : DoneRow)
    → spec.lines_from n (done_rows ++ t ∷ []) ≡ spec.lines_from n done_rows ++ spec.done_line (n + length done_rows) t
lines_after n [] t = append-nil (spec.done_line n t) ∙ ap (λ k. spec.done_line k t) (omega arith)
lines_after n (u ∷ done_rows) t =
    let same : n + 1 + length done_rows ≡ n + length (u ∷ done_rows) = omega arith in
    ap (λ l. spec.done_line n u ++ l) (lines_after (n + 1) done_rows t)
    ∙ sym (append_assoc (spec.done_line n u) (spec.lines_from (n + 1) done_rows)
    (spec.done_line (n + 1 + length done_rows) t))
    ∙ ap (λ k. (spec.done_line n u ++ spec.lines_from (n + 1) done_rows) ++ spec.done_line k t) same

-- printing the line of one more row prints the lines of all
pub lines_more : (a b c : Option (List ℕ)) (n : ℕ) (done_rows : List DoneRow) (t : DoneRow) → n ≡ length done_rows + 1
    → Appends a b (spec.lines_from 1 done_rows)
    → Appends b c (spec.done_line n t) → Appends a c (spec.lines_from 1 (done_rows ++ t ∷ []))
lines_more a b c n done_rows t count printed more =
    let same : n ≡ 1 + length done_rows = omega (arith, count) in
    subst (λ l. Appends a c l) (sym (lines_after 1 done_rows t))
    (Appends-trans a b c _ _ printed (subst (λ k. Appends b c (spec.done_line k t)) same more))

and_true : (b : Bool) → b && true ≡ b
and_true true = refl
and_true false = refl

and_assoc : (a b c : Bool) → a && (b && c) ≡ (a && b) && c
and_assoc true b c = refl
and_assoc false b c = refl

-- all rows with one more are accepted if the first ones and the last are
pub all_more : (done_rows : List DoneRow) (t : DoneRow)
    → list_all spec.is_accepted (done_rows ++ t ∷ []) ≡ list_all spec.is_accepted done_rows && spec.is_accepted t
all_more [] t = and_true (spec.is_accepted t)
all_more (u ∷ done_rows) t =
    ap (λ b. spec.is_accepted u && b) (all_more done_rows t)
    ∙ and_assoc (spec.is_accepted u) (list_all spec.is_accepted done_rows) (spec.is_accepted t)

-- ---- why an import fails

-- a call that failed because the output did, after others over which the count of its failures did not fall
pub fails_later : {T : Type 0} (a b c : ℕ) (result : Result T Io) → a ≤ b → FailsWith b c result → FailsWith a c result
fails_later a b c (Ok x) before fails = omega (arith, before, fails)
fails_later a b c (Err e) before fails = omega (arith, before, fails)
