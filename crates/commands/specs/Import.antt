-- What an import does: a run of publishes over the rows of a list.
use Rattle.std.specs.Prelude.{ℕ, ◌≡◌, ◌≢◌, ◌≤◌, ◌+◌, ◌⊎◌, List, [], ◌∷◌, ◌++◌, codes, length, map, Bool, true}
use Rattle.std.specs.Prelude.{if◌then◌else◌, Option, Some, None, Result, Ok, Err, MatchResult}
use Rattle.std.specs.List.{list_all}
use Rattle.std.specs.Io.KnownBytes.{Appends}
use Rattle.csv.specs.Reading.{has_failed}
use Rattle.csv.specs.declared.reader.Reader.{Reader}
use Rattle.engine.specs.declared.fault.Io.{Io}
use Rattle.engine.specs.declared.fault.Io.TheVariants as io
use Rattle.machine.specs.Machine.{MetDevice}
use Rattle.machine.specs.Runs.{Runs}
use Rattle.machine.specs.declared.request.Request.{Request}
use Rattle.machine.specs.declared.request.Body.{Body}
use Rattle.machine.specs.declared.request.Event.{Event}
use Rattle.machine.specs.declared.request.Event.TheVariants.{Requested}
use Rattle.machine.specs.declared.reply.Answer.{Answer}
use Rattle.machine.specs.declared.reply.Answer.TheVariants.{Replied, Failed}
use Rattle.wire.specs.declared.reply.Fixed.{Fixed}
use Rattle.wire.specs.declared.reply.Fixed.TheVariants.{Unavailable}
use Rattle.world.specs.Store.{Shown, GrewOrFull}
use Rattle.commands.specs.ImportFiles.{IsBodyOf}
use Rattle.commands.specs.ImportLine.{accepts_outcome, numbered, outcome_text}
use Rattle.commands.specs.ImportList.{HasRead, IsNoText, IsNone, Line, Meets, fields_of_line, header}
use Rattle.commands.specs.Printed.{IsFront, PrintsFront}
use Rattle.commands.specs.Publish.{answer_of, asked}
use Rattle.commands.specs.Sources.{Adds, FileDone}
use Rattle.commands.specs.declared.import.Closing.{Closing}
use Rattle.commands.specs.declared.import.Closing.TheVariants as closing
use Rattle.commands.specs.declared.import.Ending.{Ending}
use Rattle.commands.specs.declared.import.Ending.TheVariants as ending
use Rattle.commands.specs.declared.import.Step.{Step}
use Rattle.commands.specs.declared.import.Step.TheVariants as step
use Rattle.commands.specs.declared.import_line.RowOutcome.{RowOutcome}
use Rattle.commands.specs.declared.import_line.RowOutcome.TheVariants as outcome
use Rattle.commands.specs.declared.sources.SourceFault.TheVariants as source

-- ---- what is done with a row

-- the time of a field, none if it is empty
abbrev pub time_of : List ℕ → Option (List ℕ)
time_of [] = None
time_of (c ∷ cs) = Some (c ∷ cs)

-- what a row asks of the machine, with these files
abbrev pub request_of : List ℕ → Line → Body → Request
request_of key l body = asked key l.path l.version (time_of l.time) body

-- what was done with a row: the machine was asked and answered, a file could not be read, or memory ran out for the
-- files
pub data Done : Type 0 where
  Answers : Request → Answer → Done
  HasNoFile : Done
  Unfetched : Done

-- a row that was done
pub record DoneRow : Type 0 where
  pub line : Line
  pub done : Done

-- the publish that the machine was asked, and its answer
abbrev pub events_of : Done → List Event
events_of (Answers request answer) = Requested request ∷ []
events_of HasNoFile = []
events_of Unfetched = []

abbrev pub answers_of : Done → List Answer
answers_of (Answers request answer) = answer ∷ []
answers_of HasNoFile = []
answers_of Unfetched = []

abbrev pub events : List DoneRow → List Event
events [] = []
events (t ∷ ts) = events_of t.done ++ events ts

abbrev pub answers : List DoneRow → List Answer
answers [] = []
answers (t ∷ ts) = answers_of t.done ++ answers ts

-- the fixed answer to a publish: the 503 if the store met a fault
abbrev pub fixed_answer : Answer → Fixed
fixed_answer (Replied reply) = answer_of (Ok reply)
fixed_answer (Failed fault) = answer_of (Err fault)

abbrev pub outcome_of : Done → RowOutcome
outcome_of (Answers request answer) = outcome.Answered (fixed_answer answer)
outcome_of HasNoFile = outcome.NoFile
outcome_of Unfetched = outcome.Answered Unavailable

module _ (key : List ℕ) where
  -- this was done with the row, by what was read for it
  abbrev pub IsDone : Line → Done → List FileDone → Type 0
  IsDone l (Answers request answer) deeds =
      (body : Body) × IsBodyOf l (Ok body) deeds × (request ≡ request_of key l body)
  IsDone l HasNoFile deeds = IsBodyOf l (Err source.NoFile) deeds
  IsDone l Unfetched deeds = IsBodyOf l (Err source.Memory) deeds

  -- so it was with each row, one after another
  abbrev pub AreDone : List DoneRow → List FileDone → Type 0
  AreDone [] deeds = deeds ≡ []
  AreDone (t ∷ ts) deeds =
      (first rest : List FileDone) × (deeds ≡ first ++ rest) × IsDone t.line t.done first × AreDone ts rest

-- ---- what is printed

abbrev pub done_line : ℕ → DoneRow → List ℕ
done_line n t = numbered n (outcome_text (outcome_of t.done))

-- a line for each row, with its number
abbrev pub lines_from : ℕ → List DoneRow → List ℕ
lines_from n [] = []
lines_from n (t ∷ ts) = done_line n t ++ lines_from (n + 1) ts

abbrev pub is_accepted : DoneRow → Bool
is_accepted t = accepts_outcome (outcome_of t.done)

-- the line that ends an import, if one does
abbrev pub closing_line : ℕ → Closing → List ℕ
closing_line n closing.End = []
closing_line n closing.BadRow = numbered n (codes "bad row")
closing_line n closing.ReadError = numbered n (outcome_text (outcome.Answered Unavailable))

-- how an import ends, by whether all rows were accepted and why no further one is done
abbrev pub ending_of : Bool → Closing → Ending
ending_of accepted closing.End = if accepted then ending.AllIn else ending.SomeOut
ending_of accepted closing.BadRow = ending.BadRow
ending_of accepted closing.ReadError = ending.SomeOut

-- ---- where the list ends

-- the header and the rows that were done
abbrev pub rows_of : List DoneRow → List (List (List ℕ))
rows_of done_rows = header ∷ map (λ t. fields_of_line t.line) done_rows

-- the list begins with these rows
abbrev pub Begins : Option (List ℕ) → List (List (List ℕ)) → Type 0
Begins list rows = Meets list rows (λ next. Unit {0})

-- the rows that were done are the first of the list
abbrev pub AreFirst : Option (List ℕ) → List DoneRow → Type 0
AreFirst list [] = Unit {0}
AreFirst list (t ∷ ts) = Begins list (rows_of (t ∷ ts))

-- after these rows comes a record that is not UTF-8 or does not have five fields
abbrev pub BadRowComes : Option (List ℕ) → List (List (List ℕ)) → Type 0
BadRowComes list rows =
    Meets list rows IsNoText ⊎ ((fields : List (List ℕ)) × (length fields ≢ 5) × Begins list (rows ++ fields ∷ []))

-- the list has no record, or the first one is not UTF-8 or is not the header
abbrev pub BadHeaderComes : Option (List ℕ) → Type 0
BadHeaderComes list =
    Meets list [] IsNone ⊎ Meets list [] IsNoText
    ⊎ ((fields : List (List ℕ)) × (fields ≢ header) × Begins list (fields ∷ []))

-- why no row is done after these; nothing is known if the rest of the list can't be read
abbrev pub IsClosing : Option (List ℕ) → List (List (List ℕ)) → Closing → Type 0
IsClosing list rows closing.End = Meets list rows IsNone
IsClosing list rows closing.BadRow = BadRowComes list rows
IsClosing list rows closing.ReadError = Unit {0}

-- why no row at all is done
abbrev pub IsHeaderClosing : Option (List ℕ) → Closing → Type 0
IsHeaderClosing list closing.End = ⊥
IsHeaderClosing list closing.BadRow = BadHeaderComes list
IsHeaderClosing list closing.ReadError = Unit {0}

-- no row is done after these, and the next one would have this number: 0 for the header
abbrev pub IsOver : Option (List ℕ) → List DoneRow → ℕ → Closing → Type 0
IsOver list done_rows n why =
    ((n ≡ length done_rows + 1) × IsClosing list (rows_of done_rows) why)
    ⊎ ((n ≡ 0) × (done_rows ≡ []) × IsHeaderClosing list why)

-- ---- the import

-- the files that the rows name were read, and no others, and the store went through the rows in a run of publishes
pub record GoesThrough
    (old new : Shown) (before after : List FileDone) (key : List ℕ)
    (done_rows : List DoneRow) : Type 0 where
  pub done : Adds before after (AreDone key done_rows)
  pub runs : Runs old new (events done_rows) (answers done_rows)
  -- the count never falls, and a `Device` fault is met only if it grew or is full
  pub no_fewer : old.failures ≤ new.failures
  pub device : MetDevice (answers done_rows) → GrewOrFull old.failures new.failures

-- The output broke off: in the line of the last row, or in the one that ends the import.
abbrev pub BreaksOff : Option (List ℕ) → Option (List ℕ) → Option (List ℕ) → List DoneRow → Type 0
BreaksOff list written written_new done_rows =
    ((first : List DoneRow) × (last : DoneRow) × (front : List ℕ) × (done_rows ≡ first ++ last ∷ [])
    × IsFront front (done_line (length first + 1) last) × Appends written written_new (lines_from 1 first ++ front))
    ⊎ ((n : ℕ) × (why : Closing) × (front : List ℕ) × IsOver list done_rows n why
    × IsFront front (closing_line n why) × Appends written written_new (lines_from 1 done_rows ++ front))

-- each row has its line, and then comes the line that ends the import, if there is one; or the output broke off
abbrev pub Ends : Option (List ℕ) → Option (List ℕ) → Option (List ℕ) → List DoneRow → Result Ending Io → Type 0
Ends list written written_new done_rows result =
    MatchResult result
    (λ e. (n : ℕ) × (why : Closing) × IsOver list done_rows n why × (e ≡ ending_of (list_all is_accepted done_rows) why)
    × Appends written written_new (lines_from 1 done_rows ++ closing_line n why))
    (λ e. (e ≡ io.Write) × BreaksOff list written written_new done_rows)

-- The rows at the front of the list were published one after another, and the import ended as `Ends` says.
pub record Imports
    (old new : Shown) (before after : List FileDone) (key : List ℕ)
    (list written written_new : Option (List ℕ))
    (result : Result Ending Io) : Type 0 where
  pub done_rows : List DoneRow
  pub first : AreFirst list done_rows
  pub through : GoesThrough old new before after key done_rows
  pub ends : Ends list written written_new done_rows result

-- ---- its steps

-- a request was answered as the machine answers it, or met a fault
pub record Publishes (old new : Shown) (request : Request) (answer : Fixed) : Type 0 where
  pub told : Answer
  pub runs : Runs old new (Requested request ∷ []) (told ∷ [])
  pub is : answer ≡ fixed_answer told
  pub no_fewer : old.failures ≤ new.failures
  pub device : MetDevice (told ∷ []) → GrewOrFull old.failures new.failures

-- a row was done, with this outcome
pub record DoesRow
    (old new : Shown) (before after : List FileDone) (key : List ℕ) (l : Line)
    (result : RowOutcome) : Type 0 where
  pub done : Done
  pub through : GoesThrough old new before after key (record { line = l; done = done } ∷ [])
  pub is : result ≡ outcome_of done

-- the line that ends the import, if there is one, was printed, or the output broke off
abbrev pub Closes : ℕ → Closing → Bool → Option (List ℕ) → Option (List ℕ) → Result Ending Io → Type 0
Closes n why accepted written written_new result =
    MatchResult result
    (λ e. (e ≡ ending_of accepted why) × Appends written written_new (closing_line n why))
    (λ e. (e ≡ io.Write) × PrintsFront written written_new (closing_line n why))

-- the rest of the list is said to be unreadable only if its reader has failed: a read did, or memory ran out
abbrev pub FailsToRead : {R : Type 0} → Reader R → Closing → Type 0
FailsToRead reader closing.ReadError = has_failed reader ≡ true
FailsToRead reader other = Unit {0}

module _ {R : Type 0} (remaining : R → Option (List ℕ)) where
  -- the header was read, or the list does not begin with it
  abbrev pub HeaderRead : Option (List ℕ) → Reader R → Option Closing → Type 0
  HeaderRead list reader None = HasRead remaining list (header ∷ []) reader
  HeaderRead list reader (Some why) = IsHeaderClosing list why × FailsToRead reader why

  -- fields were read after these rows, or no row is done after them
  abbrev pub FieldsRead : Option (List ℕ) → List (List (List ℕ)) → Reader R → List (List ℕ) → Option Closing → Type 0
  FieldsRead list rows reader fields None = HasRead remaining list (rows ++ fields ∷ []) reader
  FieldsRead list rows reader fields (Some why) = IsClosing list rows why × FailsToRead reader why

  module _ (old new : Shown) (before after : List FileDone) (key : List ℕ) (list : Option (List ℕ))
      (rows : List (List (List ℕ))) (reader : Reader R) (n : ℕ) (written written_new : Option (List ℕ)) where
    -- a row was done after these rows
    pub record DoesNextRow (t : DoneRow) : Type 0 where
      pub through : GoesThrough old new before after key (t ∷ [])
      pub read : HasRead remaining list (rows ++ fields_of_line t.line ∷ []) reader

    -- no row was done
    pub record IsIdle (why : Closing) : Type 0 where
      pub through : GoesThrough old new before after key []
      pub closing : IsClosing list rows why
      pub fails : FailsToRead reader why
      pub output : written_new ≡ written

    -- the next row was done and its line printed, or no row is done; or the output broke off in its line
    abbrev pub StepIs : Result Step Io → Type 0
    StepIs (Ok (step.Row accepted)) =
        (t : DoneRow) × DoesNextRow t × (accepted ≡ is_accepted t) × Appends written written_new (done_line n t)
    StepIs (Ok (step.Over why)) = IsIdle why
    StepIs (Err e) = (t : DoneRow) × DoesNextRow t × (e ≡ io.Write) × PrintsFront written written_new (done_line n t)
