-- Importing a list again that was imported whole.
use Rattle.std.specs.Prelude.{ℕ, ◌≡◌, ◌⊎◌, ◌++◌, List, [], ◌∷◌, IsTrue, Option, Some, None}
use Rattle.std.specs.List.{list_all}
use Rattle.std.specs.FinMap as map
use Rattle.histories.specs.Account.{Account}
use Rattle.machine.specs.Isolation.{belongs}
use Rattle.machine.specs.Machine.{Run}
use Rattle.machine.specs.declared.request.Event.{Event}
use Rattle.machine.specs.declared.reply.Answer.{Answer}
use Rattle.wire.specs.declared.reply.Fixed.TheVariants.{AlreadyPublished, Unavailable}
use Rattle.world.specs.World.{World, IsWorld}
use Rattle.world.specs.declared.entry.Right.TheVariants.{Publishes}
use Rattle.commands.specs.Import.{AreDone, AreFirst, IsOver, DoneRow, answers, ending_of, events, is_accepted}
use Rattle.commands.specs.Import.{outcome_of}
use Rattle.commands.specs.Sources.{FileDone}
use Rattle.commands.specs.declared.import.Closing.{Closing}
use Rattle.commands.specs.declared.import.Ending.TheVariants.{AllIn}
use Rattle.commands.specs.declared.import_line.RowOutcome.TheVariants.{Answered}
use Rattle.commands.specs.declared.sources.FileDeed.{FileDeed}
use Rattle.commands.specs.declared.sources.FileDeed.TheVariants.{Read, Failed, Refused, Unfetched}

-- What a history tells of the files: what was read is the beginning of a file that is there, all of it if it was read to
-- its end; no read failed; and what the system did not open is not there.
module _ (files : List ℕ → Option (List ℕ)) where
  pub record TellsRead (name : List ℕ) (a : Account) : Type 0 where
    pub all : List ℕ
    pub there : files name ≡ Some all
    pub rest : List ℕ
    pub same : all ≡ a.heard ++ rest
    pub over : IsTrue a.is_over → rest ≡ []

  abbrev pub Tells : List ℕ → FileDeed Account → Type 0
  Tells name (Read a) = TellsRead name a
  Tells name (Failed a) = ⊥
  Tells name Refused = files name ≡ None
  Tells name Unfetched = Unit {0}

  abbrev pub TellsEach : List FileDone → Type 0
  TellsEach [] = Unit {0}
  TellsEach (done ∷ more) = Tells done.0 done.1 × TellsEach more

-- the row was answered `200 already published` or 503
abbrev pub IsRepeat : DoneRow → Type 0
IsRepeat t = (outcome_of t.done ≡ Answered AlreadyPublished) ⊎ (outcome_of t.done ≡ Answered Unavailable)

abbrev pub AreRepeats : List DoneRow → Type 0
AreRepeats [] = Unit {0}
AreRepeats (t ∷ ts) = IsRepeat t × AreRepeats ts

-- the key may publish to the shelf
abbrev pub MayPublish : World → List ℕ → List ℕ → Type 0
MayPublish w key shelf = map.get w.keys key ≡ Some (record { shelf = shelf; right = Publishes })

-- With this key and these files, an import led from one world to the other, through the first rows of the list.
pub record ImportRuns
    (files : List ℕ → Option (List ℕ)) (text key : List ℕ) (old : World) (done_rows : List DoneRow)
    (new : World) : Type 0 where
  pub deeds : List FileDone
  pub done : AreDone key done_rows deeds
  pub told : TellsEach files deeds
  pub first : AreFirst (Some text) done_rows
  pub run : Run old (events done_rows) (answers done_rows) new

-- the import ended with all rows of the list accepted
abbrev pub EndsAllIn : List ℕ → List DoneRow → Type 0
EndsAllIn text done_rows =
    (n : ℕ) × (why : Closing) × IsOver (Some text) done_rows n why
    × (AllIn ≡ ending_of (list_all is_accepted done_rows) why)

-- Once a list was imported whole by a key of s, importing it again after any events, with equal files and by a key that
-- then may publish to s, answers each row `200 already published` or 503, and changes nothing.
abbrev pub RepeatedImportChangesNothing : Type 0
RepeatedImportChangesNothing =
    (files : List ℕ → Option (List ℕ)) (text k again s : List ℕ) (old mid later new : World)
    (done_rows repeated : List DoneRow)
    (between : List Event) (told : List Answer) → IsWorld old → belongs old k s
    → ImportRuns files text k old done_rows mid → EndsAllIn text done_rows → Run mid between told later
    → MayPublish later again s → ImportRuns files text again later repeated new
    → AreRepeats repeated × (new ≡ later)
