-- What was read of files whose bytes are known.
use Rattle.std.proofs.Common.{◌≡◌, ◌+◌, ◌⊎◌, ◌++◌, ◌∙◌, ℕ, List, [], ◌∷◌, Option, Some, None, Ok, Err, Result}
use Rattle.std.proofs.Common.{take, sym, ap, subst, inl, inr, arith, IsTrue}
use Rattle.std.proofs.lemmas.List.{append-nil, take_all, take-append-le}
use Rattle.histories.specs.Account.{Account}
use Rattle.machine.specs.declared.request.Body.{Body}
use Rattle.world.specs.World.{gomod_limit, zip_limit}
use Rattle.commands.specs.Import as spec
use Rattle.commands.specs.Import.{Done, DoneRow, Answers, HasNoFile, Unfetched, request_of}
use Rattle.commands.specs.ImportFiles.{IsReadable}
use Rattle.commands.specs.ImportList.{Line}
use Rattle.commands.specs.Repetition.{Tells, TellsEach}
use Rattle.commands.specs.Sources.{FileDone, GaveAll, IsReadBy, ReadsBoth}
use Rattle.commands.specs.declared.sources.FileDeed.{FileDeed}
use Rattle.commands.specs.declared.sources.FileDeed.TheVariants as deed
use Rattle.commands.specs.declared.sources.SourceFault.{SourceFault}
use Rattle.commands.specs.declared.sources.SourceFault.TheVariants as source

-- ---- by what is known of the files

-- this may be read of a file whose bytes are known, or of which it is known that it is not there
abbrev pub IsRead : ℕ → Option (List ℕ) → Result (List ℕ) SourceFault → Type 0
IsRead most None (Ok bytes) = ⊥
IsRead most None (Err fault) = Unit {0}
IsRead most (Some all) (Ok bytes) = bytes ≡ take (most + 1) all
IsRead most (Some all) (Err source.NoFile) = ⊥
IsRead most (Some all) (Err source.Memory) = Unit {0}

module _ (files : List ℕ → Option (List ℕ)) (l : Line) where
  abbrev pub GoModIs : Result (List ℕ) SourceFault → Type 0
  GoModIs read = IsRead gomod_limit (files l.gomod) read

  abbrev pub ZipIs : Result (List ℕ) SourceFault → Type 0
  ZipIs read = IsRead zip_limit (files l.zip) read

  -- this may be read as the files of a row
  abbrev pub IsBodyOf : Result Body SourceFault → Type 0
  IsBodyOf (Ok body) = IsReadable l → GoModIs (Ok body.gomod) × ZipIs (Ok body.zip)
  IsBodyOf (Err source.NoFile) = IsReadable l × (GoModIs (Err source.NoFile) ⊎ ZipIs (Err source.NoFile))
  IsBodyOf (Err source.Memory) = Unit {0}

module _ (files : List ℕ → Option (List ℕ)) (key : List ℕ) where
  abbrev pub IsDone : Line → Done → Type 0
  IsDone l (Answers request answer) = (body : Body) × IsBodyOf files l (Ok body) × (request ≡ request_of key l body)
  IsDone l HasNoFile = IsBodyOf files l (Err source.NoFile)
  IsDone l Unfetched = Unit {0}

  abbrev pub AreDone : List DoneRow → Type 0
  AreDone [] = Unit {0}
  AreDone (t ∷ ts) = IsDone t.line t.done × AreDone ts

-- ---- by a history that tells of them

-- bytes that are all, or as many as are asked for, are the first ones
first_bytes : (most : ℕ) (a : Account) (bytes all rest : List ℕ) → GaveAll most a bytes → all ≡ a.heard ++ rest
    → (IsTrue a.is_over → rest ≡ []) → bytes ≡ take (most + 1) all
first_bytes most a bytes all rest gave same over =
    let here : all ≡ bytes ++ rest = same ∙ ap (λ h. h ++ rest) gave.heard in
    elim gave.whole [
      | inl whole ↦
          let none : bytes ++ rest ≡ bytes = ap (λ r. bytes ++ r) (over whole.0) ∙ append-nil bytes in
          sym (ap (take (most + 1)) (here ∙ none) ∙ take_all (most + 1) bytes (omega (arith, whole.1)))
      | inr full ↦
          sym (ap (take (most + 1)) here ∙ take-append-le (most + 1) bytes rest (omega (arith, full))
          ∙ take_all (most + 1) bytes (omega (arith, full)))
    ]

memory_read : (most : ℕ) (known : Option (List ℕ)) → IsRead most known (Err source.Memory)
memory_read most None = tt
memory_read most (Some all) = tt

module _ (files : List ℕ → Option (List ℕ)) where
  read_told : (most : ℕ) (name : List ℕ) (d : FileDeed Account) (result : Result (List ℕ) SourceFault)
      → IsReadBy most d result → Tells files name d → IsRead most (files name) result
  read_told most name (deed.Read a) (Ok bytes) is tells =
      subst (λ k. IsRead most k (Ok bytes)) (sym tells.there)
      (first_bytes most a bytes tells.all tells.rest is tells.same tells.over)
  read_told most name (deed.Failed a) (Ok bytes) is tells = absurd is
  read_told most name deed.Refused (Ok bytes) is tells = absurd is
  read_told most name deed.Unfetched (Ok bytes) is tells = absurd is
  read_told most name (deed.Read a) (Err source.NoFile) is tells = absurd is
  read_told most name (deed.Failed a) (Err source.NoFile) is tells = absurd tells
  read_told most name deed.Refused (Err source.NoFile) is tells =
      subst (λ k. IsRead most k (Err source.NoFile)) (sym tells) tt
  read_told most name deed.Unfetched (Err source.NoFile) is tells = absurd is
  read_told most name d (Err source.Memory) is tells = memory_read most (files name)

  both_told : (l : Line) (body : Body) (deeds : List FileDone) → ReadsBoth l.gomod l.zip (Ok body) deeds
      → TellsEach files deeds → GoModIs files l (Ok body.gomod) × ZipIs files l (Ok body.zip)
  both_told l body deeds (d, e, same, gomod, zip) tells =
      let told : TellsEach files ((l.gomod, d) ∷ (l.zip, e) ∷ []) = subst (TellsEach files) same tells in (
        read_told gomod_limit l.gomod d (Ok body.gomod) gomod told.0,
        read_told zip_limit l.zip e (Ok body.zip) zip told.1.0,
      )

  none_told : (l : Line) (deeds : List FileDone) → ReadsBoth l.gomod l.zip (Err source.NoFile) deeds
      → TellsEach files deeds → GoModIs files l (Err source.NoFile) ⊎ ZipIs files l (Err source.NoFile)
  none_told l deeds (inl (d, same, gomod)) tells =
      let told : TellsEach files ((l.gomod, d) ∷ []) = subst (TellsEach files) same tells in
      inl (read_told gomod_limit l.gomod d (Err source.NoFile) gomod told.0)
  none_told l deeds (inr (d, e, bytes, same, gomod, zip)) tells =
      let told : TellsEach files ((l.gomod, d) ∷ (l.zip, e) ∷ []) = subst (TellsEach files) same tells in
      inr (read_told zip_limit l.zip e (Err source.NoFile) zip told.1.0)

  done_told : (key : List ℕ) (l : Line) (d : Done) (deeds : List FileDone) → spec.IsDone key l d deeds
      → TellsEach files deeds → IsDone files key l d
  done_told key l (Answers request answer) deeds (body, had, is) tells =
      (body, λ readable. both_told l body deeds (had.0 readable) tells, is)
  done_told key l HasNoFile deeds (readable, none) tells = (readable, none_told l deeds none tells)
  done_told key l Unfetched deeds is tells = tt

  front_told : (ds es : List FileDone) → TellsEach files (ds ++ es) → TellsEach files ds × TellsEach files es
  front_told [] es tells = (tt, tells)
  front_told (d ∷ ds) es (first, more) =
      let (here, rest) = front_told ds es more in ((first, here), rest)

  -- what was done with rows, by a history that tells of the files
  pub all_told : (key : List ℕ) (ts : List DoneRow) (deeds : List FileDone) → spec.AreDone key ts deeds
      → TellsEach files deeds → AreDone files key ts
  all_told key [] deeds none tells = tt
  all_told key (t ∷ ts) deeds (first, rest, same, is, more) tells =
      let (here, later) = front_told first rest (subst (TellsEach files) same tells) in
      (done_told key t.line t.done first is here, all_told key ts rest more later)
