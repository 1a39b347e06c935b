-- What was read, one file after another.
use Rattle.std.proofs.Common.{◌≡◌, ◌≤◌, ◌+◌, ◌++◌, ◌∙◌, ℕ, List, [], ◌∷◌, Option, Some, None, Ok, Err, Result, length}
use Rattle.std.proofs.Common.{refl, sym, ap, subst, inl, inr, arith}
use Rattle.std.proofs.lemmas.List.{append-nil, append_assoc, map-append, length-take-le}
use Rattle.histories.specs.Account.{Account, new_account}
use Rattle.machine.specs.declared.request.Body.{Body}
use Rattle.world.specs.World.{gomod_limit, zip_limit}
use Rattle.commands.specs.Front.{Hears, is_whole}
use Rattle.commands.specs.ImportFiles.{IsBodyOf, IsReadable}
use Rattle.commands.specs.ImportList.{Line}
use Rattle.commands.specs.MemoryFiles.{IsCutBy, IsFrontOf, account_of}
use Rattle.commands.specs.Sources.{Adds, FileDone, Gave, IsFrontBy, IsReadBy, ReadsBoth, ReadsFile, ReadsFront}
use Rattle.commands.specs.Sources.{all_by, deed_by, deed_of, done_by, unopened}
use Rattle.commands.specs.declared.front.Front.{Front}
use Rattle.commands.specs.declared.front.ReadEnd.{ReadEnd}
use Rattle.commands.specs.declared.front.ReadEnd.TheVariants.{Whole, Full, Broken}
use Rattle.commands.specs.declared.sources.FileDeed.{FileDeed}
use Rattle.commands.specs.declared.sources.FileDeed.TheVariants as deed
use Rattle.commands.specs.declared.sources.SourceFault.{SourceFault}
use Rattle.commands.specs.declared.sources.SourceFault.TheVariants.{NoFile, Memory}

-- ---- spans of a history

-- what was read so and so
pub adds_so : (P Q : List FileDone → Type 0) (before after : List FileDone)
    → ((deeds : List FileDone) → P deeds → Q deeds) → Adds before after P → Adds before after Q
adds_so P Q before after so adds = record { deeds = adds.deeds; are = so adds.deeds adds.are; done = adds.done }

-- nothing was read
pub adds_none : (P : List FileDone → Type 0) (before : List FileDone) → P [] → Adds before before P
adds_none P before are = record { deeds = []; are = are; done = sym (append-nil before) }

-- what was read first, and then
pub adds_both : (P Q T : List FileDone → Type 0) (before mid after : List FileDone)
    → ((ds es : List FileDone) → P ds → Q es → T (ds ++ es)) → Adds before mid P → Adds mid after Q
    → Adds before after T
adds_both P Q T before mid after so first then = record {
  deeds = first.deeds ++ then.deeds;
  are = so first.deeds then.deeds first.are then.are;
  done = then.done ∙ ap (λ m. m ++ then.deeds) first.done ∙ append_assoc before first.deeds then.deeds;
}

-- ---- one file

-- a reader that had given nothing gave what came
pub gave_so : (most : ℕ) (old new : Account) (left : Option (List ℕ)) (bytes : List ℕ) (end : ReadEnd)
    → old ≡ new_account left → Hears old new most bytes end → Gave most new bytes end
gave_so most old new left bytes Whole fresh (gives, over, few) =
    (gives.heard ∙ ap (λ (a : Account). a.heard ++ bytes) fresh, over, few)
gave_so most old new left bytes Full fresh (gives, full) =
    (gives.heard ∙ ap (λ (a : Account). a.heard ++ bytes) fresh, full)
gave_so most old new left bytes (Broken fault) fresh beyond =
    (beyond.lost, beyond.gives.heard ∙ ap (λ (a : Account). a.heard ++ (bytes ++ beyond.lost)) fresh)

module _ {R : Type 0} (account : R → Account) where
  -- the deed of a reader is that of what it gave
  deed_seen : (end : ReadEnd) (reader : R) → deed_by account (deed_of end reader) ≡ deed_of end (account reader)
  deed_seen Whole reader = refl
  deed_seen Full reader = refl
  deed_seen (Broken NoFile) reader = refl
  deed_seen (Broken Memory) reader = refl

  unopened_seen : (fault : SourceFault) → deed_by account (unopened fault) ≡ unopened fault
  unopened_seen NoFile = refl
  unopened_seen Memory = refl

  noted : (deeds deeds_new : List (List ℕ × FileDeed R)) (name : List ℕ) (d : FileDeed R)
      → deeds_new ≡ deeds ++ (name, d) ∷ []
      → all_by account deeds_new ≡ all_by account deeds ++ (name, deed_by account d) ∷ []
  noted deeds deeds_new name d is =
      ap (all_by account) is ∙ map-append (done_by account) deeds ((name, d) ∷ [])

  -- a file was opened and read, and that was noted
  pub read_noted : (most : ℕ) (deeds deeds_new : List (List ℕ × FileDeed R)) (name : List ℕ) (front : Front)
      (reader : R) → deeds_new ≡ deeds ++ (name, deed_of front.end reader) ∷ []
      → Gave most (account reader) front.bytes front.end
      → Adds (all_by account deeds) (all_by account deeds_new)
      (ReadsFront most name (Ok front))
  read_noted most deeds deeds_new name front reader is gave =
      let d = deed_by account (deed_of front.end reader) in
      record {
        deeds = (name, d) ∷ [];
        are = (d, refl, (account reader, deed_seen front.end reader, gave));
        done = noted deeds deeds_new name (deed_of front.end reader) is;
      }

  -- a file was not opened, and that was noted
  pub unopened_noted : (most : ℕ) (deeds deeds_new : List (List ℕ × FileDeed R)) (name : List ℕ) (fault : SourceFault)
      → deeds_new ≡ deeds ++ (name, unopened fault) ∷ []
      → Adds (all_by account deeds) (all_by account deeds_new)
      (ReadsFront most name (Err fault))
  unopened_noted most deeds deeds_new name fault is = record {
    deeds = (name, deed_by account (unopened fault)) ∷ [];
    are = (deed_by account (unopened fault), refl, unopened_seen fault);
    done = noted deeds deeds_new name (unopened fault) is;
  }

-- ---- files in memory

read_deed : (most : ℕ) (all bytes : List ℕ) (end : ReadEnd) (a : Account) → IsCutBy most all bytes end
    → deed.Read a ≡ deed_of end a
read_deed most all bytes Whole a is = refl
read_deed most all bytes Full a is = refl
read_deed most all bytes (Broken fault) a is = absurd is

gave_cut : (most : ℕ) (all bytes : List ℕ) (end : ReadEnd) (a : Account) → a.heard ≡ bytes
    → a.is_over ≡ is_whole end → IsCutBy most all bytes end → Gave most a bytes end
gave_cut most all bytes Whole a heard over is =
    (heard, over, subst (λ xs. length xs ≤ most) (sym is.0) is.1)
gave_cut most all bytes Full a heard over is =
    (heard, ap length is.0 ∙ length-take-le (most + 1) all (omega (arith, is.1)))
gave_cut most all bytes (Broken fault) a heard over is = absurd is

-- the bytes of a file in memory were returned, and that was noted
pub memory_noted : (most : ℕ) (deeds deeds_new : List (List ℕ × FileDeed Front)) (name : List ℕ)
    (known : Option (List ℕ)) (front : Front) (result : Result Front SourceFault) → result ≡ Ok front
    → deeds_new ≡ deeds ++ (name, deed.Read front) ∷ [] → IsFrontOf most known (Ok front)
    → Adds (all_by account_of deeds) (all_by account_of deeds_new) (ReadsFront most name result)
memory_noted most deeds deeds_new name None front result told is cut = absurd cut
memory_noted most deeds deeds_new name (Some all) front result told is cut =
    let a = account_of front in
    record {
      deeds = (name, deed.Read a) ∷ [];
      are = (
        deed.Read a,
        refl,
        subst (IsFrontBy most (deed.Read a)) (sym told) (
          a,
          read_deed most all front.bytes front.end a cut,
          gave_cut most all front.bytes front.end a refl refl cut,
        ),
      );
      done = noted account_of deeds deeds_new name (deed.Read front) is;
    }

-- ---- the bytes of a file

abbrev result_of : List ℕ → ReadEnd → Result (List ℕ) SourceFault
result_of bytes Whole = Ok bytes
result_of bytes Full = Ok bytes
result_of bytes (Broken fault) = Err fault

read_by : (most : ℕ) (d : FileDeed Account) (a : Account) (bytes : List ℕ) (end : ReadEnd) → d ≡ deed_of end a
    → Gave most a bytes end → IsReadBy most d (result_of bytes end)
read_by most d a bytes Whole is (heard, over, few) =
    subst (λ e. IsReadBy most e (Ok bytes)) (sym is) (record { heard = heard; whole = inl (over, few) })
read_by most d a bytes Full is (heard, full) =
    subst (λ e. IsReadBy most e (Ok bytes)) (sym is) (record { heard = heard; whole = inr full })
read_by most d a bytes (Broken NoFile) is gave = subst (λ e. IsReadBy most e (Err NoFile)) (sym is) tt
read_by most d a bytes (Broken Memory) is gave = subst (λ e. IsReadBy most e (Err Memory)) (sym is) tt

-- what came of a file is its bytes, or why they are not
front_read : (most : ℕ) (name : List ℕ) (before after : List FileDone) (front : Front) (end : ReadEnd)
    → front.end ≡ end
    → Adds before after (ReadsFront most name (Ok front))
    → Adds before after (ReadsFile most name (result_of front.bytes end))
front_read most name before after front end is adds =
    subst (λ e. Adds before after (ReadsFile most name (result_of front.bytes e))) is (record {
      deeds = adds.deeds;
      are = (
        adds.are.0,
        adds.are.1,
        read_by most adds.are.0 adds.are.2.0 front.bytes front.end adds.are.2.1 adds.are.2.2,
      );
      done = adds.done;
    })

module _ (most : ℕ) (name : List ℕ) (before after : List FileDone) (front : Front) where
  pub whole_read : front.end ≡ Whole → Adds before after (ReadsFront most name (Ok front))
      → Adds before after (ReadsFile most name (Ok front.bytes))
  whole_read is adds = front_read most name before after front Whole is adds

  pub full_read : front.end ≡ Full → Adds before after (ReadsFront most name (Ok front))
      → Adds before after (ReadsFile most name (Ok front.bytes))
  full_read is adds = front_read most name before after front Full is adds

  pub broken_read : (fault : SourceFault) → front.end ≡ Broken fault → Adds before after (ReadsFront most name (Ok front))
      → Adds before after (ReadsFile most name (Err fault))
  broken_read fault is adds = front_read most name before after front (Broken fault) is adds

unread_by : (most : ℕ) (d : FileDeed Account) (fault : SourceFault) → d ≡ unopened fault
    → IsReadBy most d (Err fault)
unread_by most d NoFile is = subst (λ e. IsReadBy most e (Err NoFile)) (sym is) tt
unread_by most d Memory is = subst (λ e. IsReadBy most e (Err Memory)) (sym is) tt

-- a file that was not opened was not read
pub unopened_read : (most : ℕ) (name : List ℕ) (before after : List FileDone) (fault : SourceFault)
    → Adds before after (ReadsFront most name (Err fault))
    → Adds before after (ReadsFile most name (Err fault))
unopened_read most name before after fault adds = record {
  deeds = adds.deeds;
  are = (adds.are.0, adds.are.1, unread_by most adds.are.0 fault adds.are.2);
  done = adds.done;
}

pub ruleset file_reads = (whole_read, full_read, broken_read, unopened_read)

-- ---- the two files of a publish

module _ (gomod zip : List ℕ) (before mid after : List FileDone) where
  two_deeds : (ds es : List FileDone) (d e : FileDeed Account) → ds ≡ (gomod, d) ∷ [] → es ≡ (zip, e) ∷ []
      → ds ++ es ≡ (gomod, d) ∷ (zip, e) ∷ []
  two_deeds ds es d e first then =
      ap (λ x. x ++ es) first ∙ ap (λ (x : List FileDone). (gomod, d) ∷ x) then

  pub both_read : (body : Body) → Adds before mid (ReadsFile gomod_limit gomod (Ok body.gomod))
      → Adds mid after (ReadsFile zip_limit zip (Ok body.zip)) → Adds before after (ReadsBoth gomod zip (Ok body))
  both_read body first then =
      adds_both (ReadsFile gomod_limit gomod (Ok body.gomod)) (ReadsFile zip_limit zip (Ok body.zip))
      (ReadsBoth gomod zip (Ok body)) before mid after
      (λ ds es (d, is, got) (e, same, have). (d, e, two_deeds ds es d e is same, got, have)) first then

  pub zip_unread : (bytes : List ℕ) (fault : SourceFault) → Adds before mid (ReadsFile gomod_limit gomod (Ok bytes))
      → Adds mid after (ReadsFile zip_limit zip (Err fault)) → Adds before after (ReadsBoth gomod zip (Err fault))
  zip_unread bytes fault first then =
      adds_both (ReadsFile gomod_limit gomod (Ok bytes)) (ReadsFile zip_limit zip (Err fault))
      (ReadsBoth gomod zip (Err fault)) before mid after
      (λ ds es (d, is, got) (e, same, have). inr (d, e, bytes, two_deeds ds es d e is same, got, have)) first then

pub gomod_unread : (gomod zip : List ℕ) (before after : List FileDone) (fault : SourceFault)
    → Adds before after (ReadsFile gomod_limit gomod (Err fault)) → Adds before after (ReadsBoth gomod zip (Err fault))
gomod_unread gomod zip before after fault first =
    adds_so (ReadsFile gomod_limit gomod (Err fault)) (ReadsBoth gomod zip (Err fault)) before after
    (λ ds so. inl so) first

pub ruleset two_files = (both_read, gomod_unread, zip_unread)

-- ---- the files of a row

body_by : (l : Line) (deeds : List FileDone) (result : Result Body SourceFault) → IsReadable l
    → ReadsBoth l.gomod l.zip result deeds → IsBodyOf l result deeds
body_by l deeds (Ok body) readable both = (λ _. both, λ unreadable. absurd (unreadable readable))
body_by l deeds (Err NoFile) readable both = (readable, both)
body_by l deeds (Err Memory) readable both = inr (readable, both)

pub body_read : (l : Line) (before after : List FileDone) (result : Result Body SourceFault) → IsReadable l
    → Adds before after (ReadsBoth l.gomod l.zip result) → Adds before after (IsBodyOf l result)
body_read l before after result readable both =
    adds_so (ReadsBoth l.gomod l.zip result) (IsBodyOf l result) before after
    (λ deeds so. body_by l deeds result readable so) both

pub body_unread : (l : Line) (before : List FileDone) (body : Body) → (IsReadable l → ⊥)
    → Adds before before (IsBodyOf l (Ok body))
body_unread l before body unreadable =
    adds_none (IsBodyOf l (Ok body)) before (λ readable. absurd (unreadable readable), λ _. refl)

pub body_lost : (l : Line) (before : List FileDone) → Adds before before (IsBodyOf l (Err Memory))
body_lost l before = adds_none (IsBodyOf l (Err Memory)) before (inl refl)

pub ruleset files_of_row = (body_read, body_unread, body_lost)
