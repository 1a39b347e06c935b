-- The files that a command reads.
use Rattle.std.specs.Prelude.{ℕ, ◌≡◌, ◌≤◌, ◌+◌, ◌⊎◌, ◌++◌, IsTrue, List, [], ◌∷◌, length, map}
use Rattle.std.specs.Prelude.{Result, Ok, Err}
use Rattle.histories.specs.Account.{Account}
use Rattle.machine.specs.declared.request.Body.{Body}
use Rattle.world.specs.World.{gomod_limit, zip_limit}
use Rattle.commands.specs.Printed.{IsFront}
use Rattle.commands.specs.declared.front.Front.{Front}
use Rattle.commands.specs.declared.front.ReadEnd.{ReadEnd}
use Rattle.commands.specs.declared.front.ReadEnd.TheVariants.{Whole, Full, Broken}
use Rattle.commands.specs.declared.sources.FileDeed.{FileDeed}
use Rattle.commands.specs.declared.sources.FileDeed.TheVariants.{Read, Failed, Refused, Unfetched}
use Rattle.commands.specs.declared.sources.SourceFault.{SourceFault}
use Rattle.commands.specs.declared.sources.SourceFault.TheVariants.{NoFile, Memory}

-- a deed, with the name of its file, and with what its reader gave
abbrev pub FileDone : Type 0
FileDone = List ℕ × FileDeed Account

-- the deeds of a record of readers, by what is known of what these gave
module _ {R : Type 0} (account : R → Account) where
  abbrev pub deed_by : FileDeed R → FileDeed Account
  deed_by (Read reader) = Read (account reader)
  deed_by (Failed reader) = Failed (account reader)
  deed_by Refused = Refused
  deed_by Unfetched = Unfetched

  abbrev pub done_by : List ℕ × FileDeed R → FileDone
  done_by done = (done.0, deed_by done.1)

  abbrev pub all_by : List (List ℕ × FileDeed R) → List FileDone
  all_by deeds = map done_by deeds

-- ---- one file

-- the deed of a file that was opened and read, by how that ended
abbrev pub deed_of : {R : Type 0} → ReadEnd → R → FileDeed R
deed_of (Broken NoFile) reader = Failed reader
deed_of other reader = Read reader

-- the deed of a file that was not opened
abbrev pub unopened : {R : Type 0} → SourceFault → FileDeed R
unopened NoFile = Refused
unopened Memory = Unfetched

-- These bytes are all that the reader gave: all that the file has, or this many and one more. Or the rest was not read,
-- and some of what it gave may have been lost.
abbrev pub Gave : ℕ → Account → List ℕ → ReadEnd → Type 0
Gave most a bytes Whole = (a.heard ≡ bytes) × IsTrue a.is_over × (length bytes ≤ most)
Gave most a bytes Full = (a.heard ≡ bytes) × (length bytes ≡ most + 1)
Gave most a bytes (Broken fault) = IsFront bytes a.heard

-- so a file was read, by its deed
abbrev pub IsFrontBy : ℕ → FileDeed Account → Result Front SourceFault → Type 0
IsFrontBy most deed (Ok front) = (a : Account) × (deed ≡ deed_of front.end a) × Gave most a front.bytes front.end
IsFrontBy most deed (Err fault) = deed ≡ unopened fault

-- These bytes are all that the reader gave: all that the file has, or this many and one more.
pub record GaveAll (most : ℕ) (a : Account) (bytes : List ℕ) : Type 0 where
  pub heard : a.heard ≡ bytes
  pub whole : (IsTrue a.is_over × (length bytes ≤ most)) ⊎ (length bytes ≡ most + 1)

-- This was read as a file, by its deed: what its reader gave. Or the system did not open it or a read failed, or memory
-- ran out.
abbrev pub IsReadBy : ℕ → FileDeed Account → Result (List ℕ) SourceFault → Type 0
IsReadBy most (Read a) (Ok bytes) = GaveAll most a bytes
IsReadBy most other (Ok bytes) = ⊥
IsReadBy most (Read a) (Err NoFile) = ⊥
IsReadBy most Unfetched (Err NoFile) = ⊥
IsReadBy most other (Err NoFile) = Unit {0}
IsReadBy most (Failed a) (Err Memory) = ⊥
IsReadBy most Refused (Err Memory) = ⊥
IsReadBy most other (Err Memory) = Unit {0}

-- ---- what was read from old to new

-- From before to after these deeds were done.
pub record Adds (before after : List FileDone) (Are : List FileDone → Type 0) : Type 0 where
  pub deeds : List FileDone
  pub are : Are deeds
  pub done : after ≡ before ++ deeds

-- the beginning of the file of this name was read, and no other file
abbrev pub ReadsFront : ℕ → List ℕ → Result Front SourceFault → List FileDone → Type 0
ReadsFront most name result deeds = (deed : FileDeed Account) × (deeds ≡ (name, deed) ∷ []) × IsFrontBy most deed result

-- the file of this name was read, and no other
abbrev pub ReadsFile : ℕ → List ℕ → Result (List ℕ) SourceFault → List FileDone → Type 0
ReadsFile most name result deeds = (deed : FileDeed Account) × (deeds ≡ (name, deed) ∷ []) × IsReadBy most deed result

-- The go.mod was read, then the zip, and no other file. If the go.mod could not be read, the zip was not.
module _ (gomod zip : List ℕ) where
  abbrev pub ReadsBoth : Result Body SourceFault → List FileDone → Type 0
  ReadsBoth (Ok body) deeds =
      (first second : FileDeed Account) × (deeds ≡ (gomod, first) ∷ (zip, second) ∷ [])
      × IsReadBy gomod_limit first (Ok body.gomod) × IsReadBy zip_limit second (Ok body.zip)
  ReadsBoth (Err fault) deeds =
      ReadsFile gomod_limit gomod (Err fault) deeds
      ⊎ ((first second : FileDeed Account) × (bytes : List ℕ) × (deeds ≡ (gomod, first) ∷ (zip, second) ∷ [])
      × IsReadBy gomod_limit first (Ok bytes) × IsReadBy zip_limit second (Err fault))
