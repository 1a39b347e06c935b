-- What an import of a list in a file does.
use Rattle.std.specs.Prelude.{ℕ, ◌≡◌, ◌⊎◌, ◌-◌, ◌^◌, ◌++◌, List, [], ◌∷◌, Bool, false, Option, Some, Result, Ok}
use Rattle.std.specs.Prelude.{Err, IfErr}
use Rattle.engine.specs.declared.fault.Io.{Io as Failure}
use Rattle.histories.specs.Account.{Account}
use Rattle.histories.specs.Calls.{Writes}
use Rattle.world.specs.Store.{Shown}
use Rattle.commands.specs.Front.{is_whole}
use Rattle.commands.specs.Import.{Imports}
use Rattle.commands.specs.Printed.{HasFailed}
use Rattle.commands.specs.Sources.{FileDone, IsFrontBy}
use Rattle.commands.specs.declared.front.Front.{Front}
use Rattle.commands.specs.declared.import.Ending.{Ending}
use Rattle.commands.specs.declared.import.Ending.TheVariants.{AllIn, SomeOut, BadRow as ABadRow}
use Rattle.commands.specs.declared.refusal.CommandRefusal.{CommandRefusal}
use Rattle.commands.specs.declared.refusal.CommandRefusal.TheVariants.{BadRow, Io}
use Rattle.commands.specs.declared.sources.FileDeed.{FileDeed}
use Rattle.commands.specs.declared.sources.SourceFault.{SourceFault}

-- the result of the command, by how the import ended, and by whether all of the list was read
abbrev pub import_ending : Bool → Result Ending Failure → Result Bool CommandRefusal
import_ending whole (Ok AllIn) = Ok whole
import_ending whole (Ok SomeOut) = Ok false
import_ending whole (Ok ABadRow) = Err BadRow
import_ending whole (Err failure) = Err Io

-- more bytes than a list has
abbrev pub list_limit : ℕ
list_limit = 2 ^ 63 - 1

-- the rows of what was read of a list were imported
pub record ImportsBytes (old new : Shown) (key : List ℕ) (front : Front) (before after : List FileDone)
    (written written_new : Option (List ℕ)) (result : Result Bool CommandRefusal) : Type 0 where
  pub ended : Result Ending Failure
  pub imports : Imports old new before after key (Some front.bytes) written written_new ended
  pub tells : result ≡ import_ending (is_whole front.end) ended

module _ {S : Type 0} (shown : S → Shown) (old new : S) (key list : List ℕ) where
  -- This list was read, all of it or not, and the rows of what was read were imported.
  pub record ImportsList (before after : List FileDone) (written written_new : Option (List ℕ))
      (result : Result Bool CommandRefusal) : Type 0 where
    pub front : Front
    pub deed : FileDeed Account
    pub read : IsFrontBy list_limit deed (Ok front)
    pub imports : ImportsBytes (shown old) (shown new) key front (before ++ (list, deed) ∷ []) after written written_new
        result

  -- This list could not be opened, and nothing was done.
  pub record ImportsNone (before after : List FileDone) (written written_new : Option (List ℕ))
      (result : Result Bool CommandRefusal) : Type 0 where
    pub fault : SourceFault
    pub deed : FileDeed Account
    pub read : IsFrontBy list_limit deed (Err fault)
    pub done : after ≡ before ++ (list, deed) ∷ []
    pub store : new ≡ old
    pub output : written_new ≡ written
    pub tells : result ≡ Err Io

  -- An import that ended with `Io` did so because its list could not be opened, and then nothing was done, or because a
  -- call of its output failed.
  abbrev pub FailsUnopenedOrByOutput : List FileDone → List FileDone → Option (List ℕ) → Option (List ℕ) → Writes
      → Writes → Result Bool CommandRefusal → Type 0
  FailsUnopenedOrByOutput before after written written_new writes writes_new result =
      IfErr result (λ e. e ≡ Io
      → ImportsNone before after written written_new result ⊎ HasFailed writes writes_new)

  -- a list was imported, or it could not be opened and nothing was done
  abbrev pub ImportsFile : List FileDone → List FileDone → Option (List ℕ) → Option (List ℕ)
      → Result Bool CommandRefusal → Type 0
  ImportsFile before after written written_new result =
      ImportsList before after written written_new result ⊎ ImportsNone before after written written_new result
