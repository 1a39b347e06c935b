-- How much of a catalog reached an output, and why not all of it did.
use Rattle.std.specs.Prelude.{ℕ, Bool, true, false, ◌≡◌, ◌<◌, ◌≤◌, ◌++◌, List, [], Option, Some, None, Result, Ok, Err}
use Rattle.std.specs.Prelude.{IfErr, IsErrOf, MatchResult, OnOk}
use Rattle.std.specs.FinMap as map
use Rattle.std.specs.Io.KnownBytes.{Appends}
use Rattle.histories.specs.Calls.{Writes}
use Rattle.world.specs.Store.{Shown, AddsNothing, GrewOrFull}
use Rattle.world.specs.World.{World}
use Rattle.world.specs.declared.entry.Holder.{Holder}
use Rattle.world.specs.declared.registry.StoreFault.{StoreFault}
use Rattle.world.specs.declared.registry.StoreFault.TheVariants as fault
use Rattle.catalog.specs.Catalog.{lines_seen}
use Rattle.catalog.specs.declared.print.PrintError.{PrintError}
use Rattle.catalog.specs.declared.print.PrintError.TheVariants as why

-- the text begins with these bytes
abbrev pub IsFront : List ℕ → List ℕ → Type 0
IsFront front text = (rest : List ℕ) × (text ≡ front ++ rest)

-- the text was printed, or the output failed and a beginning of it was printed
abbrev pub Puts : Option (List ℕ) → Option (List ℕ) → List ℕ → Result (Unit {0}) PrintError → Type 0
Puts written written_new text result =
    MatchResult result (λ _. Appends written written_new text)
    (λ e. (e ≡ why.Output) × ((front : List ℕ) × IsFront front text × Appends written written_new front))

-- it failed, and not because the output failed
abbrev pub IsUnread : {T : Type 0} → Result T PrintError → Type 0
IsUnread (Ok x) = ⊥
IsUnread (Err why.Output) = ⊥
IsUnread (Err other) = Unit {0}

-- in this world all of the lines were printed, or a beginning of them and then there was a failure; the store is as it
-- was
pub record PrintsAt {T : Type 0} (old new : Shown) (w : World) (result : Result T PrintError)
    (lines printed : List ℕ) : Type 0 where
  pub all : OnOk result (printed ≡ lines)
  pub front : IsFront printed lines
  -- if the output did not fail, a failure came before the end of the lines, or there are none
  pub cut : IsUnread result → printed ≡ lines → lines ≡ []
  pub stays : new.stands w
  pub left : AddsNothing old new

-- If the disks are honest, then in each world that the store stood for these lines were printed, or a beginning of them
-- and then there was a failure. Honest or not, a fault of a device has a cause.
pub record Prints {T : Type 0} (old new : Shown) (written written_new : Option (List ℕ)) (result : Result T PrintError)
    (lines : World → List ℕ) : Type 0 where
  pub printed : List ℕ
  pub appends : Appends written written_new printed
  pub honest : new.is_honest → old.is_honest
  pub at : new.is_honest → (w : World) → old.stands w → PrintsAt old new w result (lines w) printed
  pub no_fewer : old.failures ≤ new.failures
  pub device : IsErrOf result why.Device → GrewOrFull old.failures new.failures

-- the calls to the output that failed did not become fewer, and a failure of the output has one
pub record FailsBy {T : Type 0} (writes writes_new : Writes) (result : Result T PrintError) : Type 0 where
  pub no_fewer : writes.failed ≤ writes_new.failed
  pub output : IfErr result (λ e. e ≡ why.Output → writes.failed < writes_new.failed)

-- ---- of a key

-- the lines of a key, none if there is no such key
abbrev pub lines_of_key : Option Holder → World → List ℕ
lines_of_key None w = []
lines_of_key (Some h) w = lines_seen w h.shelf

-- `true` means that there is such a key, and `false` that there is none
abbrev pub AnswersKey : {E : Type 0} → Option Holder → Result Bool E → Type 0
AnswersKey held (Ok true) = (h : Holder) × (held ≡ Some h)
AnswersKey held (Ok false) = held ≡ None
AnswersKey held (Err e) = Unit {0}

-- the lines of the key were printed, or a beginning of them
pub record PrintsCatalog (old new : Shown) (key : List ℕ) (written written_new : Option (List ℕ))
    (result : Result Bool PrintError) : Type 0 where
  pub prints : Prints old new written written_new result (λ w. lines_of_key (map.get w.keys key) w)
  pub answers : new.is_honest → (w : World) → old.stands w → AnswersKey (map.get w.keys key) result

-- the failure of a fault of the store
abbrev pub unread : StoreFault → PrintError
unread fault.Device = why.Device
unread fault.Memory = why.Memory
