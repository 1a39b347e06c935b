-- How much of a catalog reached an output that was printed a line at a time, with turns of others between two lines.
use Rattle.std.specs.Prelude.{◌≡◌, ◌<◌, ◌≤◌, ◌⊎◌, ℕ, Bool, true, List, [], Option, None, Result, Ok, Err, Contains}
use Rattle.std.specs.Prelude.{IfErr, IsErrOf, OnOk}
use Rattle.std.specs.FinMap as map
use Rattle.std.specs.FinSet as set
use Rattle.std.specs.Io.KnownBytes.{Appends}
use Rattle.histories.specs.Calls.{Writes}
use Rattle.interleave.specs.Interleave.{IsSince}
use Rattle.modver.specs.SemanticVersion.{SemanticVersion, version_text}
use Rattle.world.specs.Store.{Shown, GrewOrFull}
use Rattle.world.specs.World.{World, IsWorld, place_cmp, view}
use Rattle.world.specs.declared.entry.Holder.{Holder}
use Rattle.world.specs.declared.registry.StoreFault.{StoreFault}
use Rattle.catalog.specs.Printing.{AnswersKey, IsFront, lines_of_key, unread}
use Rattle.catalog.specs.declared.between.CatalogEnd.{CatalogEnd}
use Rattle.catalog.specs.declared.between.CatalogEnd.TheVariants as end
use Rattle.catalog.specs.declared.print.PrintError.TheVariants as why

-- ---- the past of a store

-- the store has come of this world, which has the shelf, since these newcomers came
pub record HasBeen (shown : Shown) (newcomers : set.FinSet place_cmp) (s : List ℕ) (w : World) : Type 0 where
  pub is : IsWorld w
  pub shelf : map.contains_key w.shelves s ≡ true
  pub later : World
  pub stands : shown.stands later
  pub since : IsSince w later newcomers

-- What is known of what a store was before the newcomers came, to a shelf that it had. Nothing is known of what a crash
-- leaves of that.
abbrev pub past : Shown → set.FinSet place_cmp → List ℕ → Shown
past shown newcomers s = record {
  stands = HasBeen shown newcomers s;
  is_honest = shown.is_honest;
  leaves = λ _ _. ⊥;
  failures = shown.failures;
}

-- what is known of a store, where it has the shelf
abbrev pub there : Shown → List ℕ → Shown
there shown s = record {
  stands = λ w. shown.stands w × (map.contains_key w.shelves s ≡ true);
  is_honest = shown.is_honest;
  leaves = λ _ _. ⊥;
  failures = shown.failures;
}

-- ---- what was printed

-- it ended early, and not because the output failed
abbrev pub IsCut : {T : Type 0} → Result T CatalogEnd → Type 0
IsCut (Ok x) = ⊥
IsCut (Err (end.PrintError why.Output)) = ⊥
IsCut (Err other) = Unit {0}

-- in this world all of the lines were printed, or a beginning of them and then there was a failure; after all of them
-- the store still stands for it
pub record PrintsOnAt {T : Type 0} (new : Shown) (w : World) (result : Result T CatalogEnd)
    (lines printed : List ℕ) (may : Type 0) : Type 0 where
  pub all : OnOk result (printed ≡ lines)
  pub front : IsFront printed lines
  -- it was cut after the last line only if this may be
  pub cut : IsCut result → printed ≡ lines → may
  pub stays : OnOk result (new.stands w)

-- If the disks are honest, then in each world that the store stood for these lines were printed, or a beginning of them
-- and then there was a failure, after the last line only in the worlds where that may be. Honest or not, a fault of a
-- device has a cause.
pub record PrintsOn {T : Type 0} (old new : Shown) (written written_new : Option (List ℕ))
    (result : Result T CatalogEnd) (lines : World → List ℕ) (may : World → Type 0) : Type 0 where
  pub printed : List ℕ
  pub appends : Appends written written_new printed
  pub honest : new.is_honest → old.is_honest
  pub at : new.is_honest → (w : World) → old.stands w → PrintsOnAt new w result (lines w) printed (may w)
  pub no_fewer : old.failures ≤ new.failures
  pub device : IsErrOf result (end.PrintError why.Device) → GrewOrFull old.failures new.failures

-- a turn may cut it, or there are no lines
abbrev pub HaltsOrNone : Type 0 → (World → List ℕ) → World → Type 0
HaltsOrNone halts lines w = halts ⊎ (lines w ≡ [])

-- a turn may cut it, or the shelf does not see this version
abbrev pub HaltsOrUnseen : Type 0 → List ℕ → List ℕ → SemanticVersion → World → Type 0
HaltsOrUnseen halts s p v w = halts ⊎ (view w s p (version_text v) ≡ None)

-- a turn may cut it, or the shelf does not see one of these versions
abbrev pub HaltsOrLacks : Type 0 → List ℕ → List ℕ → List SemanticVersion → World → Type 0
HaltsOrLacks halts s p vs w = halts ⊎ ((v : SemanticVersion) × Contains vs v × (view w s p (version_text v) ≡ None))

-- If the disks are honest, then after Ok the store stands for each world that it stood for. Honest or not, a fault of a
-- device has a cause.
pub record StaysOn {T : Type 0} (old new : Shown) (result : Result T CatalogEnd) : Type 0 where
  pub honest : new.is_honest → old.is_honest
  pub at : new.is_honest → (w : World) → old.stands w → OnOk result (new.stands w)
  pub no_fewer : old.failures ≤ new.failures
  pub device : IsErrOf result (end.PrintError why.Device) → GrewOrFull old.failures new.failures

-- the calls to the output that failed did not become fewer, and a failure of the output has one
pub record FailsOn {T : Type 0} (writes writes_new : Writes) (result : Result T CatalogEnd) : Type 0 where
  pub no_fewer : writes.failed ≤ writes_new.failed
  pub output : IsErrOf result (end.PrintError why.Output) → writes.failed < writes_new.failed

-- the output did not fail
abbrev pub IsNotOutput : {T : Type 0} → Result T CatalogEnd → Type 0
IsNotOutput result = IfErr result (λ e. e ≡ end.PrintError why.Output → ⊥)

-- the failure of a fault of the store
abbrev pub unread_on : StoreFault → CatalogEnd
unread_on fault = end.PrintError (unread fault)

-- ---- of a key

-- in this world all lines of the key were printed, exactly one for each version that its shelf sees, or a beginning of
-- them and then there was a failure
pub record PrintsKeyAt (w : World) (held : Option Holder) (result : Result Bool CatalogEnd) (printed : List ℕ) : Type 0
  where
    pub all : OnOk result (printed ≡ lines_of_key held w)
    pub front : IsFront printed (lines_of_key held w)
    pub answers : AnswersKey held result

-- If the disks are honest to the end, so it is in each world that the store stood for before the call, whatever came
-- to it meanwhile. Honest or not, a fault of a device has a cause.
pub record PrintsCatalogOn (old new : Shown) (key : List ℕ) (written written_new : Option (List ℕ))
    (result : Result Bool CatalogEnd) : Type 0 where
  pub printed : List ℕ
  pub appends : Appends written written_new printed
  pub honest : new.is_honest → old.is_honest
  pub at : new.is_honest → (w : World) → old.stands w → PrintsKeyAt w (map.get w.keys key) result printed
  pub no_fewer : old.failures ≤ new.failures
  pub device : IsErrOf result (end.PrintError why.Device) → GrewOrFull old.failures new.failures

-- So it is, and if turns cannot cut it, it was cut after the last line only if there are no lines.
pub record PrintsLines (halts : Type 0) (old new : Shown) (key : List ℕ) (written written_new : Option (List ℕ))
    (result : Result Bool CatalogEnd) : Type 0 where
  pub prints : PrintsCatalogOn old new key written written_new result
  pub cut : new.is_honest → (w : World) → old.stands w → IsCut result
      → prints.printed ≡ lines_of_key (map.get w.keys key) w → HaltsOrNone halts (lines_of_key (map.get w.keys key)) w
