-- What a copy of the store of a served file into that of another file does, what is printed of a catalog of it, and
-- what a count of its versions tells.
use Rattle.std.specs.Prelude.{ℕ, List, [], ◌≡◌, ◌≤◌, ◌⊎◌, ⊤, Bool, true, false, Some, Result, Ok, Err}
use Rattle.store_files.specs.History.{Done, Span, IsIdle, Refuses, Opens}
use Rattle.store_files.specs.declared.files.Use.TheVariants.{Writing}
use Rattle.world.specs.Store.{Shown}
use Rattle.world.specs.World.{World}
use Rattle.statements.specs.Counted.{versions_in}
use Rattle.store.specs.Extracted.{HasCauseInEither, IsRead, IsUnfit}
use Rattle.store.specs.Parts.{FillsAt}
use Rattle.store.specs.Between.{told}
use Rattle.store.specs.declared.between.CopyEnd.{CopyEnd}
use Rattle.store.specs.declared.between.CopyEnd.TheVariants.{Refused, Ended}
use Rattle.store_files.specs.declared.refusal.StoreRefusal.{StoreRefusal}
use Rattle.store_files.specs.declared.refusal.StoreRefusal.TheVariants as store
use Rattle.catalog.specs.Meanwhile.{PrintsCatalogOn}
use Rattle.catalog.specs.declared.between.CatalogEnd.{CatalogEnd}
use Rattle.catalog.specs.declared.between.CatalogEnd.TheVariants as end
use Rattle.catalog.specs.declared.print.PrintError.TheVariants as why
use Rattle.control.specs.Copying.{Making, OfKey, ToPath}
use Rattle.control.specs.declared.copies.CatalogRefusal.{CatalogRefusal}
use Rattle.control.specs.declared.copies.CatalogRefusal.TheVariants as catalog
use Rattle.control.specs.declared.copies.CopyRefusal.{CopyRefusal}
use Rattle.control.specs.declared.copies.CopyRefusal.TheVariants as copy
use Rattle.runner.specs.Opened.{IsTargetRefusal}

-- why no copy was made, by why the store was not opened or copied; other tables than a store's are bytes too, and
-- `NoTeam` never comes
abbrev pub copy_refusal : StoreRefusal → CopyRefusal
copy_refusal store.Device = copy.Device
copy_refusal store.Memory = copy.Memory
copy_refusal store.BadSchema = copy.NotEmpty
copy_refusal store.NotEmpty = copy.NotEmpty
copy_refusal store.NoTeam = copy.Device

-- the result of a copy, by that of the store
abbrev pub copied : Result (Unit {0}) CopyEnd → Result (Unit {0}) CopyRefusal
copied (Ok u) = Ok tt
copied (Err (Refused why)) = Err (copy_refusal why)
copied (Err Ended) = Err copy.Ended

-- what came of a catalog, by how its printing ended
abbrev pub catalogued : Result Bool CatalogEnd → Result (Unit {0}) CatalogRefusal
catalogued (Ok true) = Ok tt
catalogued (Ok false) = Err catalog.NoKey
catalogued (Err (end.PrintError why.Device)) = Err catalog.Device
catalogued (Err (end.PrintError why.Memory)) = Err catalog.Memory
catalogued (Err (end.PrintError why.Output)) = Err catalog.Output
catalogued (Err end.Ended) = Err catalog.Ended

-- a count tells how many versions there are in each world that the served store stood for, on an honest disk
abbrev pub CountsIn : {S : Type 0} → (S → Shown) → S → S → ℕ → Type 0
CountsIn shown old new count = (shown new).is_honest → (w : World) → (shown old).stands w → count ≡ versions_in w

module _ {S F : Type 0} (shown : S → Shown) (shown_too : F → Shown) where
  -- An open store was made a copy of the served one, or it was not, and the result says why. The copy is of each world
  -- that the served store stood for before the turns that it had meanwhile.
  pub record CopiesInto (source source_new : S) (fresh fresh_new : F)
      (result : Result (Unit {0}) CopyRefusal) : Type 0 where
    pub end : Result (Unit {0}) CopyEnd
    pub honest : (shown source_new).is_honest → (shown source).is_honest
    pub honest_too : (shown_too fresh_new).is_honest → (shown_too fresh).is_honest
    pub spares : IsUnfit (told end) → IsRead (shown_too fresh) (shown_too fresh_new)
    pub at : (shown source_new).is_honest → (shown_too fresh_new).is_honest → (w x : World)
        → (shown source).stands w → (shown_too fresh).stands x
        → FillsAt (shown_too fresh) (shown_too fresh_new) ⊤ w x (told end)
    -- the failures of the served store after the last turn, before one of the copy itself
    pub failures : ℕ
    pub no_fewer : (shown source).failures ≤ failures
    pub cause : HasCauseInEither failures (shown source_new).failures
        (shown_too fresh).failures (shown_too fresh_new).failures (told end)
    pub ends : result ≡ copied end

  -- nothing was done, since another copy is being made
  pub record IsBusy (source source_new : S) (result : Result (Unit {0}) CopyRefusal) : Type 0 where
    pub same : source_new ≡ source
    pub tells : result ≡ Err copy.Busy

  -- These lines of the catalog of a key were printed, of each world that the served store stood for, and the result
  -- says how that ended. Or nothing was done, since a copy is made or another catalog is printed.
  abbrev pub CatalogsKey : S → S → List ℕ → List ℕ → Result (Unit {0}) CatalogRefusal → Type 0
  CatalogsKey source source_new key printed result =
      ((end : Result Bool CatalogEnd) × (result ≡ catalogued end)
      × PrintsCatalogOn (shown source) (shown source_new) key (Some []) (Some printed) end)
      ⊎ ((source_new ≡ source) × (printed ≡ []) × (result ≡ Err catalog.Busy))

  module _ {D : Type 0} (targets : Span F D) (source source_new : S) (to : List ℕ) where
    -- nothing was done with the served store, and the result says why: the new store's file is its own, or its name was
    -- refused, or the new store was to be opened, and was not
    pub record CopiesUnopened (result : Result (Unit {0}) CopyRefusal) : Type 0 where
      pub same : source_new ≡ source
      pub tells : ((result ≡ Err copy.NotEmpty) × IsIdle targets)
          ⊎ ((why : StoreRefusal) × (told : StoreRefusal) × IsTargetRefusal told why
          × (result ≡ Err (copy_refusal told)) × (IsIdle targets ⊎ Refuses targets to why))

    -- the store of the file `to`, and no other, was opened once and made a copy, or not; or no store was opened
    abbrev pub CopiesTo : Result (Unit {0}) CopyRefusal → Type 0
    CopiesTo result =
        Opens targets to Writing (λ fresh fresh_new. CopiesInto source source_new fresh fresh_new result)
        ⊎ CopiesUnopened result

  module _ {G D : Type 0} (begins : F → Type 0) (left : F → D) (history : G → List (Done D)) where
    -- By files to which nothing was done before, the store of the file at this path, and no other, was opened once and
    -- made a copy, or not; or no store was opened. Or nothing was done, since another copy is being made.
    abbrev pub CopiesFile : S → S → List ℕ → Result (Unit {0}) CopyRefusal → Type 0
    CopiesFile source source_new path result =
        ((targets : G) × CopiesTo (record { begins = begins; left = left; before = []; after = history targets })
        source source_new path result)
        ⊎ IsBusy source source_new result

    -- what was made of the served store
    abbrev pub Makes : S → S → Making → Type 0
    Makes source source_new (ToPath path result) = CopiesFile source source_new path result
    Makes source source_new (OfKey key printed result) = CatalogsKey source source_new key printed result
