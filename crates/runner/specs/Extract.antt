-- Extracting from the store of one file into that of another.
use Rattle.std.specs.Prelude.{ℕ, List, ◌≡◌, ◌⊎◌, Result, Err}
use Rattle.store_files.specs.History.{Span, IsIdle, Refuses, Opens}
use Rattle.store_files.specs.declared.files.Use.TheVariants.{Writing}
use Rattle.world.specs.Store.{Shown}
use Rattle.store.specs.Extracted.{HasCauseInEither}
use Rattle.store.specs.Parts.{ExtractsTeams}
use Rattle.store_files.specs.declared.refusal.StoreRefusal.{StoreRefusal}
use Rattle.commands.specs.declared.refusal.CommandRefusal.{CommandRefusal}
use Rattle.commands.specs.declared.refusal.CommandRefusal.TheVariants.{NotEmpty}
use Rattle.commands.specs.Ending.{unopened}
use Rattle.runner.specs.Opened.{store_result, IsOfName, LeavesSource}

module _ {S F : Type 0} (shown : S → Shown) (shown_too : F → Shown) (source source_new : S) where
  -- the teams' part of the source was put into an open store, or it was not, and the result says why
  pub record ExtractsPart (fresh fresh_new : F) (teams : List (List ℕ))
      (result : Result (Unit {0}) CommandRefusal) : Type 0 where
    pub told : Result (Unit {0}) StoreRefusal
    pub extracts : ExtractsTeams teams (shown source) (shown source_new) (shown_too fresh) (shown_too fresh_new) told
    pub cause : HasCauseInEither (shown source).failures (shown source_new).failures
        (shown_too fresh).failures (shown_too fresh_new).failures told
    pub ends : result ≡ store_result told

module _ {S F D : Type 0} (shown : S → Shown) (shown_too : F → Shown) (targets : Span F D)
    (teams : List (List ℕ)) (to : List ℕ) where
  -- the teams' part was put, or not, into the store of the file `to`, which was opened for that; or the source was left
  -- as it was
  abbrev pub Fills : S → S → Result (Unit {0}) CommandRefusal → Type 0
  Fills source source_new result =
      Opens targets to Writing (λ fresh fresh_new. ExtractsPart shown shown_too source source_new fresh fresh_new teams result)
      ⊎ LeavesSource targets to source source_new result

module _ {S F C D : Type 0} (shown : S → Shown) (shown_too : F → Shown) (files : Span S C) (targets : Span F D)
    (db : List ℕ) (teams : List (List ℕ)) (to : List ℕ) where
  -- no store was opened, and the result says why: both are one file without bytes, the name of the second was refused,
  -- or the first was to be opened, and was not
  pub record ExtractsNone (result : Result (Unit {0}) CommandRefusal) : Type 0 where
    pub tells : ((result ≡ Err NotEmpty) × IsIdle files)
        ⊎ ((why : StoreRefusal) × (result ≡ Err (unopened why))
        × ((IsIdle files × IsOfName why) ⊎ Refuses files db why))
    pub idle : IsIdle targets

  -- the store of the first file was opened, and some teams' part of it was put into that of the other, or was not
  abbrev pub ExtractsFile : Result (Unit {0}) CommandRefusal → Type 0
  ExtractsFile result =
      Opens files db Writing (λ source source_new. Fills shown shown_too targets teams to source source_new result)
      ⊎ ExtractsNone result
