-- Opening a store, and why a command is refused whose store is not opened.
use Rattle.std.specs.Prelude.{ℕ, ◌≡◌, ◌⊎◌, Bool, true, false, List, [], ◌∷◌, ◌++◌, Result, Ok, Err}
use Rattle.sqlite_wal.specs.Recovery.{Image}
use Rattle.store_files.specs.History.{Done, Span, IsIdle, Refuses}
use Rattle.store_files.specs.declared.files.Deed.TheVariants.{Refused}
use Rattle.world.specs.Store.{Shown}
use Rattle.world.specs.World.{World}
use Rattle.store.specs.Shown.{BeginsAt}
use Rattle.store.specs.Restart.{HoldsStore, RecoversStore}
use Rattle.store_files.specs.declared.refusal.StoreRefusal.{StoreRefusal}
use Rattle.store_files.specs.declared.refusal.StoreRefusal.TheVariants as store
use Rattle.commands.specs.declared.refusal.CommandRefusal.{CommandRefusal}
use Rattle.commands.specs.declared.refusal.CommandRefusal.TheVariants as refusal
use Rattle.commands.specs.Ending.{unopened}
use Rattle.file_action.specs.Refusal.{new_store_refusal}

-- the result of the command, by that of the store
abbrev pub store_result : Result (Unit {0}) StoreRefusal → Result (Unit {0}) CommandRefusal
store_result (Ok u) = Ok tt
store_result (Err why) = Err (unopened why)

-- A store that was just opened over files that held this. If its disk was honest, it stands for a world that the files
-- held, or for `common` alone if they were blank, and a crash leaves only that world.
pub record HasBegun {S : Type 0} (shown : S → Shown) (held : Image) (store : S) : Type 0 where
  pub world : (shown store).is_honest → (w : World) × BeginsAt (shown store) w × RecoversStore held w
  pub found : (shown store).is_honest → (w : World) → HoldsStore held w → BeginsAt (shown store) w
  pub none_failed : (shown store).failures ≡ 0

-- why the name of a new store is refused: SQLite has a use for it, or memory ran out
abbrev pub IsOfName : StoreRefusal → Type 0
IsOfName why = (why ≡ store.Device) ⊎ (why ≡ store.Memory)

-- why a new store was not opened, by why its file was refused: `NotEmpty` may stand for `Device`, where a log stands
-- alone at its name
abbrev pub IsTargetRefusal : StoreRefusal → StoreRefusal → Type 0
IsTargetRefusal told why = (told ≡ why) ⊎ ((why ≡ store.Device) × (told ≡ store.NotEmpty))

-- What is told of a new store whose file was refused with `Device`: `not_empty` if it was said that a log stands alone
-- at its name, and `device` if it was said that none does
abbrev pub TellsLoneLog : {R : Type 0} → (Bool → Type 0) → R → R → R → Type 0
TellsLoneLog lone not_empty device told = (lone true × (told ≡ not_empty)) ⊎ (lone false × (told ≡ device))

-- so it is told if the file at `to` was refused with `Device`, and nothing else was done to the files of new stores
abbrev pub MeetsLoneLog : {D R : Type 0} → (Bool → Type 0) → List (Done D) → List (Done D) → List ℕ → R → R → R
    → Type 0
MeetsLoneLog lone before after to not_empty device told =
    after ≡ before ++ (to, Refused store.Device) ∷ [] → TellsLoneLog lone not_empty device told

-- Nothing was done with the source, and the result says why: the new store's file is the source's, and was not opened,
-- or the new store was to be opened, and was not.
pub record LeavesSource {S F D : Type 0} (targets : Span F D) (to : List ℕ) (source source_new : S)
    (result : Result (Unit {0}) CommandRefusal) : Type 0 where
  pub same : source_new ≡ source
  pub tells : ((result ≡ Err refusal.NotEmpty) × IsIdle targets)
      ⊎ ((why : StoreRefusal) × (told : StoreRefusal) × IsTargetRefusal told why
      × (result ≡ Err (new_store_refusal (unopened told))) × Refuses targets to why)
