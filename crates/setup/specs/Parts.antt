-- Copying the shelves of a store that some teams see into a fresh store.
use Rattle.std.specs.Prelude.{ℕ, ◌≡◌, ◌≢◌, List, [], ◌∷◌, ◌++◌, map as each, Bool, true}
use Rattle.std.specs.Prelude.{false, Option, Some, None, Result, Ok, Err, OnOk, OnErr, IsTrue}
use Rattle.std.specs.FinMap as map
use Rattle.sqlite.specs.State.{State, HasCleanDisk}
use Rattle.sqlite.specs.Tree.{Trees}
use Rattle.sqlite_rules.specs.Lists.{Has}
use Rattle.tables.specs.Means.{Means, StandFor}
use Rattle.statements.specs.Rows.{Filling, GoesOn}
use Rattle.statements.specs.Extract.{OfWorlds, PutsShelf, CopiesKeys, CopiesVersions, CopiesPieces, Then, Along}
use Rattle.statements.specs.Shelves.{names_of, added, AreShelves, AreAllShelves}
use Rattle.statements.specs.declared.extract_rows.CopyError.{CopyError}
use Rattle.statements.specs.declared.shelf_list.Shelf.{Shelf}
use Rattle.world.specs.Part.{IsTeam, is_held}
use Rattle.world.specs.Store.{Shown}
use Rattle.world.specs.World.{World, IsWorld, common, chain, is_among, only_common}
use Rattle.setup.specs.Extracted.{IsRead, IsUnfit, AfterFill}
use Rattle.setup.specs.declared.judge.Judged.{Judged}
use Rattle.setup.specs.declared.judge.Judged.TheVariants as judged
use Rattle.setup.specs.declared.write.Rows.{Rows}
use Rattle.setup.specs.declared.write.Rows.TheVariants as rows
use Rattle.store_files.specs.declared.refusal.StoreRefusal.{StoreRefusal}
use Rattle.store_files.specs.declared.refusal.StoreRefusal.TheVariants as refusal

-- ---- some shelves of a world

-- these shelves, each with its parent, their entries and their keys with their rights, and nothing else
abbrev pub part_of : World → List (List ℕ) → World
part_of w ss = record {
  keys = map.retain_keys w.keys (λ k. is_held ss (map.get w.keys k));
  shelves = map.retain_keys w.shelves (is_among ss);
  entries = map.retain_keys w.entries (λ q. is_among ss q.shelf);
}

-- the shelves that any of these teams sees, and `common`
abbrev pub chains : World → List (List ℕ) → List (List ℕ)
chains w [] = common ∷ []
chains w (t ∷ ts) = chain w t ++ chains w ts

-- at least one name is given, and each is the name of a team
abbrev pub AreTeams : World → List (List ℕ) → Type 0
AreTeams w ts = (ts ≢ []) × ((t : List ℕ) → Has ts t → IsTeam w t)

-- ---- the choice

-- the list with the parent of a team and then the team added
abbrev pub with_parent_and_team : List Shelf → List ℕ → List ℕ → List Shelf
with_parent_and_team shelves parent t =
    added (added shelves (record { name = parent; parent = None })) (record { name = t; parent = Some parent })

-- the parent of a team and then the team are added; None: there is no such team
abbrev pub AddsTeam : World → List ℕ → List Shelf → Option (List Shelf) → Type 0
AddsTeam w t shelves None = ¬ IsTeam w t
AddsTeam w t shelves (Some more) =
    (parent : List ℕ) × (map.get w.shelves t ≡ Some (Some parent))
    × (more ≡ with_parent_and_team shelves parent t)

-- these are shelves of the world, and their names, with `common`, are the names ss
pub record AreOf (w : World) (ss : List (List ℕ)) (shelves : List Shelf) : Type 0 where
  pub are : AreShelves w shelves
  pub same : (s : List ℕ) → is_among (common ∷ names_of shelves) s ≡ is_among ss s

-- these are the shelves that the teams see; None: no team is named, or a name is not a team's
abbrev pub ListsTeams : World → List (List ℕ) → Option (List Shelf) → Type 0
ListsTeams w ts None = ¬ AreTeams w ts
ListsTeams w ts (Some shelves) = AreTeams w ts × AreOf w (chains w ts) shelves

-- the world of the shelves that the teams see
abbrev pub part_of_teams : List (List ℕ) → World → World
part_of_teams ts w = part_of w (chains w ts)

-- the verdict on copying the part of some teams of w into a store of x
abbrev pub IsJudged : World → World → List (List ℕ) → Judged → Type 0
IsJudged w x ts (judged.Fit shelves) =
    AreTeams w ts × AreShelves w shelves × (part_of w (common ∷ names_of shelves) ≡ part_of_teams ts w)
    × (x ≡ only_common)
IsJudged w x ts judged.NoTeam = ¬ AreTeams w ts
IsJudged w x ts judged.NotEmpty = AreTeams w ts × (x ≢ only_common)

-- whether the shelves are to be written
abbrev pub is_fit : Judged → Bool
is_fit (judged.Fit shelves) = true
is_fit judged.NoTeam = false
is_fit judged.NotEmpty = false

-- whether the shelves were written
abbrev pub is_written : Result Judged CopyError → Bool
is_written (Ok judged) = is_fit judged
is_written (Err e) = false

-- ---- the rows

-- Rows are put into a fresh store inside a transaction of it. If the call is done, `Makes` relates the tables before
-- and after.
pub record Puts (Makes : Trees → Trees → Type 0) (fresh fresh_new : State) (done : Bool) : Type 0 where
  pub goes_on : GoesOn fresh fresh_new done
  pub makes : HasCleanDisk fresh_new → Filling fresh → IsTrue done
      → Makes fresh.now.trees fresh_new.now.trees × Filling fresh_new

-- these shelves are put in, one after another
abbrev pub PutsShelves : List Shelf → Trees → Trees → Type 0
PutsShelves [] db after = db ≡ after
PutsShelves (s ∷ shelves) db after = (mid : Trees) × PutsShelf s.name s.parent db mid × PutsShelves shelves mid after

-- the rows of one kind of a shelf are put in, beside those that were there
abbrev pub CopiesRows : Rows → List ℕ → Trees → Trees → Trees → Type 0
CopiesRows rows.Keys shelf = OfWorlds (CopiesKeys shelf)
CopiesRows rows.Versions shelf = CopiesVersions shelf
CopiesRows rows.Pieces shelf = CopiesPieces shelf

-- these shelves are put in, and then the keys of `common` and of these shelves
abbrev pub PutsRegistry : List Shelf → Trees → Trees → Trees → Type 0
PutsRegistry shelves = Then (λ _. PutsShelves shelves) (Along (CopiesRows rows.Keys) (common ∷ names_of shelves))

-- the world without its entries
abbrev pub registry_of : World → World
registry_of w = record { keys = w.keys; shelves = w.shelves; entries = map.empty }

-- if the source means w, these are all its shelves, and the fresh tables stood for `common` alone, they come to stand
-- for w without its entries
abbrev pub MakesRegistry : List Shelf → Trees → Trees → Trees → Type 0
MakesRegistry shelves source db after =
    (w : World) → Means source w → IsWorld w → AreAllShelves w shelves
    → StandFor db only_common → StandFor after (registry_of w)

-- if the source means w, and the fresh tables stood for `common` alone, they come to mean w with only these shelves and
-- `common`
abbrev pub MakesPart : List Shelf → Trees → Trees → Trees → Type 0
MakesPart shelves source db after =
    (w : World) → Means source w → IsWorld w → AreShelves w shelves
    → StandFor db only_common → Means after (part_of w (common ∷ names_of shelves))

-- ---- the calls `extract_teams` and `copy_between`

-- What the result of copying shelves into a store of x says: it is done, or why it is refused, or memory ran out or a
-- device failed. `NoTeam` comes before `NotEmpty`.
abbrev pub SaysOfCopy : Type 0 → World → Result (Unit {0}) StoreRefusal → Type 0
SaysOfCopy There x (Ok u) = There × (x ≡ only_common)
SaysOfCopy There x (Err refusal.NoTeam) = ¬ There
SaysOfCopy There x (Err refusal.NotEmpty) = There × (x ≢ only_common)
SaysOfCopy There x (Err refusal.BadSchema) = ⊥
SaysOfCopy There x (Err refusal.Device) = Unit {0}
SaysOfCopy There x (Err refusal.Memory) = Unit {0}

-- The fresh store stands for the next world if the call returns Ok, and for what it stood for otherwise, and a crash
-- may follow.
pub record FillsAt (old new : Shown) (There : Type 0) (next x : World) (result : Result (Unit {0}) StoreRefusal) : Type
    0 where
  pub tells : SaysOfCopy There x result
  pub ok : OnOk result (new.stands next)
  pub err : OnErr result (new.stands x)
  pub crash : AfterFill old new x result next

-- For each world of the source and each of the fresh store, `FillsAt` holds, if the disks have returned what was
-- written. The source is only read, and so is the fresh store if `IsUnfit` holds of the result.
pub record FillsBy (There : World → Type 0) (next : World → World)
    (source source_new fresh fresh_new : Shown) (result : Result (Unit {0}) StoreRefusal) : Type 0 where
  pub reads : IsRead source source_new
  pub honest : fresh_new.is_honest → fresh.is_honest
  pub spares : IsUnfit result → IsRead fresh fresh_new
  pub at :
      source_new.is_honest → fresh_new.is_honest → (w x : World) → source.stands w → fresh.stands x
      → FillsAt fresh fresh_new (There w) (next w) x result

-- the part of these teams is put into a fresh store
abbrev pub ExtractsTeams : List (List ℕ) → Shown → Shown → Shown → Shown → Result (Unit {0}) StoreRefusal → Type 0
ExtractsTeams ts = FillsBy (λ w. AreTeams w ts) (part_of_teams ts)
