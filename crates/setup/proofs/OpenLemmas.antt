-- Opening the tables of a connection.
use Rattle.std.proofs.Common.{◌≡◌, ◌⊎◌, sym, ap, subst, ◌∙◌, inl, inr, IsTrue}
use Rattle.sqlite.specs.Tree.{Trees}
use Rattle.sqlite.specs.Effect.{Database}
use Rattle.sqlite.specs.State.{State, HasCleanDisk, IsUnchanged}
use Rattle.world.specs.World.{World, IsWorld}
use Rattle.tables.specs.Means.{StandFor, Holds, IsSettled, StandsForSome}
use Rattle.setup.specs.Shown.{shown_of, BeginsAt}
use Rattle.tables.specs.Causes.{IsHindered, IsExcused, IsVast, HasReason}
use Rattle.setup.specs.Opened.{Opens}
use Rattle.store_files.specs.declared.refusal.StoreRefusal.{StoreRefusal}
use Rattle.store_files.specs.declared.refusal.StoreRefusal.TheVariants as refusal
use Rattle.sqlite.specs.declared.error.Error.{Error}
use Rattle.sqlite.specs.declared.error.Error.TheVariants.{SqliteFailure}
use Rattle.sqlite.specs.declared.error.ErrorCode.TheVariants as code
use Rattle.statements.proofs.WriteLemmas.{open_leaves}

module _ (old new : State) where
  -- a store that holds a world begins at it
  pub begins_at : ((db : Trees) → IsTrue new.is_open → new.may_leave db → db ≡ new.committed.trees)
      → IsTrue new.is_open → HasCleanDisk new → (w : World) → Holds new w → IsWorld w → BeginsAt (shown_of new) w
  begins_at law opened clean w holds is = record {
    honest = clean;
    stands = ((λ _ _. holds), is);
    left = λ db may. let it = open_leaves new w (λ db. law db opened) holds db may in (it.0, it.1, inl it.2);
  }

  -- if the tables stand for a world and are unchanged, the store opens at that world
  pub tables_found : ((db : Trees) → IsTrue new.is_open → new.may_leave db → db ≡ new.committed.trees) → IsSettled old
      → HasCleanDisk new → IsUnchanged old new → StandsForSome old.now → Opens old new
  tables_found law settled clean same some =
      let shows = same.0 in
      let holds : Holds new some.world = record {
        schema = ap (λ (d : Database). d.schema) shows.now_is ∙ some.schema;
        settled = shows.now_is ∙ (settled.committed shows.was_open ∙ sym shows.committed_is);
        autocommit = shows.mode ∙ settled.autocommit;
        trees = subst (λ (d : Database). StandFor d.trees some.world) (sym shows.now_is) some.trees;
      } in
      record {
        is_open = shows.is_open;
        world = some.world;
        tables = inr (record { schema = some.schema; same = shows.now_is; means = some.trees.means });
        begins = begins_at law shows.is_open clean some.world holds some.is;
      }

-- ---- why an opening is refused

-- if running out of memory is refused with `Memory`, `Device` says that something hindered the call
pub device_hindered : (old new : State) (e : Error) (r : StoreRefusal)
    → (e ≡ SqliteFailure code.OutOfMemory → r ≡ refusal.Memory) → IsExcused old new e → r ≡ refusal.Device
    → IsHindered old new
device_hindered old new e r memory (inl wanted) device =
    absurd (let d : refusal.Memory ≡ refusal.Device = sym (memory wanted) ∙ device in cc)
device_hindered old new e r memory (inr hindered) device = hindered

pub device_reason : (old new : State) (e : Error) (r : StoreRefusal)
    → (e ≡ SqliteFailure code.OutOfMemory → r ≡ refusal.Memory)
    → HasReason old new e → r ≡ refusal.Device → IsHindered old new ⊎ IsVast old.now
device_reason old new e r memory (inl excused) device = inl (device_hindered old new e r memory excused device)
device_reason old new e r memory (inr vast) device = inr vast
