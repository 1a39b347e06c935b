-- Migrating a store of an older schema, whole or not at all.
use Rattle.std.proofs.Common.{◌≡◌, ◌≢◌, ◌≤◌, ◌⊎◌, ℕ, Bool, true, false, IsTrue, Result, Ok, Err, is_ok, inl}
use Rattle.std.proofs.Common.{inr, refl, sym, subst, ◌∙◌, arith, true≢false}
use Rattle.sqlite.specs.Effect.{Database}
use Rattle.sqlite.specs.declared.error.Error.{Error}
use Rattle.sqlite.specs.declared.error.Error.TheVariants.{SqliteFailure}
use Rattle.sqlite.specs.declared.error.ErrorCode.TheVariants as code
use Rattle.sqlite.specs.State.{State, HasCleanDisk}
use Rattle.sqlite_trees.specs.View.{doubt}
use Rattle.older.specs.declared.schema.Format.{Format}
use Rattle.older.specs.Schemas.{schema_of}
use Rattle.world.specs.World.{World, IsWorld, only_common}
use Rattle.tables.specs.Causes.{IsHindered}
use Rattle.tables.specs.Means.{Stands, StandsFor, IsSettled}
use Rattle.tables.proofs.FailureLemmas.{was_clean}
use Rattle.statements.specs.Calls.{Spares, ChangesAt, IsOpenIfHonest}
use Rattle.statements.specs.Extract.{IsReadBy}
use Rattle.statements.specs.declared.extract_rows.CopyError.TheVariants.{Source}
use Rattle.statements.proofs.ChangeLemmas.{spares_at}
use Rattle.statements.proofs.ExtractLemmas.{unchanged_itself}
use Rattle.older_rows.specs.Causes.{HasReasonIf}
use Rattle.older_rows.specs.Filled.{IsOfTables}
use Rattle.older_rows.specs.Filled.{Migrates as WritesWorld}
use Rattle.cache.specs.Caches.{IsNothing}
use Rattle.store.specs.Shown.{shown_with}
use Rattle.store.specs.Migrated.{IsForeign, IsVastOlder, IsOldOr, SaysOfMigration, MigratesAt, Migrates, HasCauseInOne}
use Rattle.store_files.specs.Refusal.{IsOfOpening}
use Rattle.cache.specs.declared.caches.Caches.{Caches}
use Rattle.store_files.specs.declared.refusal.StoreRefusal.{StoreRefusal}
use Rattle.store_files.specs.declared.refusal.StoreRefusal.TheVariants as refusal
use Rattle.setup.proofs.PutLemmas.{spared_at}
use Rattle.cache.proofs.KeptLemmas.{nothing_kept}
use Rattle.setup.proofs.OpenLemmas.{device_hindered}
use Rattle.store.proofs.ExtractedLemmas.{after_fill, fill_kept}

-- ---- the tables

-- The older store is only read. The fresh store stands for what the old tables mean if the migration is done, and for
-- what it stood for otherwise.
record Moves (s t f g : State) (r : Result (Unit {0}) StoreRefusal) : Type 0 where
  clean : doubt s.is_clean ≤ doubt t.is_clean
  reads : IsOpenIfHonest s → IsReadBy s t (is_ok r)
  clean_too : doubt f.is_clean ≤ doubt g.is_clean
  spares : (r ≡ Err refusal.NotEmpty) ⊎ IsForeign s.now → Spares f g
  says : HasCleanDisk g → (x : World) → StandsFor f x → SaysOfMigration x r
  at : HasCleanDisk t → HasCleanDisk g → IsOpenIfHonest s → (x : World) → StandsFor f x
      → (w : World) × IsOldOr s.now x (is_ok r) w × ChangesAt f g (is_ok r) x w

-- so it is with a migration that did not read the older store, and only read the fresh one
untouched : (s f g : State) (r : Result (Unit {0}) StoreRefusal) → is_ok r ≡ false → Spares f g
    → (HasCleanDisk g → (x : World) → StandsFor f x → SaysOfMigration x r) → Moves s s f g r
untouched s f g r undone spares says = record {
  clean = omega arith;
  reads = λ ready. record {
    left = λ _ db may. may;
    outcome = λ clean. inl (unchanged_itself s (ready clean));
    same =
        λ clean _. unchanged_itself s (ready clean);
  };
  clean_too = spares.clean;
  spares = λ _. spares;
  says = says;
  at = λ clean good ready x stands.
      (x, inr (undone, refl), subst (λ b. ChangesAt f g b x x) (sym undone) (spared_at f g x x spares));
}

old_or : (format : Format) (db : Database) (x w : World) (done : Bool) → x ≡ only_common → IsOfTables format db done w
    → IsOldOr db x done w
old_or format db x w done blank (inl is) = inl (format, is)
old_or format db x w done blank (inr rest) = inr (rest.0, rest.1 ∙ sym blank)

-- the tables are those of an older schema, and their world may have been written into a store of `common` alone
module _ (format : Format) (s t f m g : State) (r : Result (Unit {0}) StoreRefusal)
    (schema : s.now.schema ≡ schema_of format) (first : Spares f m)
    (blank : HasCleanDisk m → (x : World) → StandsFor f x → IsTrue m.is_open × (x ≡ only_common))
    (writes : WritesWorld format s t m g (is_ok r)) where
  blank_at_last : HasCleanDisk g → (x : World) → StandsFor f x → IsTrue m.is_open × (x ≡ only_common)
  blank_at_last good = blank (was_clean m g writes.clean_too good)

  -- so it is with a migration that wrote into a fresh store of `common` alone, or failed to
  moved : r ≢ Err refusal.NotEmpty → ((x : World) → x ≡ only_common → SaysOfMigration x r) → Moves s t f g r
  moved some tells = record {
    clean = writes.clean;
    reads = λ ready. writes.reads (λ clean. (ready clean, schema));
    clean_too = let one = first.clean in let two = writes.clean_too in omega (arith, one, two);
    spares = λ hopeless. elim hopeless [ inl e ↦ absurd (some e) | inr foreign ↦ absurd (foreign format schema) ];
    says = λ good x stands. tells x (blank_at_last good x stands).1;
    at = λ clean good ready x stands.
        let is = blank_at_last good x stands in
        let still : Stands m only_common = subst (λ (u : World). Stands m u) is.1 (first.stays x stands.0) in
        let it = writes.at clean good (λ late. (ready late, schema)) (λ _. is.0) still in (
          it.0,
          old_or format s.now x it.0 (is_ok r) is.1 it.1,
          spares_at f m g (is_ok r) x it.0 first writes.clean_too
              (subst (λ (u : World). ChangesAt m g (is_ok r) u it.0) (sym is.1) it.2),
        );
  }

-- ---- the call `migrate`

-- a store that was only read shows what it showed, if nothing was uncommitted
same_tables : (s t : State) (done : Bool) → IsReadBy s t done → HasCleanDisk t → IsSettled s → IsTrue t.is_open
    → t.now ≡ s.now
same_tables s t done read clean settled opened =
    elim (read.outcome clean) [
      | inl same ↦ same.0.now_is
      | inr undone ↦ (undone.undone opened).0
          ∙ sym (settled.committed (undone.was_open opened))
    ]

world_of : (db : Database) (x w : World) → IsOldOr db x true w → IsWorld w
world_of db x w (inl was) = was.1.is
world_of db x w (inr rest) = absurd (true≢false rest.0)

-- a change from x to w, done if the result is Ok, migrates the store as `MigratesAt` says, with nothing kept after
at_end : (db : Database) (old new : State) (kept kept_new : Caches) (n n_new : ℕ) (x w : World)
    (r : Result (Unit {0}) StoreRefusal) → IsNothing kept_new → HasCleanDisk new → StandsFor old x
    → IsOldOr db x (is_ok r) w → ChangesAt old new (is_ok r) x w → SaysOfMigration x r
    → MigratesAt db (shown_with old kept n) (shown_with new kept_new n_new) x r
at_end db old new kept kept_new n n_new x w (Ok u) none clean stands was change tells = record {
  tells = tells;
  world = w;
  was = was;
  ok = ((change.world stands.0, world_of db x w was), nothing_kept w kept_new none);
  err = tt;
  crash = fill_kept old new kept kept_new n n_new x w (Ok u) (after_fill old new x w (Ok u) clean stands.0 change);
}
at_end db old new kept kept_new n n_new x w (Err e) none clean stands was change tells = record {
  tells = tells;
  world = w;
  was = was;
  ok = tt;
  err = ((change.world stands.0, stands.1), nothing_kept x kept_new none);
  crash = fill_kept old new kept kept_new n n_new x w (Err e) (after_fill old new x w (Err e) clean stands.0 change);
}

-- what the call shows follows from what it did to the tables, since the fresh store keeps nothing
migrated : (s t f g : State) (kept kept_new : Caches) (n n_new : ℕ) (r : Result (Unit {0}) StoreRefusal)
    → IsNothing kept_new → Moves s t f g r → Migrates s t (shown_with f kept n) (shown_with g kept_new n_new) r
migrated s t f g kept kept_new n n_new r none moves = record {
  clean = moves.clean;
  reads = moves.reads;
  same = λ ready clean settled opened. same_tables s t (is_ok r) (moves.reads ready) clean settled opened;
  honest = was_clean f g moves.clean_too;
  spares = λ unfit. let spares = moves.spares unfit in record {
    honest = was_clean f g spares.clean;
    stays = λ h w so. ((spares.stays w so.0.0, so.0.1), nothing_kept w kept_new none);
    left = λ h w x y so only db may. only db (spares.left h w so.0.0 db may);
  };
  at = λ clean good ready x so.
      let it = moves.at clean good ready x so.0 in
      at_end s.now f g kept kept_new n n_new x it.0 r none good so.0 it.1 it.2 (moves.says good x so.0);
}

pub unwritten : (s f g : State) (kept kept_new : Caches) (n n_new : ℕ) (r : Result (Unit {0}) StoreRefusal)
    → IsNothing kept_new → is_ok r ≡ false → Spares f g
    → (HasCleanDisk g → (x : World) → StandsFor f x → SaysOfMigration x r)
    → Migrates s s (shown_with f kept n) (shown_with g kept_new n_new) r
unwritten s f g kept kept_new n n_new r none undone spares says =
    migrated s s f g kept kept_new n n_new r none (untouched s f g r undone spares says)

pub written : (format : Format) (s t f m g : State) (kept kept_new : Caches) (n n_new : ℕ)
    (r : Result (Unit {0}) StoreRefusal) → IsNothing kept_new → s.now.schema ≡ schema_of format → Spares f m
    → (HasCleanDisk m → (x : World) → StandsFor f x → IsTrue m.is_open × (x ≡ only_common))
    → WritesWorld format s t m g (is_ok r) → r ≢ Err refusal.NotEmpty
    → ((x : World) → x ≡ only_common → SaysOfMigration x r)
    → Migrates s t (shown_with f kept n) (shown_with g kept_new n_new) r
written format s t f m g kept kept_new n n_new r none schema first blank writes some tells =
    migrated s t f g kept kept_new n n_new r none (moved format s t f m g r schema first blank writes some tells)

-- `SaysOfMigration` holds of each refusal that is a fault
pub fault_tells : (x : World) (e : StoreRefusal) → e ≢ refusal.BadSchema → e ≢ refusal.NotEmpty → e ≢ refusal.NoTeam
    → SaysOfMigration x (Err e)
fault_tells x refusal.Device a b c = tt
fault_tells x refusal.Memory a b c = tt
fault_tells x refusal.BadSchema a b c = absurd (a refl)
fault_tells x refusal.NotEmpty a b c = absurd (b refl)
fault_tells x refusal.NoTeam a b c = absurd (c refl)

-- `SaysOfMigration` holds of each refusal of an opening but `BadSchema`
pub opening_tells : (x : World) (e : StoreRefusal) → IsOfOpening e → e ≢ refusal.BadSchema → SaysOfMigration x (Err e)
opening_tells x refusal.Device of a = tt
opening_tells x refusal.Memory of a = tt
opening_tells x refusal.BadSchema of a = absurd (a refl)
opening_tells x refusal.NotEmpty of a = absurd of
opening_tells x refusal.NoTeam of a = absurd of

pub opening_some : (e : StoreRefusal) → IsOfOpening e → e ≢ refusal.NotEmpty
opening_some refusal.NotEmpty of same = of
opening_some refusal.Device of same = cc
opening_some refusal.Memory of same = cc
opening_some refusal.BadSchema of same = cc
opening_some refusal.NoTeam of same = of

pub error_not_full : (e : StoreRefusal) → e ≢ refusal.NotEmpty
    → ◌≢◌ {A = Result (Unit {0}) StoreRefusal} (Err e) (Err refusal.NotEmpty)
error_not_full e some same = some cc

pub done_not_full : ◌≢◌ {A = Result (Unit {0}) StoreRefusal} (Ok tt) (Err refusal.NotEmpty)
done_not_full same = cc

-- ---- why the call returns `Device`

device_is : (r : StoreRefusal) → ◌≡◌ {A = Result (Unit {0}) StoreRefusal} (Err r) (Err refusal.Device)
    → r ≡ refusal.Device
device_is r same = cc

pub older_device : (format : Format) (s t : State) (e : Error) (r : StoreRefusal) (count : ℕ)
    → (e ≡ SqliteFailure code.OutOfMemory → r ≡ refusal.Memory)
    → (HasCleanDisk t → HasReasonIf format s t (Source e)) → HasCauseInOne s t count count (Err r)
older_device format s t e r count memory reason = record {
  no_fewer = omega arith;
  device = λ clean same. inl (go (reason clean) (device_is r same));
  once = omega arith;
  stays = λ _. refl;
}
  where
    go : HasReasonIf format s t (Source e) → r ≡ refusal.Device → IsHindered s t ⊎ IsVastOlder s.now
    go (inl excused) is = inl (device_hindered s t e r memory excused is)
    go (inr vast) is = inr (format, vast)
