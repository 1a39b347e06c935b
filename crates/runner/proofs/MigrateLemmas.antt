-- Tables of no schema are those of no older one, and a migration goes on from the copy of an older file.
use Rattle.std.proofs.Common.{ℕ, ◌≡◌, List, [], ◌∷◌, ◌++◌, Result, sym, ap, subst, ◌∙◌}
use Rattle.std.proofs.lemmas.List.{append_assoc}
use Rattle.store_files.specs.History.{Done, Span}
use Rattle.store_files.specs.declared.files.Deed.TheVariants.{Closed, Copied, Joined, Made, OpenedUnnamed, Unlinked}
use Rattle.sqlite.specs.State.{State}
use Rattle.world.specs.Store.{Shown}
use Rattle.commands.specs.declared.refusal.CommandRefusal.{CommandRefusal}
use Rattle.runner.specs.Migrate.{MigratesCopied, MigratesCopy}
use Rattle.sqlite.specs.Effect.{Database}
use Rattle.sqlite.specs.Schema.{Schema}
use Rattle.older.specs.declared.schema.Format.TheVariants.{One, Two}
use Rattle.older.specs.Schemas.{schema_1, schema_2}
use Rattle.tables.specs.Schema.{no_schema}
use Rattle.store.specs.Migrated.{IsForeign}

pub no_tables_are_foreign : (db : Database) → ◌≡◌ {A = Schema} db.schema no_schema → IsForeign db
no_tables_are_foreign db none One is = let e : ◌≡◌ {A = Schema} no_schema schema_1 = sym none
    ∙ is in let t = ap (λ (s : Schema). s.tables) e in cc
no_tables_are_foreign db none Two is = let e : ◌≡◌ {A = Schema} no_schema schema_2 = sym none
    ∙ is in let t = ap (λ (s : Schema). s.tables) e in cc

-- a copy that was opened without its names, and closed under the first of them
pub copy_migrated : {C : Type 0} (before mid after : List (Done C)) (path log other : List ℕ) (end : C)
    → other ≡ path
    → mid ≡ before ++ (path, OpenedUnnamed) ∷ (log, Unlinked) ∷ [] → after ≡ mid ++ (other, Closed end) ∷ []
    → after ≡ before ++ (path, OpenedUnnamed) ∷ (log, Unlinked) ∷ (path, Closed end) ∷ []
copy_migrated before mid after path log other end same opened closed =
    closed ∙ (ap (λ n. mid ++ (n, Closed end) ∷ []) same ∙ (ap (λ m. m ++ (path, Closed end) ∷ []) opened
    ∙ append_assoc before ((path, OpenedUnnamed) ∷ (log, Unlinked) ∷ []) ((path, Closed end) ∷ [])))

-- what was done with a copy, from when the older file was copied
pub from_copied : {C Q F D : Type 0} (state_of : C → State) (shown : F → Shown) (older : Span C Q) (targets : Span F D)
    (from path log to : List ℕ) (mid : List (Done Q)) (result : Result (Unit {0}) CommandRefusal)
    → mid ≡ older.before ++ (from, Copied) ∷ (to, Joined) ∷ (path, Made) ∷ (log, Made) ∷ []
    → MigratesCopy state_of shown
    (record { begins = older.begins; left = older.left; before = mid; after = older.after })
    targets path log to result
    → MigratesCopied state_of shown older targets from to result
from_copied state_of shown older targets from path log to mid result is copy = record {
  path = path;
  log = log;
  copy = subst (λ before. MigratesCopy state_of shown
      (record { begins = older.begins; left = older.left; before = before; after = older.after })
      targets path log to result) is copy;
}
