-- A fresh store after the end of the transaction that filled it.
use Rattle.std.proofs.Common.{◌≡◌, ◌≤◌, Bool, true, false, IsTrue, true≢false, inl, inr, refl, sym, ◌∙◌, arith}
use Rattle.sqlite_trees.specs.View.{doubt}
use Rattle.sqlite_trees.specs.declared.store.Store.{Ghosts}
use Rattle.sqlite.specs.Tree.{Trees}
use Rattle.sqlite.specs.Effect.{Database}
use Rattle.sqlite.specs.Held.{Held, state}
use Rattle.sqlite.specs.State.{State, HasCleanDisk, Survives}
use Rattle.world.specs.World.{World, only_common}
use Rattle.tables.specs.Means.{Stands}
use Rattle.tables.proofs.FailureLemmas.{was_clean}
use Rattle.older.specs.declared.schema.Format.{Format}
use Rattle.statements.specs.Calls.{ChangesAt}
use Rattle.statements.specs.Extract.{IsReadBy}
use Rattle.statements.specs.Rows.{Writing}
use Rattle.statements.proofs.RowLemmas.{filling_of}
use Rattle.statements.proofs.TransactionEnds.{begins_writing}
use Rattle.older_rows.specs.Filled.{Fills, Migrates, IsOfTables}
use Rattle.older_rows.specs.Visits.{Moves, IsReadyAs}

-- a world that may be written, for which the connection stands inside the transaction if all was done
pub record HasWritten (format : Format) (old last : State) (done : Bool) : Type 0 where
  pub world : World
  pub was : IsOfTables format old.now done world
  pub writing : IsTrue done → Writing last world

-- after a fill inside a transaction that began with `common` alone, there is such a world
pub written : (format : Format) (old read start last : State) (done : Bool)
    → Moves format (Fills format) old read start last done
    → HasCleanDisk read → HasCleanDisk last → IsReadyAs format old → Writing start only_common
    → HasWritten format old last done
written format old read start last false fills clean late ready begun =
    record { world = only_common; was = inr (refl, refl); writing = λ done. absurd (true≢false (sym done)) }
written format old read start last true fills clean late ready begun =
    let it = fills.makes clean late ready (filling_of start only_common begun) (refl) in
    let has = it.0 begun.trees it.1.sound in
    record {
      world = has.world;
      was = inl (record { schema = (ready (was_clean old read fills.clean clean)).1; means = has.means; is = has.is });
      writing = λ _. record { schema = it.1.schema; trees = has.stands; is_open = it.1.is_open; inside = it.1.inside };
    }

-- ---- the call `write_world`

-- a world that may be written may be written too if less is done
of_fewer : (format : Format) (db : Database) (w : World) (done end : Bool) → (IsTrue end → IsTrue done)
    → IsOfTables format db done w → IsOfTables format db end w
of_fewer format db w done end less (inl is) = inl is
of_fewer format db w done true less (inr rest) = absurd (true≢false (sym (less refl) ∙ rest.0))
of_fewer format db w done false less (inr rest) = inr (refl, rest.1)

ended_clean : (P : Trees → Type 0) (last exit : State) (done : Bool) → (IsTrue done → Survives last exit P)
    → (done ≡ false → Survives last exit (λ _. ⊥)) → doubt last.is_clean ≤ doubt exit.is_clean
ended_clean P last exit true whole lost = (whole refl).clean
ended_clean P last exit false whole lost = (lost refl).clean

module _ {S : Type 0} (g : Ghosts S) (h : Held S) (format : Format) (old read last exit : State) (done : Bool)
    (fills : Moves format (Fills format) old read (state g (record h { in_transaction = true })) last done)
    (whole : IsTrue done → Survives last exit (λ db. db ≡ last.now.trees))
    (lost : done ≡ false → Survives last exit (λ _. ⊥)) where
  -- the call migrates, whichever way its transaction ended
  pub migrates : (end : Bool) → (IsTrue end → IsTrue done) → (IsReadBy old read done → IsReadBy old read end)
      → ((next : World) → (HasCleanDisk (state g h) → IsTrue (state g h).is_open)
      → (HasCleanDisk last → Stands (state g h) only_common → IsTrue done → Writing last next)
      → ChangesAt (state g h) exit end only_common next)
      → Migrates format old read (state g h) exit end
  migrates end less reads changes =
      let start = state g (record h { in_transaction = true }) in
      let up = ended_clean _ last exit done whole lost in
      let quiet = fills.goes_on.survives.clean in
      record {
        clean = fills.clean;
        reads = λ ready. reads (fills.reads ready);
        clean_too = omega (arith, quiet, up);
        at = λ clean good ready opened stands.
            let late = was_clean last exit up good in
            let begun = begins_writing g h last exit only_common only_common opened (was_clean start last quiet late)
            stands in
            let has = written format old read start last done fills clean late ready begun in (
              has.world,
              of_fewer format old.now has.world done end less has.was,
              changes has.world opened (λ _ _ all. has.writing all),
            );
      }
