-- What a statement that writes nothing leaves of the store.
use Rattle.std.proofs.Common.{◌≡◌, ◌≤◌, ℕ, IfOk, IfErr, false, List, [], Option, Some, None, Ok, Err, Result, inl, inr}
use Rattle.std.proofs.Common.{refl, sym, ap, subst, ◌∙◌, arith, IsTrue}
use Rattle.sqlite_trees.specs.View.{doubt}
use Rattle.sqlite.specs.Order.{Row}
use Rattle.sqlite.specs.Effect.{Database, Reads, RefusesToRead}
use Rattle.sqlite.specs.Command.{Command}
use Rattle.sqlite.specs.Command.TheVariants.{Select, Rows}
use Rattle.sqlite_trees.specs.declared.error.StoreError.{StoreError}
use Rattle.sqlite_trees.specs.declared.error.StoreError.TheVariants.{OutOfMemory, Io, Corrupt, Full, Broken, Unstorable}
use Rattle.sqlite.specs.declared.error.Error.TheVariants.{QueryReturnedNoRows}
use Rattle.sqlite.specs.declared.error.Error.{Error}
use Rattle.sqlite.specs.Clock.{timed}
use Rattle.sqlite.specs.Listing.{understood, reads_listing}
use Rattle.sqlite.specs.State.{State, HasCleanDisk, IsUnchanged, IsNotRun, FailsToQuery, FailsToShow, store_error}
use Rattle.sqlite.specs.State.{QueriesRow, Shown, Survives, CommitsShowing, ShowsRows}
use Rattle.sqlite.proofs.Callers.{IsPlain, command_of, never_commits, first_as, reads_as}
use Rattle.world.specs.World.{World}
use Rattle.tables.specs.Schema.{store_schema}
use Rattle.tables.specs.Means.{Holds, Stands, StandFor}
use Rattle.tables.proofs.FailureLemmas.{IsUnchangedOrUndone, was_clean, failed_query}
use Rattle.statements.specs.Calls.{Spares, Selects}

open_before : (old new : State) → IsUnchangedOrUndone old new → IsTrue new.is_open → IsTrue old.is_open
open_before old new (inl same) shown = same.0.was_open
open_before old new (inr back) shown = back.was_open shown

-- an open connection that is unchanged or rolled back holds the world that it held
holds_still : (old new : State) (w : World) → IsUnchangedOrUndone old new → IsTrue new.is_open → Holds old w
    → Holds new w
holds_still old new w (inl same) shown h = record {
  schema = ap (λ (d : Database). d.schema) same.0.now_is ∙ h.schema;
  settled = same.0.now_is ∙ (h.settled ∙ sym same.0.committed_is);
  autocommit = same.0.mode ∙ h.autocommit;
  trees = subst (λ (d : Database). StandFor d.trees w) (sym same.0.now_is) h.trees;
}
holds_still old new w (inr back) shown h =
    let now : new.now ≡ old.now = (back.undone shown).0 ∙ sym h.settled in
    record {
      schema = ap (λ (d : Database). d.schema) now ∙ h.schema;
      settled = (back.undone shown).0 ∙ sym (back.undone shown).1;
      autocommit = back.autocommit;
      trees = subst (λ (d : Database). StandFor d.trees w) (sym now) h.trees;
    }

pub stands_still : (old new : State) (w : World) → doubt old.is_clean ≤ doubt new.is_clean
    → (HasCleanDisk new → IsUnchangedOrUndone old new) → Stands old w → Stands new w
stands_still old new w up outcome h clean shown =
    let k = outcome clean in
    holds_still old new w k shown (h (was_clean old new up clean) (open_before old new k shown))

-- ---- a query that has no RETURNING

module _ (sql : List ℕ) (params : Row) (old new : State) (plain : IsPlain (understood old.now.schema sql)) where
  pub shown_unchanged : (rows : List Row) → Shown sql params old new rows → IsUnchanged old new
  unfolding Shown
  shown_unchanged rows h =
      let none = (subst IsPlain h.1.is plain).0 in
      (subst (ShowsRows old new sql h.0 (timed params h.0.formats h.1.now) rows) none h.2).3

  pub row_unchanged : (row : Row) → QueriesRow sql params old new (Ok row) → IsUnchanged old new
  unfolding QueriesRow
  row_unchanged row (inl h) = h.1
  row_unchanged row (inr h) = shown_unchanged h.0 h.1

  pub row_outcome : (r : Result Row Error) → QueriesRow sql params old new r → IsUnchangedOrUndone old new
  unfolding QueriesRow
  row_outcome (Ok row) (inl h) = inl h.1
  row_outcome (Ok row) (inr h) = inl (shown_unchanged h.0 h.1)
  row_outcome (Err e) (inl h) = failed_query sql params old new e h
  row_outcome (Err e) (inr h) = inl (shown_unchanged [] h.1)

  no_rows_read : (limit : Option ℕ) (command : Command) (db : Database) (values : Row)
      → RefusesToRead limit command db values QueryReturnedNoRows → ⊥
  no_rows_read limit (Select q names) db values (inl h) = let e = h.0 in cc
  no_rows_read limit (Select q names) db values (inr (inl h)) = let e = h.0 in cc
  no_rows_read limit (Select q names) db values (inr (inr h)) = let e = h.0 in cc
  no_rows_read limit (Rows values width names) db given h = let e = h.0 in cc
  no_rows_read limit _ db values h = let e = h in cc

  -- a statement that is not run does not fail with `QueryReturnedNoRows`
  no_rows_run : IsNotRun old new sql params QueryReturnedNoRows → ⊥
  unfolding IsNotRun
  no_rows_run (inl (inl h, same)) = let e = h.2 in cc
  no_rows_run (inl (inr (c, is, inl h), same)) = let e = h.1 in cc
  no_rows_run (inl (inr (c, is, inr (inl h)), same)) = let e = h.1 in cc
  no_rows_run (inl (inr (c, is, inr (inr h)), same)) = let e = h.1 in cc
  no_rows_run (inr h) = store_failed h.0 h.1
    where
      store_failed : (cause : StoreError) → QueryReturnedNoRows ≡ store_error cause → ⊥
      store_failed OutOfMemory e = cc
      store_failed Io e = cc
      store_failed Corrupt e = cc
      store_failed Full e = cc
      store_failed Broken e = cc
      store_failed Unstorable e = cc

  no_rows_failed : FailsToQuery sql params old new QueryReturnedNoRows → ⊥
  unfolding FailsToQuery
  no_rows_failed (inl h) = no_rows_run h
  no_rows_failed (inr h) =
      let none = (subst IsPlain h.1.is plain).0 in
      let it = subst (FailsToShow old new sql h.0 (timed params h.0.formats h.1.now) QueryReturnedNoRows) none h.2 in
      no_rows_read old.step_limit h.0.command it.0 (timed params h.0.formats h.1.now) it.2

  pub no_rows_shown : QueriesRow sql params old new (Err QueryReturnedNoRows) → Shown sql params old new []
  unfolding QueriesRow
  no_rows_shown (inl h) = absurd (no_rows_failed h)
  no_rows_shown (inr h) = h.1

pub spares_then : (a b c : State) → Spares a b → Spares b c → Spares a c
spares_then a b c p q = record {
  clean = omega (arith, p.clean, q.clean);
  stays = λ w h. q.stays w (p.stays w h);
  left = λ clean w h db may. p.left (was_clean b c q.clean clean) w h db (q.left clean w (p.stays w h) db may);
}

-- a call that only prepares, or fails
pub quiet_spares : (old new : State) → Survives old new (λ _. ⊥) → (HasCleanDisk new → IsUnchangedOrUndone old new)
    → Spares old new
quiet_spares old new survives outcome = record {
  clean = survives.clean;
  stays = λ w h. stands_still old new w survives.clean outcome h;
  left = λ clean w h db may. elim (survives.crash clean db may) [ inl was ↦ was | inr none ↦ absurd none ];
}

-- ---- a query that is prepared and then asked for its first row

module _ (sql : List ℕ) (params : Row) (plain : IsPlain (understood store_schema sql)) (old mid new : State)
    (prepared : HasCleanDisk mid → IsUnchanged old mid) (quiet : Survives old mid (λ _. ⊥))
    (survives : Survives mid new (CommitsShowing sql params mid)) where
  mid_holds : (w : World) → Stands mid w → HasCleanDisk new → Holds mid w
  mid_holds w h clean = let was = was_clean mid new survives.clean clean in h was (prepared was).0.is_open

  mid_plain : (w : World) → Holds mid w → IsPlain (understood mid.now.schema sql)
  mid_plain w h = subst (λ s. IsPlain (understood s sql)) (sym h.schema) plain

  mid_spares : Spares old mid
  mid_spares = quiet_spares old mid quiet (λ clean. inl (prepared clean))

  last_spares : (HasCleanDisk new → IsPlain (understood mid.now.schema sql) → IsUnchangedOrUndone mid new)
      → Spares mid new
  last_spares outcome = record {
    clean = survives.clean;
    stays = λ w h clean shown. let was = mid_holds w h clean in
        holds_still mid new w (outcome clean (mid_plain w was)) shown was;
    left = λ clean w h db may.
        elim (survives.crash clean db may) [
          | inl was ↦ was
          | inr commits ↦ absurd (never_commits sql params mid db (mid_plain w (mid_holds w h clean)) commits)
        ];
  }

  pub row_spares : (r : Result Row Error) → (HasCleanDisk new → QueriesRow sql params mid new r) → Spares old new
  row_spares r ran = spares_then old mid new mid_spares
      (last_spares (λ clean plain. row_outcome sql params mid new plain r (ran clean)))

  -- a query that is prepared and then asked for all its rows spares the store
  pub rows_spares : {X : Type 0} (r : Result X Error) (items : X → List Row)
      → (HasCleanDisk new → IfOk r (λ rows. Shown sql params mid new (items rows)))
      → (HasCleanDisk new → IfErr r (FailsToQuery sql params mid new)) → Spares old new
  rows_spares (Ok rows) items shown failed =
      spares_then old mid new mid_spares
      (last_spares (λ clean plain. inl (shown_unchanged sql params mid new plain (items rows) (shown clean))))
  rows_spares (Err e) items shown failed =
      spares_then old mid new mid_spares (last_spares (λ clean plain. failed_query sql params mid new e (failed clean)))

  module _ (unlisted : reads_listing store_schema sql ≡ false) (clean : HasCleanDisk new) (w : World)
      (stands : Stands old w) where
    pub was_open : IsTrue old.is_open
    was_open = (prepared (was_clean mid new survives.clean clean)).0.was_open

    same_now : mid.now ≡ old.now
    same_now = (prepared (was_clean mid new survives.clean clean)).0.now_is

    held : Holds mid w
    held = mid_holds w (mid_spares.stays w stands) clean

    pub first_open : (row : Row) → QueriesRow sql params mid new (Ok row) → IsTrue new.is_open
    first_open row ran = (row_unchanged sql params mid new (mid_plain w held) row ran).0.is_open

    pub first_same : (row : Row) → QueriesRow sql params mid new (Ok row) → new.now ≡ old.now
    first_same row ran = (row_unchanged sql params mid new (mid_plain w held) row ran).0.now_is ∙ same_now

    pub none_same : QueriesRow sql params mid new (Err QueryReturnedNoRows) → new.now ≡ old.now
    none_same ran = (shown_unchanged sql params mid new (mid_plain w held) []
        (no_rows_shown sql params mid new (mid_plain w held) ran)).0.now_is ∙ same_now

    pub rows_open : (rows : List Row) → Shown sql params mid new rows → IsTrue new.is_open
    rows_open rows shown = (shown_unchanged sql params mid new (mid_plain w held) rows shown).0.is_open

    pub none_open : QueriesRow sql params mid new (Err QueryReturnedNoRows) → IsTrue new.is_open
    none_open ran = (shown_unchanged sql params mid new (mid_plain w held) []
        (no_rows_shown sql params mid new (mid_plain w held) ran)).0.is_open

    pub first_selected : (row : Row) → QueriesRow sql params mid new (Ok row) → Selects sql params old.now (Some row)
    first_selected row ran =
        subst (λ db. Selects sql params db (Some row)) same_now
        (first_as sql params mid new store_schema held.schema _ refl plain unlisted row ran)

    pub all_selected : (rows : List Row) → Shown sql params mid new rows
        → Reads (command_of (understood store_schema sql)) old.now params rows
    all_selected rows shown =
        subst (λ db. Reads (command_of (understood store_schema sql)) db params rows) same_now
        (reads_as sql params mid new store_schema held.schema _ refl plain unlisted rows shown)

    pub none_selected : QueriesRow sql params mid new (Err QueryReturnedNoRows) → Selects sql params old.now None
    none_selected ran =
        subst (λ db. Selects sql params db None) same_now
        (reads_as sql params mid new store_schema held.schema _ refl plain unlisted []
        (no_rows_shown sql params mid new (mid_plain w held) ran))
