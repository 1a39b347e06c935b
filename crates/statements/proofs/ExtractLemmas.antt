-- Rows that are copied from one store to another.
use Rattle.std.proofs.Common.{◌≡◌, ◌≤◌, Bool, true, false, ℕ, List, [], ◌∷◌, ◌++◌, Result, Ok, Err, IsErr, inl, refl}
use Rattle.std.proofs.Common.{sym, subst, arith, IsTrue, is_ok, OnOk, true≢false}
use Rattle.sqlite_trees.specs.View.{doubt}
use Rattle.sqlite.specs.Order.{Row}
use Rattle.sqlite.specs.Tree.{Trees}
use Rattle.sqlite.specs.Effect.{Database, Reads, ReadsFirst}
use Rattle.sqlite.specs.Listing.{understood, reads_listing}
use Rattle.sqlite.specs.State.{State, HasCleanDisk, IsUnchanged, Survives, CommitsShowing, Shown, Begins}
use Rattle.sqlite.proofs.Callers.{IsPlain, never_commits, command_of, reads_as, begins_as, unchanged_then}
use Rattle.sqlite.proofs.StateLemmas.{survives_weaker}
use Rattle.world.specs.World.{World}
use Rattle.tables.specs.Means.{Means, Stands}
use Rattle.tables.specs.Schema.{store_schema}
use Rattle.tables.specs.Walks.{Looks}
use Rattle.tables.proofs.FailureLemmas.{was_clean}
use Rattle.tables.proofs.WalkLemmas.{unchanged_schema, outcome_then}
use Rattle.statements.specs.Calls.{Spares}
use Rattle.statements.specs.Rows.{Filling, GoesOn}
use Rattle.statements.specs.Extract.{IsReady, IsReadBy, Copies, Then, Along}
use Rattle.statements.proofs.CallLemmas.{stands_still}
use Rattle.statements.proofs.ChangeLemmas.{when_ok}
use Rattle.statements.proofs.GoingLemmas.{goes_on_itself, goes_on_then}

-- ---- a query with parameters, one row at a time

pub commits_nothing : (sql : List ℕ) (params : Row) (old new : State) → IsPlain (understood store_schema sql)
    → Survives old new (CommitsShowing sql params old) → old.now.schema ≡ store_schema → Survives old new (λ _. ⊥)
commits_nothing sql params old new plain survives has =
    survives_weaker old new _ _
    (λ _ db. never_commits sql params old db (subst (λ s. IsPlain (understood s sql)) (sym has) plain)) survives

module _ (sql : List ℕ) (params : Row) (plain : IsPlain (understood store_schema sql))
    (unlisted : reads_listing store_schema sql ≡ false)
    (old mid new : State) (has : old.now.schema ≡ store_schema) (same : IsUnchanged old mid) where
  pub all_shown : (rows : List Row) → Shown sql params mid new rows
      → Reads (command_of (understood store_schema sql)) old.now params rows
  all_shown rows shown = subst (λ db. Reads (command_of (understood store_schema sql)) db params rows) same.0.now_is
      (reads_as sql params mid new store_schema (unchanged_schema old mid same has) _ refl plain unlisted rows shown)

  pub some_shown : (rows : List Row) → Begins sql params mid rows
      → ReadsFirst (command_of (understood store_schema sql)) old.now params rows
  some_shown rows begins =
      subst (λ db. ReadsFirst (command_of (understood store_schema sql)) db params rows) same.0.now_is
      (begins_as sql params mid mid store_schema (unchanged_schema old mid same has) _ refl plain unlisted rows begins)

-- ---- copies

-- `GoesOn` holds of a call, done if it returns Ok, that commits nothing and leaves the transaction open when it
-- returns Ok
-- a call copies what it makes if it only looks at the source, leaves it unchanged when it returns Ok, and goes on
-- inside the transaction
pub copied : {A E : Type 0} (r : Result A E) (Makes : Trees → Trees → Trees → Type 0) (s t a b : State)
    → Looks s t → (HasCleanDisk t → s.now.schema ≡ store_schema → OnOk r (IsUnchanged s t)) → GoesOn a b (is_ok r)
    → (HasCleanDisk t → HasCleanDisk b → s.now.schema ≡ store_schema → (w : World) → Means s.now.trees w → Filling a
    → OnOk r (Makes s.now.trees a.now.trees b.now.trees × Filling b))
    → Copies Makes s t a b (is_ok r)
copied r Makes s t a b looks same goes_on makes =
    let has = λ (ready : IsReady s) (clean : HasCleanDisk t). (ready (was_clean s t looks.clean clean)).1 in
    record {
      clean = looks.clean;
      reads = λ ready. record {
        left = λ clean. looks.left clean (has ready clean);
        outcome = λ clean. looks.outcome clean (has ready clean);
        same = λ clean done. when_ok r done (same clean (has ready clean));
      };
      goes_on = goes_on;
      makes = λ clean good ready w means filling done.
          when_ok r done (makes clean good (has ready clean) w means filling);
    }

pub unchanged_itself : (s : State) → IsTrue s.is_open → IsUnchanged s s
unchanged_itself s is = (
  record { was_open = is; is_open = is; now_is = refl; committed_is = refl; mode = refl },
  record { changes = refl; last_rowid = refl },
  refl,
)

untouched : (s : State) (done : Bool) → IsReady s → IsReadBy s s done
untouched s done ready = record {
  left = λ _ db may. may;
  outcome = λ clean. inl (unchanged_itself s (ready clean).0);
  same = λ clean _. unchanged_itself s (ready clean).0;
}

-- nothing is copied
pub copies_none : (s a : State) → Copies (λ _ db after. db ≡ after) s s a a true
copies_none s a = record {
  clean = omega arith;
  reads = untouched s true;
  goes_on = goes_on_itself a;
  makes = λ _ _ _ _ _ filling _. (refl, filling);
}

module _ (P Q : Trees → Trees → Trees → Type 0) (s t u a b c : State) (done : Bool) (p : Copies P s t a b true)
    (q : Copies Q t u b c done) where
  still_ready : IsReady s → IsReady t
  still_ready ready clean = let same = (p.reads ready).same clean refl in
      (same.0.is_open, unchanged_schema s t same (ready (was_clean s t p.clean clean)).1)

  -- a copy that was done, and then another from the same source, are one copy
  pub copies_then : Copies (Then P Q) s u a c done
  copies_then = record {
    clean = let one = p.clean in let two = q.clean in omega (arith, one, two);
    reads = λ ready.
        let first = p.reads ready in
        let next = q.reads (still_ready ready) in
        let late = λ (clean : HasCleanDisk u). was_clean t u q.clean clean in
        record {
          left = λ clean db may. first.left (late clean) db (next.left clean db may);
          outcome = λ clean. outcome_then s t u (first.same (late clean) refl) (next.outcome clean);
          same = λ clean all. unchanged_then s t u (first.same (late clean) refl) (next.same clean all);
        };
    goes_on = goes_on_then a b c done p.goes_on q.goes_on;
    makes = λ clean good ready w means filling all.
        let late = was_clean t u q.clean clean in
        let one = p.makes late (was_clean b c q.goes_on.survives.clean good) ready w means filling refl in
        let now = ((p.reads ready).same late refl).0.now_is in
        let two = q.makes clean good (still_ready ready) w (subst (λ (d : Database). Means d.trees w) (sym now) means)
        one.1 all in
        ((b.now.trees, one.0, subst (λ (d : Database). Q d.trees b.now.trees c.now.trees) now two.0), two.1);
  }

-- a copy that makes P makes each Q that P implies
pub copies_weaker : (P Q : Trees → Trees → Trees → Type 0) (s t a b : State) (done : Bool)
    → ((source db after : Trees) → P source db after → Q source db after) → Copies P s t a b done
    → Copies Q s t a b done
copies_weaker P Q s t a b done less p = record {
  clean = p.clean;
  reads = p.reads;
  goes_on = p.goes_on;
  makes = λ clean good ready w means filling all. let it = p.makes clean good ready w means filling all in
      (less s.now.trees a.now.trees b.now.trees it.0, it.1);
}

-- P along a list, and then for one more, is P along the longer list
pub along_more : {E X : Type 0} (P : E → X → X → X → Type 0) (es : List E) (e : E) (w x z : X)
    → Then (Along P es) (P e) w x z → Along P (es ++ e ∷ []) w x z
along_more P [] e w x z it = (z, subst (λ u. P e w u z) (sym it.1) it.2, refl)
along_more P (d ∷ es) e w x z it = (it.1.0, it.1.1, along_more P es e w it.1.0 z (it.0, it.1.2, it.2))

-- a copy that failed is a copy that makes anything, because `makes` speaks only of copies that were done
pub failed_copies : {A E : Type 0} (r : Result A E) (P Q : Trees → Trees → Trees → Type 0) (s t a b : State) → IsErr r
    → Copies P s t a b false → Copies Q s t a b (is_ok r)
failed_copies (Ok x) P Q s t a b failed p = absurd (true≢false (sym failed))
failed_copies (Err e) P Q s t a b failed p = record {
  clean = p.clean;
  reads = p.reads;
  goes_on = p.goes_on;
  makes = λ clean good ready w means filling all. absurd (true≢false (sym all));
}

-- a store that is only read is spared
pub read_spares : (s t : State) (done : Bool) → doubt s.is_clean ≤ doubt t.is_clean → IsReadBy s t done → Spares s t
read_spares s t done up read = record {
  clean = up;
  stays = λ w stands. stands_still s t w up read.outcome stands;
  left = λ clean w stands. read.left clean;
}

pub spares_itself : (s : State) → Spares s s
spares_itself s = record { clean = omega arith; stays = λ w stands. stands; left = λ clean w stands db may. may }

-- a connection that is open, and whose tables stood for a world, is ready
pub stands_ready : (s : State) (w : World) → (HasCleanDisk s → IsTrue s.is_open) → Stands s w → IsReady s
stands_ready s w opened stands clean = (opened clean, (stands clean (opened clean)).schema)
