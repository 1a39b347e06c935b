-- Rows of an older store that are read one at a time, and one walk after another.
use Rattle.std.proofs.Common.{◌≡◌, ◌≤◌, ◌⊎◌, Bool, true, false, List, [], ◌∷◌, ◌++◌, Ok, Err, Result, inl, inr, refl}
use Rattle.std.proofs.Common.{sym, ap, subst, ◌∙◌, arith, IsTrue, IsErr, is_ok, IfOk, true≢false}
use Rattle.sqlite_trees.specs.View.{doubt}
use Rattle.sqlite.specs.Tree.{Trees}
use Rattle.sqlite.specs.Order.{Row}
use Rattle.sqlite.specs.Effect.{Database}
use Rattle.sqlite.specs.State.{State, HasCleanDisk, IsUnchanged, IsRolledBack, Survives}
use Rattle.sqlite.proofs.Callers.{unchanged_then}
use Rattle.sqlite.proofs.StateLemmas.{survives_then}
use Rattle.tables.proofs.FailureLemmas.{was_clean}
use Rattle.tables.proofs.WalkLemmas.{outcome_then}
use Rattle.statements.specs.Extract.{IsReadBy, Then}
use Rattle.statements.specs.Rows.{Filling, GoesOn}
use Rattle.statements.proofs.ExtractLemmas.{unchanged_itself}
use Rattle.statements.proofs.GoingLemmas.{goes_on_itself, goes_on_then, stays_quiet}
use Rattle.older.specs.declared.schema.Format.{Format}
use Rattle.older.specs.Schemas.{schema_of}
use Rattle.older_rows.specs.Visits.{Visits, IsReadyAs, Moves, is_done}

-- a store is only read if nothing is committed and it is unchanged, or rolled back by a call that is not done
pub quiet_read : (old new : State) (done : Bool) → Survives old new (λ _. ⊥)
    → (HasCleanDisk new → IsUnchanged old new ⊎ IsRolledBack old new)
    → (HasCleanDisk new → IsTrue done → IsUnchanged old new) → IsReadBy old new done
quiet_read old new done survives outcome same = record {
  left = λ clean db may. elim (survives.crash clean db may) [ inl was ↦ was | inr none ↦ absurd none ];
  outcome = outcome;
  same = same;
}

-- what is read by a call of either outcome is read by a call that is not done
pub read_not_done : (old new : State) (done : Bool) → IsReadBy old new done → IsReadBy old new false
read_not_done old new done read =
    record { left = read.left; outcome = read.outcome; same = λ _ all. absurd (true≢false (sym all)) }

-- the rows so far, and one step more
module _ (old mid new : State) (first : Survives old mid (λ _. ⊥)) (same : HasCleanDisk mid → IsUnchanged old mid)
    (next : Survives mid new (λ _. ⊥)) where
  pub then_survives : Survives old new (λ _. ⊥)
  then_survives = survives_then old mid new _ _ (λ _. ⊥) (λ _ db none. none) (λ _ db none. none) first next

  -- a step that changed nothing
  pub moved_read : (HasCleanDisk new → IsUnchanged mid new) → IsReadBy old new true
  moved_read step =
      let now = λ (clean : HasCleanDisk new).
      unchanged_then old mid new (same (was_clean mid new next.clean clean)) (step clean) in
      quiet_read old new true then_survives (λ clean. inl (now clean)) (λ clean _. now clean)

  -- a step that failed
  pub failed_read : (HasCleanDisk new → IsUnchanged mid new ⊎ IsRolledBack mid new) → IsReadBy old new false
  failed_read step =
      quiet_read old new false then_survives
      (λ clean. outcome_then old mid new (same (was_clean mid new next.clean clean)) (step clean))
      (λ _ done. absurd (true≢false (sym done)))

module _ {X : Type 0} (Puts : X → Row → Trees → X → Trees → Type 0) where
  pub one_more : (start : X) (db : Trees) (rows : List Row) (so_far : X) (mid : Trees) (row : Row) (next : X)
      (after : Trees)
      → Visits Puts start db rows so_far mid → Puts so_far row mid next after
      → Visits Puts start db (rows ++ row ∷ []) next after
  one_more start db [] so_far mid row next after same puts = (
    next,
    after,
    subst (λ x. Puts x row db next after) same.0
        (subst (λ t. Puts so_far row t next after) same.1 puts),
    (refl, refl),
  )
  one_more start db (r ∷ rows) so_far mid row next after visited puts =
      (visited.0, visited.1, visited.2, one_more visited.0 visited.1 rows so_far mid row next after visited.3 puts)

-- ---- one walk after another

module _ (format : Format) (P Q : Trees → Trees → Trees → Type 0) (s t u a b c : State) (done : Bool)
    (p : Moves format P s t a b true) (q : Moves format Q t u b c done) where
  still_ready : IsReadyAs format s → IsReadyAs format t
  still_ready ready clean =
      let same = (p.reads ready).same clean refl in
      (same.0.is_open, ap (λ (d : Database). d.schema) same.0.now_is ∙ (ready (was_clean s t p.clean clean)).1)

  -- a walk that is done, and then another over the same stores, are one walk
  pub moves_then : Moves format (Then P Q) s u a c done
  moves_then = record {
    clean = let one = p.clean in let two = q.clean in omega (arith, one, two);
    reads = λ ready.
        let first = p.reads ready in
        let next = q.reads (still_ready ready) in
        let late = λ (clean : HasCleanDisk u). was_clean t u q.clean clean in
        record {
          left = λ clean db may. first.left (late clean) db (next.left clean db may);
          outcome = λ clean. outcome_then s t u (first.same (late clean) refl) (next.outcome clean);
          same = λ clean all. unchanged_then s t u (first.same (late clean) refl) (next.same clean all);
        };
    survives = λ clean ready.
        stays_quiet s t u (p.survives (was_clean t u q.clean clean) ready) (q.survives clean (still_ready ready));
    goes_on = goes_on_then a b c done p.goes_on q.goes_on;
    makes = λ clean good ready filling all.
        let late = was_clean t u q.clean clean in
        let one = p.makes late (was_clean b c q.goes_on.survives.clean good) ready filling refl in
        let now = ((p.reads ready).same late refl).0.now_is in
        let two = q.makes clean good (still_ready ready) one.1 all in
        ((b.now.trees, one.0, subst (λ (d : Database). Q d.trees b.now.trees c.now.trees) now two.0), two.1);
  }

-- ---- clauses by the result of a call

pub done_ok : {E : Type 0} (r : Result Bool E) → IsTrue (is_done r) → IsTrue (is_ok r)
done_ok (Ok all) done = refl
done_ok (Err e) done = absurd (true≢false (sym done))

pub not_done : {E : Type 0} (r : Result Bool E) → IsErr r → is_done r ≡ false
not_done (Ok all) h = absurd (true≢false (sym h))
not_done (Err e) h = refl

pub when_done : {E : Type 0} {A : Type 0} (r : Result Bool E) → IsTrue (is_done r) → IfOk r (λ all. IsTrue all → A) → A
when_done (Ok all) done it = it done
when_done (Err e) done it = absurd (true≢false (sym done))

pub if_done : {E : Type 0} {A B : Type 0} (r : Result Bool E) → (A → B) → IfOk r (λ all. IsTrue all → A)
    → IfOk r (λ all. IsTrue all → B)
if_done (Ok all) f it = λ done. f (it done)
if_done (Err e) f it = tt

module _ (format : Format) (Makes : Trees → Trees → Trees → Type 0) (s t a b : State)
    (up : doubt s.is_clean ≤ doubt t.is_clean) where
  -- a walk moves what it makes if it reads the old store, goes on in the fresh one, and is done only if each row was
  -- visited
  pub moves_less : (whole done : Bool) → (IsTrue done → IsTrue whole)
      → (s.now.schema ≡ schema_of format → IsReadBy s t whole)
      → (s.now.schema ≡ schema_of format → Survives s t (λ _. ⊥)) → GoesOn a b whole
      → (HasCleanDisk t → HasCleanDisk b → s.now.schema ≡ schema_of format → Filling a → IsTrue done
      → Makes s.now.trees a.now.trees b.now.trees × Filling b) → Moves format Makes s t a b done
  moves_less whole done less read survives goes makes =
      let has = λ (ready : IsReadyAs format s) (clean : HasCleanDisk t). (ready (was_clean s t up clean)).1 in
      record {
        clean = up;
        reads = λ ready. record {
          left = λ clean. (read (has ready clean)).left clean;
          outcome = λ clean. (read (has ready clean)).outcome clean;
          same = λ clean all. (read (has ready clean)).same clean (less all);
        };
        survives = λ clean ready. survives (has ready clean);
        goes_on = record {
          survives = goes.survives;
          commit = goes.commit;
          inside = λ clean is all.
              goes.inside clean is (less all);
        };
        makes = λ clean good ready filling all. makes clean good (has ready clean) filling all;
      }

  pub moves_of : {E : Type 0} (r : Result Bool E) → (s.now.schema ≡ schema_of format → IsReadBy s t (is_ok r))
      → (s.now.schema ≡ schema_of format → Survives s t (λ _. ⊥)) → GoesOn a b (is_ok r)
      → (HasCleanDisk t → HasCleanDisk b → s.now.schema ≡ schema_of format → Filling a
      → IfOk r (λ all. IsTrue all → Makes s.now.trees a.now.trees b.now.trees × Filling b))
      → Moves format Makes s t a b (is_done r)
  moves_of r read survives goes makes =
      moves_less (is_ok r) (is_done r) (done_ok r) read survives goes
      (λ clean good has filling all. when_done r all (makes clean good has filling))

-- a walk that makes P makes each Q that P implies
pub moves_weaker : (format : Format) (P Q : Trees → Trees → Trees → Type 0) (s t a b : State) (done : Bool)
    → ((old db after : Trees) → P old db after → Q old db after) → Moves format P s t a b done
    → Moves format Q s t a b done
moves_weaker format P Q s t a b done less p = record {
  clean = p.clean;
  reads = p.reads;
  survives = p.survives;
  goes_on = p.goes_on;
  makes = λ clean good ready filling all. let it = p.makes clean good ready filling all in
      (less s.now.trees a.now.trees b.now.trees it.0, it.1);
}

-- a walk that is not done is a walk that makes anything, because `makes` speaks only of walks that are done
pub moves_none : (format : Format) (P Q : Trees → Trees → Trees → Type 0) (s t a b : State)
    → Moves format P s t a b false → Moves format Q s t a b false
moves_none format P Q s t a b p = record {
  clean = p.clean;
  reads = p.reads;
  survives = p.survives;
  goes_on = p.goes_on;
  makes = λ clean good ready filling all. absurd (true≢false (sym all));
}

-- nothing is moved
pub moves_nothing : (format : Format) (Makes : Trees → Trees → Trees → Type 0) (s a : State)
    → ((old db : Trees) → Makes old db db) → Moves format Makes s s a a true
moves_nothing format Makes s a makes = record {
  clean = omega arith;
  reads = λ ready. record {
    left = λ _ db may. may;
    outcome = λ clean. inl (unchanged_itself s (ready clean).0);
    same =
        λ clean _. unchanged_itself s (ready clean).0;
  };
  survives = λ _ _. (goes_on_itself s).survives;
  goes_on = goes_on_itself a;
  makes = λ _ _ _ filling _. (makes s.now.trees a.now.trees, filling);
}
