-- Rows that are read one at a time, and one test of the tables after another.
use Rattle.std.proofs.Common.{◌≡◌, ◌≤◌, ◌⊎◌, Bool, true, false, List, [], ◌∷◌, ◌++◌, Ok, Err, Result, inl, inr, refl}
use Rattle.std.proofs.Common.{sym, ap, subst, ◌∙◌, arith, Decides, OnOk, IfOk}
use Rattle.sqlite_trees.specs.View.{doubt}
use Rattle.sqlite.specs.Tree.{Trees}
use Rattle.sqlite.specs.Order.{Row}
use Rattle.sqlite.specs.Schema.{Schema}
use Rattle.sqlite.specs.Effect.{Database, Reads, ReadsFirst}
use Rattle.sqlite.specs.declared.error.Error.{Error}
use Rattle.sqlite.specs.Listing.{understood, reads_listing}
use Rattle.sqlite.specs.State.{State, HasCleanDisk, IsUnchanged, IsRolledBack, Survives, CommitsShowing, Shown, Begins}
use Rattle.sqlite.specs.State.{Fails}
use Rattle.sqlite.proofs.Callers.{IsPlain, never_commits, command_of, reads_as, begins_as, unchanged_then}
use Rattle.sqlite.proofs.StateLemmas.{survives_then, survives_weaker}
use Rattle.tables.specs.Schema.{store_schema}
use Rattle.tables.specs.Walks.{Looks, Tests, Pass}
use Rattle.tables.proofs.FailureLemmas.{was_clean}

pub unchanged_schema : {schema : Schema} (a b : State) → IsUnchanged a b → a.now.schema ≡ schema → b.now.schema ≡ schema
unchanged_schema a b same has = ap (λ (d : Database). d.schema) same.0.now_is ∙ has

pub outcome_then : (a b c : State) → IsUnchanged a b → IsUnchanged b c ⊎ IsRolledBack b c
    → IsUnchanged a c ⊎ IsRolledBack a c
outcome_then a b c p (inl q) = inl (unchanged_then a b c p q)
outcome_then a b c p (inr q) = inr (record {
  was_open = λ shown. p.0.was_open;
  undone = λ shown. ((q.undone shown).0 ∙ p.0.committed_is, (q.undone shown).1 ∙ p.0.committed_is);
  autocommit = q.autocommit;
  unmarked = q.unmarked;
  counts = record { changes = q.counts.changes ∙ p.1.changes; last_rowid = q.counts.last_rowid ∙ p.1.last_rowid };
})

-- ---- rows one at a time

pub quiet_looks : (old new : State) → doubt old.is_clean ≤ doubt new.is_clean
    → (old.now.schema ≡ store_schema → Survives old new (λ _. ⊥))
    → (HasCleanDisk new → old.now.schema ≡ store_schema → IsUnchanged old new ⊎ IsRolledBack old new) → Looks old new
quiet_looks old new up survives outcome = record {
  clean = up;
  left = λ clean has db may. elim ((survives has).crash clean db may) [ inl was ↦ was | inr none ↦ absurd none ];
  outcome = outcome;
  limit = λ clean has. (survives has).limit;
  counts = λ clean has. (survives has).counts;
}

pub then_survives : (old mid new : State) → (old.now.schema ≡ store_schema → Survives old mid (λ _. ⊥))
    → Survives mid new (λ _. ⊥) → old.now.schema ≡ store_schema → Survives old new (λ _. ⊥)
then_survives old mid new first next has =
    survives_then old mid new _ _ (λ _. ⊥) (λ _ db none. none) (λ _ db none. none) (first has) next

-- the rows so far, and one more step
pub moved_looks : (old mid new : State) → doubt old.is_clean ≤ doubt mid.is_clean
    → (old.now.schema ≡ store_schema → Survives old mid (λ _. ⊥))
    → (HasCleanDisk mid → old.now.schema ≡ store_schema → IsUnchanged old mid)
    → Survives mid new (λ _. ⊥) → (HasCleanDisk new → IsUnchanged mid new ⊎ IsRolledBack mid new) → Looks old new
moved_looks old mid new up first same next outcome =
    quiet_looks old new (let e = next.clean in omega (arith, up, e)) (then_survives old mid new first next)
    (λ clean has. outcome_then old mid new (same (was_clean mid new next.clean clean) has) (outcome clean))

pub failed_or_same : (mid new : State) (e : Error) → Fails mid new ⊥ e ⊎ IsUnchanged mid new
    → IsUnchanged mid new ⊎ IsRolledBack mid new
failed_or_same mid new e (inl fails) = inr fails.3
failed_or_same mid new e (inr same) = inl same

-- a query over the tables of a schema
module _ (schema : Schema) (sql : List _) (plain : IsPlain (understood schema sql)) where
  -- a query with no RETURNING commits nothing
  pub commits_nothing : (old new : State) → Survives old new (CommitsShowing sql [] old) → old.now.schema ≡ schema
      → Survives old new (λ _. ⊥)
  commits_nothing old new survives has =
      survives_weaker old new _ _
      (λ _ db. never_commits sql [] old db (subst (λ s. IsPlain (understood s sql)) (sym has) plain)) survives

  module _ (unlisted : reads_listing schema sql ≡ false) (old mid new : State) (has : old.now.schema ≡ schema)
      (same : IsUnchanged old mid) where
    pub all_walked : (rows : List Row) → Shown sql [] mid new rows
        → Reads (command_of (understood schema sql)) old.now [] rows
    all_walked rows shown =
        subst
        (λ db. Reads (command_of (understood schema sql)) db [] rows) same.0.now_is
        (reads_as sql [] mid new schema (unchanged_schema old mid same has) _ refl plain unlisted rows shown)

    pub some_walked : (rows : List Row) → Begins sql [] mid rows
        → ReadsFirst (command_of (understood schema sql)) old.now [] rows
    some_walked rows begins = subst
        (λ db. ReadsFirst (command_of (understood schema sql)) db [] rows) same.0.now_is
        (begins_as sql [] mid mid schema (unchanged_schema old mid same has) _ refl plain unlisted rows begins)

module _ {X : Type 0} (Fits : X → Row → Type 0) (Keeps : X → Row → X → Type 0) where
  pub one_more : (start : X) (rows : List Row) (so_far : X) (row : Row) (next : X) → Pass Fits Keeps start rows so_far
      → Fits so_far row → Keeps so_far row next → Pass Fits Keeps start (rows ++ row ∷ []) next
  one_more start [] so_far row next same fits keeps =
      subst (λ x. Pass Fits Keeps x (row ∷ []) next) same (fits, next, keeps, refl)
  one_more start (r ∷ rows) so_far row next passed fits keeps =
      (passed.0, passed.1, passed.2, one_more passed.1 rows so_far row next passed.3 fits keeps)

-- ---- one test after the other

-- a test that was not made
pub errs_for : (a b : State) (e : Error) (P Q : Trees → Type 0) → Tests a b (Err e) P → Tests a b (Err e) Q
errs_for a b e P Q t = record { looks = t.looks; same = λ _ _. tt; answer = λ _ _. tt }

-- a test of the same in other words
pub tests_same : (a b : State) (r : Result Bool Error) (P Q : Trees → Type 0) → ((db : Trees) → P db → Q db)
    → ((db : Trees) → Q db → P db) → Tests a b r P → Tests a b r Q
tests_same a b (Ok x) P Q to from t =
    record {
      looks = t.looks;
      same = t.same;
      answer = λ clean has. let d = t.answer clean has in
          (λ h. to _ (d.0 h), λ q. d.1 (from _ q));
    }
tests_same a b (Err e) P Q to from t = errs_for a b e P Q t

looks_then : (a b c : State) → Looks a b → (HasCleanDisk b → a.now.schema ≡ store_schema → IsUnchanged a b) → Looks b c
    → Looks a c
looks_then a b c p same q = record {
  clean = omega (arith, p.clean, q.clean);
  left = λ clean has db may. let was = was_clean b c q.clean clean in
      p.left was has db (q.left clean (unchanged_schema a b (same was has) has) db may);
  outcome = λ clean has. let was = was_clean b c q.clean clean in let s = same was has in
      outcome_then a b c s (q.outcome clean (unchanged_schema a b s has));
  limit = λ clean has. let was = was_clean b c q.clean clean in q.limit clean (unchanged_schema a b (same was has) has)
      ∙ p.limit was has;
  counts = λ clean has. let was = was_clean b c q.clean clean in let first = p.counts was has in let next =
      q.counts clean (unchanged_schema a b (same was has) has) in omega (arith, first, next);
}

-- two tests one after the other, of which the first passed, test for both
pub then_tests : (a b c : State) (r : Result Bool Error) (P Q : Trees → Type 0) → Tests a b (Ok true) P → Tests b c r Q
    → Tests a c r (λ db. P db × Q db)
then_tests a b c r P Q p q = record {
  looks = looks_then a b c p.looks p.same q.looks;
  same = go_same r (λ clean has. q.same clean has);
  answer = go_answer r (λ clean has. q.answer clean has);
}
  where
    before : HasCleanDisk c → a.now.schema ≡ store_schema
        → IsUnchanged a b × (b.now.schema ≡ store_schema) × P a.now.trees
    before clean has =
        let was = was_clean b c q.looks.clean clean in
        let s = p.same was has in
        (s, unchanged_schema a b s has, (p.answer was has).0 refl)

    go_same : (r : Result Bool Error) → (HasCleanDisk c → b.now.schema ≡ store_schema → OnOk r (IsUnchanged b c))
        → HasCleanDisk c → a.now.schema ≡ store_schema → OnOk r (IsUnchanged a c)
    go_same (Ok x) f clean has = let w = before clean has in unchanged_then a b c w.0 (f clean w.1)
    go_same (Err e) f clean has = tt

    go_answer : (r : Result Bool Error)
        → (HasCleanDisk c → b.now.schema ≡ store_schema → IfOk r (λ x. Decides x (Q b.now.trees))) → HasCleanDisk c
        → a.now.schema ≡ store_schema
        → IfOk r (λ x. Decides x (P a.now.trees × Q a.now.trees))
    go_answer (Ok x) f clean has =
        let w = before clean has in
        let d = subst (λ (y : Database). Decides x (Q y.trees)) w.0.0.now_is (f clean w.1) in
        (λ h. (w.2, d.0 h), λ both. d.1 both.1)
    go_answer (Err e) f clean has = tt
