use Rattle.std.proofs.Common.{◌≡◌, IsTrue, true, false, true≢false, [], ◌∷◌, ◌++◌, inl, inr, refl, sym, subst, ◌∙◌}
use Rattle.std.proofs.Common.{rules, arith, length-append}
use Rattle.sqlite.specs.State.{HasCleanDisk, Survives, CommitsShowing}
use Rattle.sqlite.specs.Held.{state}
use Rattle.sqlite.specs.Listing.{understood}
use Rattle.sqlite.proofs.Callers.{IsPlain, given_begin, begun_plain, unchanged_then}
use Rattle.tables.proofs.FailureLemmas.{was_clean, failed_query}
use Rattle.tables.proofs.WalkLemmas.{commits_nothing, all_walked}
use Rattle.tables.proofs.WalkCauses.{query_excused, next_excused, too_many, excused_same}
use Rattle.older.specs.Schemas.{schema_of}
use Rattle.statements.specs.Extract.{IsReadBy}
use Rattle.statements.proofs.GoingLemmas.{goes_on_itself, goes_on_then}
use Rattle.older_rows.proofs.WalkLemmas.{quiet_read, moved_read, then_survives, one_more}
use Rattle.older_rows.proofs.walk.visit_rows.Goals as goal

-- ---- the query is refused

pub returns-in-Err-clause-reads : goal.returns-in-Err-clause-reads
returns-in-Err-clause-reads g c has =
    let old = state g.S.Store c.args.source.now in
    let new = state g.S.Store c.query.follows.lender-at-none in
    let held = c.query.follows.holds-at-none in
    let sql = c.args.sql.now in
    let survives : Survives old new (CommitsShowing sql [] old) = search rules in
    quiet_read old new false (commits_nothing (schema_of c.args.format) sql c.requires.plain old new survives has)
    (λ clean. let h = rw c.in-Err.is at held in failed_query sql [] old new _ (h.err clean))
    (λ _ done. absurd (true≢false (sym done)))

pub returns-in-Err-clause-survives : goal.returns-in-Err-clause-survives
returns-in-Err-clause-survives g c has =
    let old = state g.S.Store c.args.source.now in
    let new = state g.S.Store c.query.follows.lender-at-none in
    let survives : Survives old new (CommitsShowing c.args.sql.now [] old) = search rules in
    commits_nothing (schema_of c.args.format) c.args.sql.now c.requires.plain old new survives has

pub returns-in-Err-clause-cause : goal.returns-in-Err-clause-cause
returns-in-Err-clause-cause g c clean has =
    let old = state g.S.Store c.args.source.now in
    let new = state g.S.Store c.query.follows.lender-at-none in
    let held = rw c.in-Err.is at c.query.follows.holds-at-none in
    inl (query_excused (schema_of c.args.format) c.args.sql.now c.requires.walkable.query c.requires.plain
    c.requires.tables old new _ has (held.err clean))

-- ---- the rows

pub rows-init : goal.rows-init
rows-init g c =
    let made = c.in-Ok.ensures in
    let sql = c.args.sql.now in
    let old = state g.S.Store c.args.source.now in
    let now = c.in-Ok.rows.conn.now in
    let begun = λ (clean : HasCleanDisk (state g.S.Store now)) (has : old.now.schema ≡ _). begun_plain g.S.Store sql []
    c.args.source.now now
    (subst (λ s. IsPlain (understood s sql)) (sym has) c.requires.plain) (made.begun clean) in (
      refl,
      made.survives.clean,
      commits_nothing (schema_of c.args.format) sql c.requires.plain old _ made.survives,
      λ clean has. (begun clean has).1,
      refl,
      goes_on_itself (state g.F.Store c.args.tx.now.conn.now),
      λ clean _ has filling. (filling, [], (begun clean has).0, (refl, refl)),
      λ clean has. ([], (begun clean has).0, refl),
    )

pub rows-preserved : goal.rows-preserved
rows-preserved g c =
    let moved = c.next.follows.holds-at-none in
    let so_far = c.rows.invariant in
    let sql = c.args.sql.now in
    let old = state g.S.Store c.args.source.now in
    let mid = state g.S.Store c.rows.rows.conn.now in
    let now = c.next.follows.lender-at-none.conn.now in
    let new = state g.S.Store now in
    let begun = state g.F.Store c.args.tx.now.conn.now in
    let at = state g.F.Store c.rows.tx.conn.now in
    let end = state g.F.Store c.visit.new.tx.conn.now in
    let put = c.in-Ok-true.ensures in
    let row = c.in-Ok-Some.row.now in
    let fits : IsTrue c.in-Ok-true.field-0 = search rules in
    let still =
    λ (clean : HasCleanDisk new) (has : old.now.schema ≡ _). unchanged_then old mid new
    (so_far.3 (was_clean mid new moved.survives.clean clean) has) (rw c.in-Ok-Some.is at (moved.same clean)) in (
      moved.same_reference ∙ so_far.0,
      omega (arith, so_far.1, moved.survives.clean),
      λ has. then_survives old mid new (so_far.2 has) (λ clean. so_far.3 clean has) moved.survives,
      still,
      put.same_reference ∙ so_far.4,
      goes_on_then begun at end true so_far.5 put.goes_on,
      λ clean good has filling.
          let was = so_far.6 (was_clean mid new moved.survives.clean clean)
          (was_clean at end put.goes_on.survives.clean good) has filling in
          let given = (rw (c.in-Ok-Some.is, c.in-Ok-Some.field-0-is) at (moved.ok clean)) sql [] was.1 was.2 in
          let one = put.puts good was.0 fits in (
            one.1,
            was.1 ++ row ∷ [],
            given,
            one_more g.V.Visit.Puts _ begun.now.trees was.1 _ at.now.trees row _ end.now.trees was.3 one.0,
          ),
      λ clean has.
          let was = so_far.7 (was_clean mid new moved.survives.clean clean) has in
          let given = (rw (c.in-Ok-Some.is, c.in-Ok-Some.field-0-is) at (moved.ok clean)) sql [] was.0 was.1 in
          (was.0 ++ row ∷ [], given, omega (arith, was.2, length-append was.0 (row ∷ []))),
    )

-- ---- a row is not read

pub returns-in-Err-next-clause-cause : goal.returns-in-Err-next-clause-cause
returns-in-Err-next-clause-cause g c clean has =
    let moved = c.next.follows.holds-at-none in
    let now = c.next.follows.lender-at-none.conn.now in
    let old = state g.S.Store c.args.source.now in
    let mid = state g.S.Store c.rows.rows.conn.now in
    let late : HasCleanDisk (state g.S.Store now) = search rules in
    let before = was_clean mid (state g.S.Store now) moved.survives.clean late in
    let was = c.rows.invariant.7 before has in
    let same : now ≡ c.source-in-Err-next-1.given.0 = search rules in
    let failed = (rw c.in-Err-next.is at (moved.err late)) c.args.sql.now [] was.0 was.1 in
    excused_same g.S.Store old now c.source-in-Err-next-1.given.0 _ _ same
    (next_excused (schema_of c.args.format) c.args.sql.now c.requires.walkable.query c.requires.plain c.requires.tables
    old mid has
    (c.rows.invariant.3 before has) (state g.S.Store now) _ (c.rows.invariant.2 has) failed)

-- ---- a row is not put in

pub returns-in-Ok-false-clause-reads : goal.returns-in-Ok-false-clause-reads
returns-in-Ok-false-clause-reads g c has =
    let moved = c.next.follows.holds-at-none in
    let now = c.next.follows.lender-at-none.conn.now in
    let was = c.rows.invariant in
    let old = state g.S.Store c.args.source.now in
    let same : now ≡ c.source-in-Ok-false-1.given.0 = search rules in
    subst (λ h. IsReadBy old (state g.S.Store h) true) same
    (moved_read old (state g.S.Store c.rows.rows.conn.now) (state g.S.Store now) (was.2 has) (λ clean. was.3 clean has)
    moved.survives (λ clean. rw c.in-Ok-Some.is at (moved.same clean)))

pub returns-in-Ok-false-clause-survives : goal.returns-in-Ok-false-clause-survives
returns-in-Ok-false-clause-survives g c has =
    let moved = c.next.follows.holds-at-none in
    let now = c.next.follows.lender-at-none.conn.now in
    let was = c.rows.invariant in
    let old = state g.S.Store c.args.source.now in
    let same : now ≡ c.source-in-Ok-false-1.given.0 = search rules in
    subst (λ h. Survives old (state g.S.Store h) (λ _. ⊥)) same
    (then_survives old (state g.S.Store c.rows.rows.conn.now) (state g.S.Store now) (was.2 has)
    (λ clean. was.3 clean has) moved.survives)

pub returns-in-Err-visit-clause-survives : goal.returns-in-Err-visit-clause-survives
returns-in-Err-visit-clause-survives g c has =
    let moved = c.next.follows.holds-at-none in
    let now = c.next.follows.lender-at-none.conn.now in
    let was = c.rows.invariant in
    let old = state g.S.Store c.args.source.now in
    let same : now ≡ c.source-in-Err-visit-1.given.0 = search rules in
    subst (λ h. Survives old (state g.S.Store h) (λ _. ⊥)) same
    (then_survives old (state g.S.Store c.rows.rows.conn.now) (state g.S.Store now) (was.2 has)
    (λ clean. was.3 clean has) moved.survives)

-- ---- each row was visited

pub returns-in-Ok-None-clause-reads : goal.returns-in-Ok-None-clause-reads
returns-in-Ok-None-clause-reads g c has =
    let moved = c.next.follows.holds-at-none in
    let now = c.next.follows.lender-at-none.conn.now in
    let was = c.rows.invariant in
    let old = state g.S.Store c.args.source.now in
    let same : now ≡ c.source-in-Ok-None-1.given.0 = search rules in
    subst (λ h. IsReadBy old (state g.S.Store h) true) same
    (moved_read old (state g.S.Store c.rows.rows.conn.now) (state g.S.Store now) (was.2 has) (λ clean. was.3 clean has)
    moved.survives (λ clean. rw c.in-Ok-None.is at (moved.same clean)))

pub returns-in-Ok-None-clause-puts : goal.returns-in-Ok-None-clause-puts
returns-in-Ok-None-clause-puts g c clean good has filling =
    let moved = c.next.follows.holds-at-none in
    let now = c.next.follows.lender-at-none.conn.now in
    let late : HasCleanDisk (state g.S.Store now) = search rules in
    let before = was_clean (state g.S.Store c.rows.rows.conn.now) (state g.S.Store now) moved.survives.clean late in
    let was = c.rows.invariant.6 before good has filling in
    let shown = (rw (c.in-Ok-None.is, c.in-Ok-None.field-0-is) at (moved.ok late)) c.args.sql.now [] was.1 was.2 in
    λ all. (
      was.0,
      (
        was.1,
        all_walked (schema_of c.args.format) c.args.sql.now c.requires.plain c.requires.tables
            (state g.S.Store c.args.source.now)
            (state g.S.Store c.rows.rows.conn.now) (state g.S.Store now) has (c.rows.invariant.3 before has) was.1
            shown,
        was.3,
      ),
    )

-- ---- there are too many

pub returns-clause-cause : goal.returns-clause-cause
returns-clause-cause g c clean has =
    let now = state g.S.Store c.rows.rows.conn.now in
    let late : HasCleanDisk now = search rules in
    let was = c.rows.invariant.7 late has in
    let many = was.2 in
    let old = state g.S.Store c.args.source.now in
    let shown =
    too_many (schema_of c.args.format) c.args.sql.now c.requires.walkable.query c.requires.plain c.requires.tables old
    now has (c.rows.invariant.3 late has) was.0
    (given_begin g.S.Store c.args.sql.now [] c.rows.rows.conn.now _ was.1) (omega (arith, many, c.rows-test.false)) in
    inr (c.requires.walkable.vast old.now has shown)
