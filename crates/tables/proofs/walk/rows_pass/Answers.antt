use Rattle.std.proofs.Common.{◌≡◌, [], ◌∷◌, ◌++◌, inl, inr, refl, sym, subst, ◌∙◌, rules, arith, length-append}
use Rattle.sqlite.specs.State.{HasCleanDisk, IsUnchanged, Survives, CommitsShowing}
use Rattle.sqlite.specs.Held.{state}
use Rattle.sqlite.specs.Listing.{understood}
use Rattle.sqlite.proofs.Callers.{IsPlain, given_begin, begun_plain, unchanged_then}
use Rattle.tables.specs.Schema.{store_schema}
use Rattle.tables.specs.Walks.{Looks}
use Rattle.tables.proofs.FailureLemmas.{was_clean, failed_query}
use Rattle.tables.proofs.WalkLemmas.{commits_nothing, quiet_looks, moved_looks, then_survives, failed_or_same}
use Rattle.tables.proofs.WalkLemmas.{all_walked, some_walked, one_more}
use Rattle.tables.proofs.WalkCauses.{query_excused, next_excused, too_many, excused_same, error_says}
use Rattle.tables.proofs.walk.rows_pass.Goals as goal

pub returns-in_err-rows-clause-looks : goal.returns-in_err-rows-clause-looks
returns-in_err-rows-clause-looks g c =
    let old = state g.S.Store c.args.conn.now in
    let new = state g.S.Store c.query.follows.lender-at-none in
    let held = c.query.follows.holds-at-none in
    let sql = c.args.sql.now in
    let survives : Survives old new (CommitsShowing sql [] old) = search rules in
    quiet_looks old new survives.clean (commits_nothing store_schema sql c.requires.plain old new survives)
    (λ clean _. let h = rw c.in_err-rows.was at held in failed_query sql [] old new _ (h.err clean))

pub rows-init : goal.rows-init
rows-init g c =
    let made = c.in_ok-rows.ensures in
    let sql = c.args.sql.now in
    let old = state g.S.Store c.args.conn.now in (
      refl,
      made.survives.clean,
      commits_nothing store_schema sql c.requires.plain old _ made.survives,
      λ clean has. let b = begun_plain g.S.Store sql [] c.args.conn.now _
          (subst (λ s. IsPlain (understood s sql)) (sym has) c.requires.plain) (made.begun clean) in
          ([], b.0, refl, b.1, refl),
    )

pub returns-in_err-row-clause-looks : goal.returns-in_err-row-clause-looks
returns-in_err-row-clause-looks g c =
    let moved = c.next.follows.holds-at-none in
    let now = c.next.follows.lender-at-none.conn.now in
    let was = c.rows.invariant in
    let same : now ≡ c.conn-in_err-row-1.given.0 = search rules in
    subst (λ h. Looks (state g.S.Store c.args.conn.now) (state g.S.Store h)) same
    (moved_looks (state g.S.Store c.args.conn.now) (state g.S.Store c.rows.rows.conn.now) (state g.S.Store now) was.1
    was.2 (λ clean has. (was.3 clean has).3) moved.survives
    (λ clean. failed_or_same _ _ _ (rw c.in_err-row.was at (moved.kept clean))))

pub returns-in_default-clause-looks : goal.returns-in_default-clause-looks
returns-in_default-clause-looks g c =
    let moved = c.next.follows.holds-at-none in
    let now = c.next.follows.lender-at-none.conn.now in
    let was = c.rows.invariant in
    let same : now ≡ c.conn-in_default-1.given.0 = search rules in
    subst (λ h. Looks (state g.S.Store c.args.conn.now) (state g.S.Store h)) same
    (moved_looks (state g.S.Store c.args.conn.now) (state g.S.Store c.rows.rows.conn.now) (state g.S.Store now) was.1
    was.2 (λ clean has. (was.3 clean has).3) moved.survives
    (λ clean. inl (rw c.in_ok-row.was at (moved.same clean))))

pub returns-in_default-clause-same : goal.returns-in_default-clause-same
returns-in_default-clause-same g c clean has =
    let moved = c.next.follows.holds-at-none in
    let now = c.next.follows.lender-at-none.conn.now in
    let late : HasCleanDisk (state g.S.Store now) = search rules in
    let was = c.rows.invariant.3 (omega (arith, moved.survives.clean)) has in
    let same : now ≡ c.conn-in_default-1.given.0 = search rules in
    subst (λ h. IsUnchanged (state g.S.Store c.args.conn.now) (state g.S.Store h)) same
    (unchanged_then (state g.S.Store c.args.conn.now) (state g.S.Store c.rows.rows.conn.now) (state g.S.Store now) was.3
    (rw c.in_ok-row.was at (moved.same late)))

pub returns-in_default-clause-answer : goal.returns-in_default-clause-answer
returns-in_default-clause-answer g c clean has =
    let moved = c.next.follows.holds-at-none in
    let now = c.next.follows.lender-at-none.conn.now in
    let late : HasCleanDisk (state g.S.Store now) = search rules in
    let was = c.rows.invariant.3 (omega (arith, moved.survives.clean)) has in
    let shown = (rw (c.in_ok-row.was, c.in_default.is) at (moved.ok late)) c.args.sql.now [] was.0 was.1 in (
      was.0,
      all_walked store_schema c.args.sql.now c.requires.plain c.requires.tables
          (state g.S.Store c.args.conn.now) (state g.S.Store c.rows.rows.conn.now) (state g.S.Store now) has was.3 was.0
          shown,
      was.2,
    )

pub returns-in_err-passes-clause-looks : goal.returns-in_err-passes-clause-looks
returns-in_err-passes-clause-looks g c =
    let moved = c.next.follows.holds-at-none in
    let now = c.next.follows.lender-at-none.conn.now in
    let was = c.rows.invariant in
    let same : now ≡ c.conn-in_err-passes-1.given.0 = search rules in
    subst (λ h. Looks (state g.S.Store c.args.conn.now) (state g.S.Store h)) same
    (moved_looks (state g.S.Store c.args.conn.now) (state g.S.Store c.rows.rows.conn.now) (state g.S.Store now) was.1
    was.2 (λ clean has. (was.3 clean has).3) moved.survives
    (λ clean. inl (rw c.in_ok-row.was at (moved.same clean))))

pub returns-then-not-branch-clause-looks : goal.returns-then-not-branch-clause-looks
returns-then-not-branch-clause-looks g c =
    let moved = c.next.follows.holds-at-none in
    let now = c.next.follows.lender-at-none.conn.now in
    let was = c.rows.invariant in
    let same : now ≡ c.conn-then-not-branch-1.given.0 = search rules in
    subst (λ h. Looks (state g.S.Store c.args.conn.now) (state g.S.Store h)) same
    (moved_looks (state g.S.Store c.args.conn.now) (state g.S.Store c.rows.rows.conn.now) (state g.S.Store now) was.1
    was.2 (λ clean has. (was.3 clean has).3) moved.survives
    (λ clean. inl (rw c.in_ok-row.was at (moved.same clean))))

pub returns-then-not-branch-clause-same : goal.returns-then-not-branch-clause-same
returns-then-not-branch-clause-same g c clean has =
    let moved = c.next.follows.holds-at-none in
    let now = c.next.follows.lender-at-none.conn.now in
    let late : HasCleanDisk (state g.S.Store now) = search rules in
    let was = c.rows.invariant.3 (omega (arith, moved.survives.clean)) has in
    let same : now ≡ c.conn-then-not-branch-1.given.0 = search rules in
    subst (λ h. IsUnchanged (state g.S.Store c.args.conn.now) (state g.S.Store h)) same
    (unchanged_then (state g.S.Store c.args.conn.now) (state g.S.Store c.rows.rows.conn.now) (state g.S.Store now) was.3
    (rw c.in_ok-row.was at (moved.same late)))

pub returns-then-not-branch-clause-answer : goal.returns-then-not-branch-clause-answer
returns-then-not-branch-clause-answer g c clean has =
    let moved = c.next.follows.holds-at-none in
    let now = c.next.follows.lender-at-none.conn.now in
    let late : HasCleanDisk (state g.S.Store now) = search rules in
    let was = c.rows.invariant.3 (omega (arith, moved.survives.clean)) has in
    let given = (rw (c.in_ok-row.was, c.in-Some.is) at (moved.ok late)) c.args.sql.now [] was.0 was.1 in
    let same = rw c.in_ok-row.was at (moved.same late) in
    let at = unchanged_then (state g.S.Store c.args.conn.now) (state g.S.Store c.rows.rows.conn.now)
    (state g.S.Store now) was.3 same in
    let bad = rw c.if-not-branch.true at c.in_ok-passes.ensures.verdict in (
      was.0,
      c.in-Some.row.now,
      _,
      some_walked store_schema c.args.sql.now c.requires.plain c.requires.tables (state g.S.Store c.args.conn.now)
          (state g.S.Store now) (state g.S.Store now) has
          at (was.0 ++ c.in-Some.row.now ∷ []) (given_begin g.S.Store c.args.sql.now [] now _ given),
      was.2,
      bad,
    )

pub rows-preserved : goal.rows-preserved
rows-preserved g c =
    let moved = c.next.follows.holds-at-none in
    let so_far = c.rows.invariant in
    let old = state g.S.Store c.args.conn.now in
    let mid = state g.S.Store c.rows.rows.conn.now in
    let now = c.next.follows.lender-at-none.conn.now in
    let new = state g.S.Store now in
    let good = rw c.if-not-branch.false at c.in_ok-passes.ensures.verdict in (
      moved.same_reference ∙ so_far.0,
      omega (arith, so_far.1, moved.survives.clean),
      then_survives old mid new so_far.2 moved.survives,
      λ clean has.
          let was = so_far.3 (was_clean mid new moved.survives.clean clean) has in
          let given = (rw (c.in_ok-row.was, c.in-Some.is) at (moved.ok clean)) c.args.sql.now [] was.0 was.1 in
          let same = rw c.in_ok-row.was at (moved.same clean) in (
            was.0 ++ c.in-Some.row.now ∷ [],
            given,
            one_more g.T.RowTest.Fits g.T.RowTest.Keeps _ was.0 _ c.in-Some.row.now _ was.2 good.0 good.1,
            unchanged_then old mid new was.3 same,
            omega (arith, was.4, length-append was.0 (c.in-Some.row.now ∷ [])),
          ),
    )

pub returns-clause-looks : goal.returns-clause-looks
returns-clause-looks g c =
    let now = c.rows.rows.conn.now in
    let was = c.rows.invariant in
    let same : now ≡ c.conn-2-1.given.0 = search rules in
    subst
    (λ h. Looks (state g.S.Store c.args.conn.now) (state g.S.Store h)) same
    (quiet_looks (state g.S.Store c.args.conn.now) (state g.S.Store now) was.1 was.2
    (λ clean has. inl (was.3 clean has).3))

pub returns-in_err-rows-clause-cause : goal.returns-in_err-rows-clause-cause
returns-in_err-rows-clause-cause g c clean has =
    let old = state g.S.Store c.args.conn.now in
    let new = state g.S.Store c.query.follows.lender-at-none in
    let held = rw c.in_err-rows.was at c.query.follows.holds-at-none in
    error_says _ c.from_residual.result c.in_err-rows.field-0.0 c.from_residual.ensures.1
    (inl (query_excused store_schema c.args.sql.now c.requires.walkable.query c.requires.plain c.requires.tables old new
    _ has (held.err clean)))

pub returns-in_err-row-clause-cause : goal.returns-in_err-row-clause-cause
returns-in_err-row-clause-cause g c clean has =
    let moved = c.next.follows.holds-at-none in
    let now = c.next.follows.lender-at-none.conn.now in
    let late : HasCleanDisk (state g.S.Store now) = search rules in
    let was = c.rows.invariant.3 (omega (arith, moved.survives.clean)) has in
    let same : now ≡ c.conn-in_err-row-1.given.0 = search rules in
    let failed = (rw c.in_err-row.was at (moved.err late)) c.args.sql.now [] was.0 was.1 in
    error_says _ c.from_residual-in_err-row.result c.in_err-row.field-0.0 c.from_residual-in_err-row.ensures.1
    (excused_same g.S.Store (state g.S.Store c.args.conn.now) now c.conn-in_err-row-1.given.0 _ _ same
    (next_excused store_schema c.args.sql.now c.requires.walkable.query c.requires.plain c.requires.tables
    (state g.S.Store c.args.conn.now)
    (state g.S.Store c.rows.rows.conn.now) has was.3 (state g.S.Store now) _ (c.rows.invariant.2 has) failed))

pub returns-in_err-passes-clause-cause : goal.returns-in_err-passes-clause-cause
returns-in_err-passes-clause-cause g c clean has =
    let moved = c.next.follows.holds-at-none in
    let now = c.next.follows.lender-at-none.conn.now in
    let late : HasCleanDisk (state g.S.Store now) = search rules in
    let was = c.rows.invariant.3 (omega (arith, moved.survives.clean)) has in
    let given = (rw (c.in_ok-row.was, c.in-Some.is) at (moved.ok late)) c.args.sql.now [] was.0 was.1 in
    let at = unchanged_then (state g.S.Store c.args.conn.now) (state g.S.Store c.rows.rows.conn.now)
    (state g.S.Store now) was.3 (rw c.in_ok-row.was at (moved.same late)) in
    let old = state g.S.Store c.args.conn.now in
    let new = state g.S.Store now in
    let rows = was.0 ++ c.in-Some.row.now ∷ [] in
    let shown = some_walked store_schema c.args.sql.now c.requires.plain c.requires.tables old new new has at rows
    (given_begin g.S.Store c.args.sql.now [] now _ given) in
    let wide = c.requires.walkable.wide old.now was.0 c.in-Some.row.now shown in
    error_says _ c.from_residual-in_err-passes.result c.in_err-passes.field-0.0 c.from_residual-in_err-passes.ensures.1
    (inl (inl (c.in_err-passes.ensures.memory wide)))

pub returns-clause-cause : goal.returns-clause-cause
returns-clause-cause g c clean has =
    let now = c.rows.rows.conn.now in
    let late : HasCleanDisk (state g.S.Store now) = search rules in
    let was = c.rows.invariant.3 late has in
    let many = was.4 in
    inr (too_many store_schema c.args.sql.now c.requires.walkable.query c.requires.plain c.requires.tables
    (state g.S.Store c.args.conn.now)
    (state g.S.Store now) has was.3 was.0 (given_begin g.S.Store c.args.sql.now [] now _ was.1)
    (omega (arith, many, c.rows-test.false)))
