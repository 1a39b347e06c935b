use Rattle.std.proofs.Common.{◌≡◌, true, false, [], ◌∷◌, ◌++◌, inl, refl, sym, subst, ◌∙◌, rules, arith}
use Rattle.sqlite.specs.State.{HasCleanDisk, IsUnchanged, Survives, CommitsShowing}
use Rattle.sqlite.specs.Held.{state}
use Rattle.sqlite.specs.Listing.{understood}
use Rattle.sqlite.specs.Values.{bound}
use Rattle.sqlite.proofs.Callers.{IsPlain, given_begin, begun_plain, unchanged_then}
use Rattle.tables.specs.Walks.{Looks}
use Rattle.tables.proofs.FailureLemmas.{was_clean, failed_query}
use Rattle.tables.proofs.WalkLemmas.{quiet_looks, moved_looks, then_survives, failed_or_same, one_more}
use Rattle.statements.proofs.ExtractLemmas.{commits_nothing, all_shown, some_shown}
use Rattle.statements.proofs.GoingLemmas.{goes_on_itself, goes_on_or_ends, goes_on_then}
use Rattle.statements.proofs.extract_rows.hand_on.Goals as goal

pub returns-in_err-rows-clause-looks : goal.returns-in_err-rows-clause-looks
returns-in_err-rows-clause-looks g c =
    let old = state g.S.Store c.args.source.now in
    let new = state g.S.Store c.query.follows.lender-at-none in
    let held = c.query.follows.holds-at-none in
    let sql = c.args.sql.now in
    let params = bound c.args.params.now in
    let survives : Survives old new (CommitsShowing sql params old) = search rules in
    quiet_looks old new survives.clean (commits_nothing sql params old new c.requires.plain survives)
    (λ clean _. let h = rw c.in_err-rows.was at held in failed_query sql params old new _ (h.err clean))

pub rows-init : goal.rows-init
rows-init g c =
    let made = c.in_ok-rows.ensures in
    let sql = c.args.sql.now in
    let params = bound c.args.params.now in
    let old = state g.S.Store c.args.source.now in
    let now = c.in_ok-rows.rows.conn.now in
    let begun = λ (clean : HasCleanDisk (state g.S.Store now)) (has : old.now.schema ≡ _). begun_plain g.S.Store sql
    params c.args.source.now now
    (subst (λ s. IsPlain (understood s sql)) (sym has) c.requires.plain) (made.begun clean) in (
      refl,
      made.survives.clean,
      commits_nothing sql params old _ c.requires.plain made.survives,
      λ clean has. (begun clean has).1,
      refl,
      goes_on_itself (state g.F.Store c.args.tx.now.conn.now),
      λ clean _ has w means filling. (filling, [], (begun clean has).0, refl),
    )

pub returns-in_err-row-clause-looks : goal.returns-in_err-row-clause-looks
returns-in_err-row-clause-looks g c =
    let moved = c.next.follows.holds-at-none in
    let now = c.next.follows.lender-at-none.conn.now in
    let was = c.rows.invariant in
    let same : now ≡ c.source-in_err-row-1.given.0 = search rules in
    subst (λ h. Looks (state g.S.Store c.args.source.now) (state g.S.Store h)) same
    (moved_looks (state g.S.Store c.args.source.now) (state g.S.Store c.rows.rows.conn.now) (state g.S.Store now) was.1
    was.2 was.3 moved.survives
    (λ clean. failed_or_same _ _ _ (rw c.in_err-row.was at (moved.kept clean))))

pub returns-in_err-row-clause-same_reference : goal.returns-in_err-row-clause-same_reference
returns-in_err-row-clause-same_reference g c = c.rows.invariant.4

pub returns-in_err-row-clause-goes_on : goal.returns-in_err-row-clause-goes_on
returns-in_err-row-clause-goes_on g c =
    goes_on_or_ends (state g.F.Store c.args.tx.now.conn.now) (state g.F.Store c.rows.tx.conn.now) _ c.rows.invariant.5

pub returns-in_default-clause-looks : goal.returns-in_default-clause-looks
returns-in_default-clause-looks g c =
    let moved = c.next.follows.holds-at-none in
    let now = c.next.follows.lender-at-none.conn.now in
    let was = c.rows.invariant in
    let same : now ≡ c.source-in_default-1.given.0 = search rules in
    subst (λ h. Looks (state g.S.Store c.args.source.now) (state g.S.Store h)) same
    (moved_looks (state g.S.Store c.args.source.now) (state g.S.Store c.rows.rows.conn.now) (state g.S.Store now) was.1
    was.2 was.3 moved.survives
    (λ clean. inl (rw c.in_ok-row.was at (moved.same clean))))

pub returns-in_default-clause-same : goal.returns-in_default-clause-same
returns-in_default-clause-same g c clean has =
    let moved = c.next.follows.holds-at-none in
    let now = c.next.follows.lender-at-none.conn.now in
    let late : HasCleanDisk (state g.S.Store now) = search rules in
    let was = c.rows.invariant.3 (omega (arith, moved.survives.clean)) has in
    let same : now ≡ c.source-in_default-1.given.0 = search rules in
    subst (λ h. IsUnchanged (state g.S.Store c.args.source.now) (state g.S.Store h)) same
    (unchanged_then (state g.S.Store c.args.source.now) (state g.S.Store c.rows.rows.conn.now) (state g.S.Store now) was
    (rw c.in_ok-row.was at (moved.same late)))

pub returns-in_default-clause-same_reference : goal.returns-in_default-clause-same_reference
returns-in_default-clause-same_reference g c = c.rows.invariant.4

pub returns-in_default-clause-goes_on : goal.returns-in_default-clause-goes_on
returns-in_default-clause-goes_on g c = c.rows.invariant.5

pub returns-in_default-clause-puts : goal.returns-in_default-clause-puts
returns-in_default-clause-puts g c clean good has w means filling =
    let moved = c.next.follows.holds-at-none in
    let now = c.next.follows.lender-at-none.conn.now in
    let late : HasCleanDisk (state g.S.Store now) = search rules in
    let before = was_clean (state g.S.Store c.rows.rows.conn.now) (state g.S.Store now) moved.survives.clean late in
    let was = c.rows.invariant.6 before good has w means filling in
    let shown = (rw (c.in_ok-row.was, c.in_default.is) at (moved.ok late)) c.args.sql.now (bound c.args.params.now)
    was.1 was.2 in (
      was.0,
      (
        was.1,
        all_shown c.args.sql.now (bound c.args.params.now) c.requires.plain c.requires.tables
            (state g.S.Store c.args.source.now)
            (state g.S.Store c.rows.rows.conn.now) (state g.S.Store now) has (c.rows.invariant.3 before has) was.1
            shown,
        was.3,
      ),
    )

pub returns-in-Err-clause-looks : goal.returns-in-Err-clause-looks
returns-in-Err-clause-looks g c =
    let moved = c.next.follows.holds-at-none in
    let now = c.next.follows.lender-at-none.conn.now in
    let was = c.rows.invariant in
    let same : now ≡ c.source-in-Err-1.given.0 = search rules in
    subst (λ h. Looks (state g.S.Store c.args.source.now) (state g.S.Store h)) same
    (moved_looks (state g.S.Store c.args.source.now) (state g.S.Store c.rows.rows.conn.now) (state g.S.Store now) was.1
    was.2 was.3 moved.survives
    (λ clean. inl (rw c.in_ok-row.was at (moved.same clean))))

pub returns-in-Err-clause-same_reference : goal.returns-in-Err-clause-same_reference
returns-in-Err-clause-same_reference g c = c.put.ensures.same_reference ∙ c.rows.invariant.4

pub returns-in-Err-clause-goes_on : goal.returns-in-Err-clause-goes_on
returns-in-Err-clause-goes_on g c =
    goes_on_then (state g.F.Store c.args.tx.now.conn.now) (state g.F.Store c.rows.tx.conn.now)
    (state g.F.Store c.put.new.tx.conn.now) false c.rows.invariant.5 c.in-Err.ensures.goes_on

pub rows-preserved : goal.rows-preserved
rows-preserved g c =
    let moved = c.next.follows.holds-at-none in
    let so_far = c.rows.invariant in
    let sql = c.args.sql.now in
    let params = bound c.args.params.now in
    let old = state g.S.Store c.args.source.now in
    let mid = state g.S.Store c.rows.rows.conn.now in
    let now = c.next.follows.lender-at-none.conn.now in
    let new = state g.S.Store now in
    let begun = state g.F.Store c.args.tx.now.conn.now in
    let at = state g.F.Store c.rows.tx.conn.now in
    let end = state g.F.Store c.put.new.tx.conn.now in
    let put = c.in-Ok.ensures in
    let row = c.in-Some.row.now in
    let still =
    λ (clean : HasCleanDisk new) (has : old.now.schema ≡ _). unchanged_then old mid new
    (so_far.3 (was_clean mid new moved.survives.clean clean) has) (rw c.in_ok-row.was at (moved.same clean)) in (
      moved.same_reference ∙ so_far.0,
      omega (arith, so_far.1, moved.survives.clean),
      then_survives old mid new so_far.2 moved.survives,
      still,
      put.same_reference ∙ so_far.4,
      goes_on_then begun at end true so_far.5 put.goes_on,
      λ clean good has w means filling.
          let was = so_far.6 (was_clean mid new moved.survives.clean clean)
          (was_clean at end put.goes_on.survives.clean good) has w means filling in
          let given = (rw (c.in_ok-row.was, c.in-Some.is) at (moved.ok clean)) sql params was.1 was.2 in
          let rows = was.1 ++ row ∷ [] in
          let fits = c.requires.fits old.now w was.1 row means
          (some_shown sql params c.requires.plain c.requires.tables old new new has (still clean has) rows
          (given_begin g.S.Store sql params now rows given)) in
          let one = put.puts good fits was.0 in
          (one.1, rows, given, one_more _ _ begun.now.trees was.1 at.now.trees row end.now.trees was.3 fits one.0),
    )

pub returns-clause-looks : goal.returns-clause-looks
returns-clause-looks g c =
    let now = c.rows.rows.conn.now in
    let was = c.rows.invariant in
    let same : now ≡ c.source-2-1.given.0 = search rules in
    subst
    (λ h. Looks (state g.S.Store c.args.source.now) (state g.S.Store h)) same
    (quiet_looks (state g.S.Store c.args.source.now) (state g.S.Store now) was.1 was.2
    (λ clean has. inl (was.3 clean has)))

pub returns-clause-same_reference : goal.returns-clause-same_reference
returns-clause-same_reference g c = c.rows.invariant.4

pub returns-clause-goes_on : goal.returns-clause-goes_on
returns-clause-goes_on g c =
    goes_on_or_ends (state g.F.Store c.args.tx.now.conn.now) (state g.F.Store c.rows.tx.conn.now) _ c.rows.invariant.5
