use Rattle.std.proofs.Common.{◌≡◌, [], ◌∷◌, ◌++◌, inl, refl, subst, ◌∙◌, rules}
use Rattle.sqlite.specs.Effect.{Reads}
use Rattle.sqlite.specs.State.{HasCleanDisk}
use Rattle.sqlite.specs.Held.{state}
use Rattle.sqlite.specs.Listing.{understood}
use Rattle.sqlite.specs.Values.{bound}
use Rattle.sqlite.proofs.Callers.{IsPlain, command_of, begun_plain, reads_as}
use Rattle.tables.specs.Schema.{store_schema}
use Rattle.tables.proofs.FailureLemmas.{was_clean, not_run, failed_query}
use Rattle.tables.proofs.WalkLemmas.{failed_or_same}
use Rattle.statements.specs.Calls.{Spares}
use Rattle.statements.proofs.CallLemmas.{spares_then, quiet_spares}
use Rattle.statements.proofs.VisibleLemmas.{nothing_more, one_more}
use Rattle.statements.proofs.ZipLemmas.{plain_then, asked_spares}
use Rattle.statements.proofs.visible.add_texts.Goals as goal

pub returns-in_err-prepare-clause-spares : goal.returns-in_err-prepare-clause-spares
returns-in_err-prepare-clause-spares g c =
    quiet_spares (state g.S.Store c.args.conn.now) (state g.S.Store c.prepare.new.self) c.prepare.ensures.survives
    (λ clean. not_run _ _ c.args.sql.now [] _ (c.in_err-prepare.ensures.err clean []))

pub returns-in_err-rows-clause-spares : goal.returns-in_err-rows-clause-spares
returns-in_err-rows-clause-spares g c =
    let old = state g.S.Store c.args.conn.now in
    let mid = state g.S.Store c.prepare.new.self in
    let new = state g.S.Store c.query.follows.lender-at-none in
    let held = rw c.in_err-rows.was at c.query.follows.holds-at-none in
    let sql = c.args.sql.now in
    let params = bound c.args.params.now in
    let prepared = λ (clean : HasCleanDisk mid). (c.in_ok-prepare.ensures.ok clean).1 in
    let before = quiet_spares old mid c.prepare.ensures.survives (λ clean. inl (prepared clean)) in
    spares_then old mid new before
    (asked_spares sql params c.requires.plain mid new (λ clean. (prepared clean).0.is_open) held.survives
    (λ clean _. failed_query sql params mid new _ (held.err clean)))

pub loop-init : goal.loop-init
loop-init g c =
    let made = c.in_ok-rows.ensures in
    let old = state g.S.Store c.args.conn.now in
    let mid = state g.S.Store c.prepare.new.self in
    let now = c.in_ok-rows.rows.conn.now in
    let new = state g.S.Store now in
    let sql = c.args.sql.now in
    let params = bound c.args.params.now in
    let prepared = λ (clean : HasCleanDisk mid). (c.in_ok-prepare.ensures.ok clean).1 in
    let opened = λ (clean : HasCleanDisk mid). (prepared clean).0.is_open in
    let before = quiet_spares old mid c.prepare.ensures.survives (λ clean. inl (prepared clean)) in
    let begun = λ (clean : HasCleanDisk new) (plain : IsPlain (understood mid.now.schema sql)). begun_plain g.S.Store
    sql params c.prepare.new.self now plain (made.begun clean) in (
      refl,
      spares_then old mid new before
          (asked_spares sql params c.requires.plain mid new opened made.survives
          (λ clean plain. inl (begun clean plain).1)),
      λ clean w stands.
          let early = was_clean mid new made.survives.clean clean in
          let it = begun clean (plain_then sql params c.requires.plain mid new opened made.survives w
          (before.stays w stands) clean) in
          (it.1.0.now_is ∙ (prepared early).0.now_is, (prepared early).0.was_open, [], it.0, nothing_more _),
    )

pub returns-in_err-row-clause-spares : goal.returns-in_err-row-clause-spares
returns-in_err-row-clause-spares g c =
    let moved = c.next.follows.holds-at-none in
    let now = c.next.follows.lender-at-none.conn.now in
    let same : now ≡ c.conn-in_err-row-1.given.0 = search rules in
    subst (λ h. Spares (state g.S.Store c.args.conn.now) (state g.S.Store h)) same
    (spares_then _ _ _ c.loop.invariant.1
    (quiet_spares (state g.S.Store c.loop.rows.conn.now) (state g.S.Store now) moved.survives
    (λ clean. failed_or_same _ _ _ (rw c.in_err-row.was at (moved.kept clean)))))

pub returns-in_default-clause-spares : goal.returns-in_default-clause-spares
returns-in_default-clause-spares g c =
    let moved = c.next.follows.holds-at-none in
    let now = c.next.follows.lender-at-none.conn.now in
    let same : now ≡ c.conn-in_default-1.given.0 = search rules in
    subst (λ h. Spares (state g.S.Store c.args.conn.now) (state g.S.Store h)) same
    (spares_then _ _ _ c.loop.invariant.1
    (quiet_spares (state g.S.Store c.loop.rows.conn.now) (state g.S.Store now) moved.survives
    (λ clean. inl (rw c.in_ok-row.was at (moved.same clean)))))

pub returns-in_default-clause-adds : goal.returns-in_default-clause-adds
returns-in_default-clause-adds g c clean w stands =
    let moved = c.next.follows.holds-at-none in
    let now = c.next.follows.lender-at-none.conn.now in
    let mid = state g.S.Store c.loop.rows.conn.now in
    let new = state g.S.Store now in
    let sql = c.args.sql.now in
    let params = bound c.args.params.now in
    let late : HasCleanDisk new = search rules in
    let early = was_clean mid new moved.survives.clean late in
    let was = c.loop.invariant.2 early w stands in
    let unmoved = rw c.in_ok-row.was at (moved.same late) in
    let shown = (rw (c.in_ok-row.was, c.in_default.is) at (moved.ok late)) sql params was.2 was.3 in
    let has = (c.loop.invariant.1.stays w stands early unmoved.0.was_open).schema in (
      was.1,
      record {
        rows = was.2;
        read =
            subst (λ db. Reads (command_of (understood store_schema sql)) db params was.2) was.0
            (reads_as sql params mid new store_schema has _ refl c.requires.plain c.requires.tables was.2 shown);
        adds = was.4;
      },
    )

pub returns-in_err-text-clause-spares : goal.returns-in_err-text-clause-spares
returns-in_err-text-clause-spares g c =
    let moved = c.next.follows.holds-at-none in
    let now = c.next.follows.lender-at-none.conn.now in
    let same : now ≡ c.conn-in_err-text-1.given.0 = search rules in
    subst (λ h. Spares (state g.S.Store c.args.conn.now) (state g.S.Store h)) same
    (spares_then _ _ _ c.loop.invariant.1
    (quiet_spares (state g.S.Store c.loop.rows.conn.now) (state g.S.Store now) moved.survives
    (λ clean. inl (rw c.in_ok-row.was at (moved.same clean)))))

pub returns-in_err-insert-clause-spares : goal.returns-in_err-insert-clause-spares
returns-in_err-insert-clause-spares g c =
    let moved = c.next.follows.holds-at-none in
    let now = c.next.follows.lender-at-none.conn.now in
    let same : now ≡ c.conn-in_err-insert-1.given.0 = search rules in
    subst (λ h. Spares (state g.S.Store c.args.conn.now) (state g.S.Store h)) same
    (spares_then _ _ _ c.loop.invariant.1
    (quiet_spares (state g.S.Store c.loop.rows.conn.now) (state g.S.Store now) moved.survives
    (λ clean. inl (rw c.in_ok-row.was at (moved.same clean)))))

pub loop-preserved : goal.loop-preserved
loop-preserved g c =
    let moved = c.next.follows.holds-at-none in
    let now = c.next.follows.lender-at-none.conn.now in
    let so_far = c.loop.invariant in
    let old = state g.S.Store c.args.conn.now in
    let mid = state g.S.Store c.loop.rows.conn.now in
    let new = state g.S.Store now in
    let row = c.in-Some.row.now in
    let unchanged = λ (clean : HasCleanDisk new). rw c.in_ok-row.was at (moved.same clean) in
    let spares = spares_then old mid new so_far.1
    (quiet_spares mid new moved.survives (λ clean. inl (unchanged clean))) in (
      moved.same_reference ∙ so_far.0,
      spares,
      λ clean w stands.
          let was = so_far.2 (was_clean mid new moved.survives.clean clean) w stands in
          let given = (rw (c.in_ok-row.was, c.in-Some.is) at (moved.ok clean)) c.args.sql.now (bound c.args.params.now)
          was.2 was.3 in (
            (unchanged clean).0.now_is ∙ was.0,
            was.1,
            was.2 ++ row ∷ [],
            given,
            one_more was.2 row _ _ _ _ c.in_ok-text.ensures.ok.1 c.in_ok-insert.ensures.ok was.4,
          ),
    )

pub returns-clause-spares : goal.returns-clause-spares
returns-clause-spares g c =
    let same : c.loop.rows.conn.now ≡ c.conn-2-1.given.0 = search rules in
    subst (λ h. Spares (state g.S.Store c.args.conn.now) (state g.S.Store h)) same c.loop.invariant.1
