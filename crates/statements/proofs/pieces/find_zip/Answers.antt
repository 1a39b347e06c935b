use Rattle.std.proofs.Common.{◌≡◌, IsTrue, [], ◌∷◌, ◌++◌, List, ℕ, inl, refl, ap, subst, ◌∙◌, to_z, of_z, to_z-of_z}
use Rattle.std.proofs.Common.{w64, SFits, rules}
use Rattle.sqlite.specs.State.{HasCleanDisk}
use Rattle.sqlite.specs.Held.{state}
use Rattle.sqlite.specs.Listing.{understood}
use Rattle.sqlite.proofs.Callers.{IsPlain, given_begin, begun_plain}
use Rattle.tables.proofs.FailureLemmas.{was_clean, not_run, failed_query}
use Rattle.tables.proofs.WalkLemmas.{failed_or_same}
use Rattle.statements.specs.Calls.{Spares}
use Rattle.statements.proofs.CallLemmas.{spares_then, quiet_spares}
use Rattle.statements.proofs.ZipLemmas.{zip_text, zip_plain, zip_params, below_more, one_more_piece, whole_zip}
use Rattle.statements.proofs.ZipLemmas.{plain_then, asked_spares}
use Rattle.statements.proofs.pieces.find_zip.Goals as goal

pub returns-in_err-prepare-clause-spares : goal.returns-in_err-prepare-clause-spares
returns-in_err-prepare-clause-spares g c =
    spares_then _ _ _ c.find_room.ensures.spares
    (quiet_spares (state g.S.Store c.find_room.new.conn) (state g.S.Store c.prepare.new.self) c.prepare.ensures.survives
    (λ clean. not_run _ _ zip_text [] _ (c.in_err-prepare.ensures.err clean [])))

pub returns-in_err-rows-clause-spares : goal.returns-in_err-rows-clause-spares
returns-in_err-rows-clause-spares g c =
    let room = state g.S.Store c.find_room.new.conn in
    let mid = state g.S.Store c.prepare.new.self in
    let new = state g.S.Store c.query.follows.lender-at-none in
    let held = rw (c.in_err-rows.was, c.params-to_sql.ensures) at c.query.follows.holds-at-none in
    let params = zip_params (to_z w64 (of_z w64 c.args.id)) in
    let prepared = λ (clean : HasCleanDisk mid). (c.in_ok-prepare.ensures.ok clean).1 in
    let before = spares_then (state g.S.Store c.args.conn.now) room mid c.find_room.ensures.spares
    (quiet_spares room mid c.prepare.ensures.survives (λ clean. inl (prepared clean))) in
    spares_then _ mid new before
    (asked_spares zip_text params zip_plain mid new (λ clean. (prepared clean).0.is_open) held.survives
    (λ clean _. failed_query zip_text params mid new _ (held.err clean)))

pub loop-number-init : goal.loop-number-init
loop-number-init g c =
    let made = c.in_ok-rows.ensures in
    let old = state g.S.Store c.args.conn.now in
    let room = state g.S.Store c.find_room.new.conn in
    let mid = state g.S.Store c.prepare.new.self in
    let now = c.in_ok-rows.rows.conn.now in
    let new = state g.S.Store now in
    let params = zip_params (to_z w64 (of_z w64 c.args.id)) in
    let prepared = λ (clean : HasCleanDisk mid). (c.in_ok-prepare.ensures.ok clean).1 in
    let opened = λ (clean : HasCleanDisk mid). (prepared clean).0.is_open in
    let before = spares_then old room mid c.find_room.ensures.spares
    (quiet_spares room mid c.prepare.ensures.survives (λ clean. inl (prepared clean))) in
    let survives = rw c.params-to_sql.ensures at made.survives in
    let begun = λ (clean : HasCleanDisk new) (plain : IsPlain (understood mid.now.schema zip_text)). begun_plain
    g.S.Store zip_text params c.prepare.new.self now plain
    (rw c.params-to_sql.ensures at (made.begun clean)) in (
      refl,
      spares_then old mid new before
          (asked_spares zip_text params zip_plain mid new opened survives (λ clean plain. inl (begun clean plain).1)),
      λ clean w stands.
          let early = was_clean mid new survives.clean clean in
          let it = begun clean (plain_then zip_text params zip_plain mid new opened survives w (before.stays w stands)
          clean) in
          let first = c.in_ok-room.ensures.same (was_clean room mid c.prepare.ensures.survives.clean early) w stands in (
            it.1.0.now_is ∙ ((prepared early).0.now_is ∙ first),
            [],
            it.0,
            λ row none. absurd none,
            λ zip is.
                search rules,
          ),
    )

pub returns-in_err-row-clause-spares : goal.returns-in_err-row-clause-spares
returns-in_err-row-clause-spares g c =
    let moved = c.next.follows.holds-at-none in
    let now = c.next.follows.lender-at-none.conn.now in
    let same : now ≡ c.conn-in_err-row-1.given.0 = search rules in
    subst (λ h. Spares (state g.S.Store c.args.conn.now) (state g.S.Store h)) same
    (spares_then _ _ _ c.loop-number.invariant.1
    (quiet_spares (state g.S.Store c.loop-number.rows.conn.now) (state g.S.Store now) moved.survives
    (λ clean. failed_or_same _ _ _ (rw c.in_err-row.was at (moved.kept clean)))))

pub returns-in_default-clause-spares : goal.returns-in_default-clause-spares
returns-in_default-clause-spares g c =
    let moved = c.next.follows.holds-at-none in
    let now = c.next.follows.lender-at-none.conn.now in
    let same : now ≡ c.conn-in_default-1.given.0 = search rules in
    subst (λ h. Spares (state g.S.Store c.args.conn.now) (state g.S.Store h)) same
    (spares_then _ _ _ c.loop-number.invariant.1
    (quiet_spares (state g.S.Store c.loop-number.rows.conn.now) (state g.S.Store now) moved.survives
    (λ clean. inl (rw c.in_ok-row.was at (moved.same clean)))))

pub returns-in_default-clause-answer : goal.returns-in_default-clause-answer
returns-in_default-clause-answer g c clean w stands =
    let moved = c.next.follows.holds-at-none in
    let now = c.next.follows.lender-at-none.conn.now in
    let old = state g.S.Store c.args.conn.now in
    let mid = state g.S.Store c.loop-number.rows.conn.now in
    let new = state g.S.Store now in
    let range : SFits w64 c.args.id = search rules in
    let id = to_z-of_z {w = w64} {z = c.args.id} range in
    let late : HasCleanDisk new = search rules in
    let early = was_clean mid new moved.survives.clean late in
    let was = rw id at (c.loop-number.invariant.2 early w stands) in
    let unmoved = rw c.in_ok-row.was at (moved.same late) in
    let shown = (rw (c.in_ok-row.was, c.in_default.is) at (moved.ok late)) zip_text (zip_params c.args.id) was.1
    was.2 in
    let has = (c.loop-number.invariant.1.stays w stands early unmoved.0.was_open).schema in
    let same : now ≡ c.conn-in_default-1.given.0 = search rules in (
      subst (λ h. IsTrue (state g.S.Store h).is_open) same unmoved.0.is_open,
      λ zip is. c.new.ensures ∙ (was.4 zip is
          ∙ whole_zip c.args.id old mid new has was.0 was.1 c.loop-number.number zip shown was.3 is),
    )

pub returns-in_err-piece_in-clause-spares : goal.returns-in_err-piece_in-clause-spares
returns-in_err-piece_in-clause-spares g c =
    let moved = c.next.follows.holds-at-none in
    let now = c.next.follows.lender-at-none.conn.now in
    let same : now ≡ c.conn-in_err-piece_in-1.given.0 = search rules in
    subst (λ h. Spares (state g.S.Store c.args.conn.now) (state g.S.Store h)) same
    (spares_then _ _ _ c.loop-number.invariant.1
    (quiet_spares (state g.S.Store c.loop-number.rows.conn.now) (state g.S.Store now) moved.survives
    (λ clean. inl (rw c.in_ok-row.was at (moved.same clean)))))

pub returns-in_err-extend_from_slice-clause-spares : goal.returns-in_err-extend_from_slice-clause-spares
returns-in_err-extend_from_slice-clause-spares g c =
    let moved = c.next.follows.holds-at-none in
    let now = c.next.follows.lender-at-none.conn.now in
    let same : now ≡ c.conn-in_err-extend_from_slice-1.given.0 = search rules in
    subst (λ h. Spares (state g.S.Store c.args.conn.now) (state g.S.Store h)) same
    (spares_then _ _ _ c.loop-number.invariant.1
    (quiet_spares (state g.S.Store c.loop-number.rows.conn.now) (state g.S.Store now) moved.survives
    (λ clean. inl (rw c.in_ok-row.was at (moved.same clean)))))

pub loop-number-preserved : goal.loop-number-preserved
loop-number-preserved g c =
    let moved = c.next.follows.holds-at-none in
    let now = c.next.follows.lender-at-none.conn.now in
    let so_far = c.loop-number.invariant in
    let old = state g.S.Store c.args.conn.now in
    let mid = state g.S.Store c.loop-number.rows.conn.now in
    let new = state g.S.Store now in
    let n = c.loop-number.number in
    let id = to_z w64 (of_z w64 c.args.id) in
    let row = c.in-Some.row.now in
    let bytes = c.in_ok-piece_in.field-0.now in
    let unchanged = λ (clean : HasCleanDisk new). rw c.in_ok-row.was at (moved.same clean) in
    let spares = spares_then old mid new so_far.1
    (quiet_spares mid new moved.survives (λ clean. inl (unchanged clean))) in (
      moved.same_reference ∙ so_far.0,
      spares,
      λ clean w stands.
          let was = so_far.2 (was_clean mid new moved.survives.clean clean) w stands in
          let same = (unchanged clean).0.now_is ∙ was.0 in
          let has = (spares.stays w stands clean (unchanged clean).0.is_open).schema in
          let given = (rw (c.in_ok-row.was, c.in-Some.is) at (moved.ok clean)) zip_text (zip_params id) was.1 was.2 in
          let shows = c.in_ok-piece_in.ensures in (
            same,
            was.1 ++ row ∷ [],
            given,
            below_more was.1 row n was.3 shows.0,
            λ zip is.
                c.in_ok-extend_from_slice.ensures.items ∙ (ap (λ (l : List ℕ). l ++ bytes) (was.4 zip is)
                ∙ one_more_piece id old new new has same was.1 row n bytes zip
                (given_begin g.S.Store zip_text (zip_params id) now (was.1 ++ row ∷ []) given) shows is),
          ),
    )

pub returns-clause-spares : goal.returns-clause-spares
returns-clause-spares g c =
    let same : c.loop-number.rows.conn.now ≡ c.conn-2-1.given.0 = search rules in
    subst (λ h. Spares (state g.S.Store c.args.conn.now) (state g.S.Store h)) same c.loop-number.invariant.1
