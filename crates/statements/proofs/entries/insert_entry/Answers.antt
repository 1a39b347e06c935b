use Rattle.std.proofs.Common.{◌≡◌, true, false, refl, sym, subst, IsTrue, is_ok, rules}
use Rattle.sqlite.specs.Held.{state}
use Rattle.sqlite.specs.State.{HasCleanDisk}
use Rattle.world.specs.declared.entry.Place.{Place}
use Rattle.world.specs.declared.entry.Entry.{Entry}
use Rattle.world.specs.World.{with_entry}
use Rattle.tables.specs.Means.{Stands}
use Rattle.tables.proofs.FailureLemmas.{was_clean}
use Rattle.statements.specs.Calls.{ChangesAt}
use Rattle.statements.proofs.ChangeLemmas.{not_ok, when_ok}
use Rattle.statements.proofs.TransactionEnds.{begins_writing, ended_by, failed_by, entry_written}
use Rattle.statements.proofs.entries.insert_entry.Goals as goal

pub returns-clause-changes : goal.returns-clause-changes
returns-clause-changes g c opened w unused =
    let h = c.args.conn.now in
    let p : Place = record { shelf = c.args.shelf.now; path = c.args.path.now; version = c.args.version.now } in
    let e : Entry = c.args.entry.now in
    let next = with_entry w p e in
    let start = state g.S.Store (record h { in_transaction = true }) in
    let written = c.put_entry-written.result in
    let last = state g.S.Store c.put_entry-written.new.tx.conn.now in
    let end = c.commit_if.new.tx.0 in
    let begun = c.transaction-tx.ensures.begun in
    let goes_on = rw begun at c.put_entry-written.ensures.goes_on in
    let add = rw begun at c.put_entry-written.ensures.added in
    let made = λ (late : HasCleanDisk last) (stands : Stands (state g.S.Store h) w) (whole : IsTrue (is_ok written)).
    entry_written c.args.number start last w p e unused
    (begins_writing g.S.Store h last (state g.S.Store end) w next opened
    (was_clean start last goes_on.survives.clean late) stands)
    (λ filling. when_ok written whole (add late filling)) in
    let ends = rw c.is_ok.ensures.value at c.in_ok-commit_if.ensures in
    let done : ChangesAt (state g.S.Store h) (state g.S.Store end) (is_ok written) w next =
    ended_by g.S.Store h last (state g.S.Store end) w next opened (g.met.S.Store.settled h.store) goes_on.survives
    (is_ok written) ends.undone ends.whole_survives ends.unfinished_is_lost
    (λ clean. goes_on.commit clean refl) made
    ends.committed (λ db shown may. g.met.S.Store.settled end.store db shown may) in
    let same : end ≡ c.conn-1.given.0 = search rules in
    subst (λ x. ChangesAt (state g.S.Store h) (state g.S.Store x) (is_ok written) w next) same done

pub returns-in_err-commit_if-clause-changes : goal.returns-in_err-commit_if-clause-changes
returns-in_err-commit_if-clause-changes g c opened w unused =
    let h = c.args.conn.now in
    let p : Place = record { shelf = c.args.shelf.now; path = c.args.path.now; version = c.args.version.now } in
    let e : Entry = c.args.entry.now in
    let next = with_entry w p e in
    let start = state g.S.Store (record h { in_transaction = true }) in
    let written = c.put_entry-written.result in
    let last = state g.S.Store c.put_entry-written.new.tx.conn.now in
    let end = c.commit_if.new.tx.0 in
    let begun = c.transaction-tx.ensures.begun in
    let goes_on = rw begun at c.put_entry-written.ensures.goes_on in
    let add = rw begun at c.put_entry-written.ensures.added in
    let made = λ (late : HasCleanDisk last) (stands : Stands (state g.S.Store h) w) (whole : IsTrue (is_ok written)).
    entry_written c.args.number start last w p e unused
    (begins_writing g.S.Store h last (state g.S.Store end) w next opened
    (was_clean start last goes_on.survives.clean late) stands)
    (λ filling. when_ok written whole (add late filling)) in
    let ends = rw c.is_ok.ensures.value at c.in_err-commit_if.ensures in
    let done : ChangesAt (state g.S.Store h) (state g.S.Store end) false w next =
    failed_by g.S.Store h last (state g.S.Store end) w next opened (g.met.S.Store.settled h.store) goes_on.survives
    (is_ok written) ends.undone ends.whole_survives ends.unfinished_is_lost
    (λ clean. goes_on.commit clean refl) made
    _ ends.failed in
    let same : end ≡ c.conn-1.given.0 = search rules in
    subst (λ b. ChangesAt (state g.S.Store h) (state g.S.Store c.conn-1.given.0) b w next)
    (sym (not_ok c.from_residual.result c.from_residual.ensures.0))
    (subst (λ x. ChangesAt (state g.S.Store h) (state g.S.Store x) false w next) same done)
