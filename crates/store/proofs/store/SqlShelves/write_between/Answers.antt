use Rattle.std.proofs.Common.{◌≡◌, IsTrue, true, false, refl, subst, rules}
use Rattle.sqlite.specs.Held.{state}
use Rattle.sqlite.specs.State.{HasCleanDisk}
use Rattle.interleave.proofs.MeanwhileLemmas.{as_it_was}
use Rattle.world.specs.World.{only_common}
use Rattle.tables.specs.Means.{Stands}
use Rattle.tables.proofs.FailureLemmas.{was_clean}
use Rattle.statements.specs.Calls.{ChangesAt}
use Rattle.statements.proofs.TransactionEnds.{begins_writing, ended_by, failed_by}
use Rattle.store.specs.Between.{is_whole}
use Rattle.store.proofs.store.SqlShelves.write_between.Goals as goal

pub returns-then-not-is_autocommit-clause-went : goal.returns-then-not-is_autocommit-clause-went
returns-then-not-is_autocommit-clause-went g c = g.met.B.Between.rests _ _ _ (as_it_was _)

pub returns-in-Ok-clause-changes : goal.returns-in-Ok-clause-changes
returns-in-Ok-clause-changes g c =
    let same : c.commit_if.new.tx.0 ≡ c.fresh-1.given.0 = search rules in
    λ clean opened w stands.
    let h = c.args.fresh.now in
    let start = state g.F.Store (record h { in_transaction = true }) in
    let written = c.fill_between-written.result in
    let last = state g.F.Store c.fill_between-written.new.tx.conn.now in
    let end = c.commit_if.new.tx.0 in
    let fills = rw c.transaction-tx.ensures.begun at c.fill_between-written.ensures in
    let quiet = fills.goes_on.survives in
    let made = λ (late : HasCleanDisk last) (blank : Stands (state g.F.Store h) only_common)
    (all : IsTrue (is_whole written)).
    fills.copies clean late w stands
    (begins_writing g.F.Store h last (state g.F.Store end) only_common w opened
    (was_clean start last quiet.clean late) blank) all in
    let ends = rw c.is_all.ensures at c.in-Ok.ensures in
    let done : ChangesAt (state g.F.Store h) (state g.F.Store end) (is_whole written) only_common w =
    ended_by g.F.Store h last (state g.F.Store end) only_common w opened (g.met.F.Store.settled h.store) quiet
    (is_whole written) ends.undone ends.whole_survives ends.unfinished_is_lost
    (λ late. fills.goes_on.commit late refl) made
    ends.committed (λ db shown may. g.met.F.Store.settled end.store db shown may) in
    subst (λ x. ChangesAt (state g.F.Store h) (state g.F.Store x) (is_whole written) only_common w) same done

pub returns-in-Err-clause-changes : goal.returns-in-Err-clause-changes
returns-in-Err-clause-changes g c =
    let same : c.commit_if.new.tx.0 ≡ c.fresh-1.given.0 = search rules in
    λ clean opened w stands.
    let h = c.args.fresh.now in
    let start = state g.F.Store (record h { in_transaction = true }) in
    let written = c.fill_between-written.result in
    let last = state g.F.Store c.fill_between-written.new.tx.conn.now in
    let end = c.commit_if.new.tx.0 in
    let fills = rw c.transaction-tx.ensures.begun at c.fill_between-written.ensures in
    let quiet = fills.goes_on.survives in
    let made = λ (late : HasCleanDisk last) (blank : Stands (state g.F.Store h) only_common)
    (all : IsTrue (is_whole written)).
    fills.copies clean late w stands
    (begins_writing g.F.Store h last (state g.F.Store end) only_common w opened
    (was_clean start last quiet.clean late) blank) all in
    let ends = rw c.is_all.ensures at c.in-Err.ensures in
    let done : ChangesAt (state g.F.Store h) (state g.F.Store end) false only_common w =
    failed_by g.F.Store h last (state g.F.Store end) only_common w opened (g.met.F.Store.settled h.store) quiet
    (is_whole written) ends.undone ends.whole_survives ends.unfinished_is_lost
    (λ late. fills.goes_on.commit late refl) made
    _ ends.failed in
    subst (λ x. ChangesAt (state g.F.Store h) (state g.F.Store x) false only_common w) same done
