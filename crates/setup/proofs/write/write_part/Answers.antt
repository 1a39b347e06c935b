use Rattle.std.proofs.Common.{◌≡◌, ◌∷◌, true, false, refl, subst, IsTrue, is_ok, rules}
use Rattle.sqlite.specs.Held.{state}
use Rattle.sqlite.specs.State.{HasCleanDisk}
use Rattle.world.specs.World.{common, only_common}
use Rattle.tables.specs.Means.{Stands}
use Rattle.tables.proofs.FailureLemmas.{was_clean}
use Rattle.statements.specs.Calls.{ChangesAt}
use Rattle.statements.proofs.ExtractLemmas.{read_spares}
use Rattle.statements.specs.Shelves.{names_of}
use Rattle.setup.specs.Parts.{part_of}
use Rattle.setup.proofs.PutLemmas.{part_written}
use Rattle.statements.proofs.TransactionEnds.{begins_writing, ended_by, failed_by}
use Rattle.setup.proofs.write.write_part.Goals as goal

pub returns-in-Ok-clause-reads : goal.returns-in-Ok-clause-reads
returns-in-Ok-clause-reads g c ready =
    read_spares _ _ _ c.fill-written.ensures.fills.clean (c.fill-written.ensures.fills.reads ready)

pub returns-in-Err-clause-reads : goal.returns-in-Err-clause-reads
returns-in-Err-clause-reads g c ready =
    read_spares _ _ _ c.fill-written.ensures.fills.clean (c.fill-written.ensures.fills.reads ready)

pub returns-in-Ok-clause-changes : goal.returns-in-Ok-clause-changes
returns-in-Ok-clause-changes g c =
    let same : c.commit_if.new.tx.0 ≡ c.fresh-1.given.0 = search rules in
    λ ready opened clean w stands is are.
    let h = c.args.fresh.now in
    let start = state g.F.Store (record h { in_transaction = true }) in
    let source = state g.S.Store c.args.source.now in
    let read = state g.S.Store c.fill-written.new.source in
    let written = c.fill-written.result in
    let last = state g.F.Store c.fill-written.new.tx.conn.now in
    let end = c.commit_if.new.tx.0 in
    let next = part_of w (common ∷ names_of c.args.shelves.now) in
    let fills = rw c.transaction-tx.ensures.begun at c.fill-written.ensures.fills in
    let quiet = fills.goes_on.survives in
    let made = λ (late : HasCleanDisk last) (blank : Stands (state g.F.Store h) only_common)
    (whole : IsTrue (is_ok written)).
    part_written source read start last (is_ok written) w c.args.shelves.now fills ready clean late stands is are whole
    (begins_writing g.F.Store h last (state g.F.Store end) only_common next opened
    (was_clean start last quiet.clean late) blank) in
    let ends = rw c.is_ok.ensures.value at c.in-Ok.ensures in
    let done : ChangesAt (state g.F.Store h) (state g.F.Store end) (is_ok written) only_common next =
    ended_by g.F.Store h last (state g.F.Store end) only_common next opened (g.met.F.Store.settled h.store) quiet
    (is_ok written) ends.undone ends.whole_survives ends.unfinished_is_lost
    (λ late. fills.goes_on.commit late refl) made
    ends.committed (λ db shown may. g.met.F.Store.settled end.store db shown may) in
    subst (λ x. ChangesAt (state g.F.Store h) (state g.F.Store x) (is_ok written) only_common next) same done

pub returns-in-Err-clause-changes : goal.returns-in-Err-clause-changes
returns-in-Err-clause-changes g c =
    let same : c.commit_if.new.tx.0 ≡ c.fresh-1.given.0 = search rules in
    λ ready opened clean w stands is are.
    let h = c.args.fresh.now in
    let start = state g.F.Store (record h { in_transaction = true }) in
    let source = state g.S.Store c.args.source.now in
    let read = state g.S.Store c.fill-written.new.source in
    let written = c.fill-written.result in
    let last = state g.F.Store c.fill-written.new.tx.conn.now in
    let end = c.commit_if.new.tx.0 in
    let next = part_of w (common ∷ names_of c.args.shelves.now) in
    let fills = rw c.transaction-tx.ensures.begun at c.fill-written.ensures.fills in
    let quiet = fills.goes_on.survives in
    let made = λ (late : HasCleanDisk last) (blank : Stands (state g.F.Store h) only_common)
    (whole : IsTrue (is_ok written)).
    part_written source read start last (is_ok written) w c.args.shelves.now fills ready clean late stands is are whole
    (begins_writing g.F.Store h last (state g.F.Store end) only_common next opened
    (was_clean start last quiet.clean late) blank) in
    let ends = rw c.is_ok.ensures.value at c.in-Err.ensures in
    let done : ChangesAt (state g.F.Store h) (state g.F.Store end) false only_common next =
    failed_by g.F.Store h last (state g.F.Store end) only_common next opened (g.met.F.Store.settled h.store) quiet
    (is_ok written) ends.undone ends.whole_survives ends.unfinished_is_lost
    (λ late. fills.goes_on.commit late refl) made
    _ ends.failed in
    subst (λ x. ChangesAt (state g.F.Store h) (state g.F.Store x) false only_common next) same done
