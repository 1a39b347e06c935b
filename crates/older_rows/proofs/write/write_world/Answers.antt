use Rattle.std.proofs.Common.{◌≡◌, true, false, refl, sym, subst, true≢false, rules}
use Rattle.sqlite.specs.Held.{state}
use Rattle.world.specs.World.{only_common}
use Rattle.statements.proofs.TransactionEnds.{ended_by, failed_by}
use Rattle.older_rows.specs.Filled.{Migrates}
use Rattle.older_rows.specs.Visits.{is_done}
use Rattle.older_rows.proofs.WalkLemmas.{read_not_done}
use Rattle.older_rows.proofs.WriteLemmas.{migrates}
use Rattle.older_rows.proofs.write.write_world.Goals as goal

pub returns-in-Ok-clause-migrates : goal.returns-in-Ok-clause-migrates
returns-in-Ok-clause-migrates g c =
    let same : c.commit_if.new.tx.0 ≡ c.fresh-1.given.0 = search rules in
    let h = c.args.fresh.now in
    let start = state g.F.Store (record h { in_transaction = true }) in
    let old = state g.S.Store c.args.source.now in
    let read = state g.S.Store c.fill-filled.new.source in
    let last = state g.F.Store c.fill-filled.new.tx.conn.now in
    let end = c.commit_if.new.tx.0 in
    let done = is_done c.fill-filled.result in
    let fills = rw c.transaction-tx.ensures.begun at c.fill-filled.ensures.moves in
    let quiet = fills.goes_on.survives in
    let ends = rw c.is_whole.ensures.value at c.in-Ok.ensures in
    let all : Migrates c.args.format old read (state g.F.Store h) (state g.F.Store end) done =
    migrates g.F.Store h c.args.format old read last (state g.F.Store end) done fills ends.whole_survives
    ends.unfinished_is_lost done (λ all. all) (λ r. r)
    (λ next opened made. ended_by g.F.Store h last (state g.F.Store end) only_common next opened
    (g.met.F.Store.settled h.store) quiet done ends.undone ends.whole_survives ends.unfinished_is_lost
    (λ late. fills.goes_on.commit late refl) made
    ends.committed (λ db shown may. g.met.F.Store.settled end.store db shown may)) in
    subst (λ x. Migrates c.args.format old read (state g.F.Store h) (state g.F.Store x) done) same all

pub returns-in-Err-clause-migrates : goal.returns-in-Err-clause-migrates
returns-in-Err-clause-migrates g c =
    let same : c.commit_if.new.tx.0 ≡ c.fresh-1.given.0 = search rules in
    let h = c.args.fresh.now in
    let start = state g.F.Store (record h { in_transaction = true }) in
    let old = state g.S.Store c.args.source.now in
    let read = state g.S.Store c.fill-filled.new.source in
    let last = state g.F.Store c.fill-filled.new.tx.conn.now in
    let end = c.commit_if.new.tx.0 in
    let done = is_done c.fill-filled.result in
    let fills = rw c.transaction-tx.ensures.begun at c.fill-filled.ensures.moves in
    let quiet = fills.goes_on.survives in
    let ends = rw c.is_whole.ensures.value at c.in-Err.ensures in
    let all : Migrates c.args.format old read (state g.F.Store h) (state g.F.Store end) false =
    migrates g.F.Store h c.args.format old read last (state g.F.Store end) done fills ends.whole_survives
    ends.unfinished_is_lost false
    (λ all. absurd (true≢false (sym all))) (read_not_done old read done)
    (λ next opened made. failed_by g.F.Store h last (state g.F.Store end) only_common next opened
    (g.met.F.Store.settled h.store) quiet done ends.undone ends.whole_survives ends.unfinished_is_lost
    (λ late. fills.goes_on.commit late refl) made
    _ ends.failed) in
    subst (λ x. Migrates c.args.format old read (state g.F.Store h) (state g.F.Store x) false) same all
