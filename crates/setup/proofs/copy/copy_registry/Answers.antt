use Rattle.sqlite.specs.Held.{state}
use Rattle.tables.proofs.FailureLemmas.{was_clean}
use Rattle.statements.proofs.ExtractLemmas.{read_spares, stands_ready}
use Rattle.setup.proofs.PutLemmas.{registry_written, spares_when, when_done}
use Rattle.setup.proofs.copy.copy_registry.Goals as goal

pub returns-clause-reads : goal.returns-clause-reads
returns-clause-reads g c =
    let mid = state g.S.Store c.find_shelves.new.conn in
    let rows = c.write_registry.ensures.rows in
    spares_when (state g.S.Store c.args.source.now) mid (state g.S.Store c.write_registry.new.source)
    c.find_shelves.ensures.spares rows.clean
    (λ w stands. read_spares _ _ _ rows.clean
    (rows.reads (stands_ready mid w (λ clean. (c.in_ok-shelves.ensures.answer clean w stands).0)
    (c.find_shelves.ensures.spares.stays w stands))))

pub returns-clause-copies : goal.returns-clause-copies
returns-clause-copies g c clean good w stands writing =
    let mid = state g.S.Store c.find_shelves.new.conn in
    let end = state g.S.Store c.write_registry.new.source in
    let fills = c.write_registry.ensures.fills in
    let still = c.find_shelves.ensures.spares.stays w stands.0 in
    let found = c.in_ok-shelves.ensures.answer (was_clean mid end fills.clean clean) w stands.0 in
    let ready = stands_ready mid w (λ early. (c.in_ok-shelves.ensures.answer early w stands.0).0) still in
    when_done c.write_registry.result (λ whole.
    registry_written mid end (state g.F.Store c.args.tx.now.conn.now) (state g.F.Store c.write_registry.new.tx.conn.now)
    _ w _ fills ready clean good still stands.1 found.1 whole writing)
