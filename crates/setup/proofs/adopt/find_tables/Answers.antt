use Rattle.sqlite.specs.Held.{state}
use Rattle.setup.proofs.OpenLemmas.{tables_found, device_reason}
use Rattle.setup.proofs.adopt.find_tables.Goals as goal

pub returns-in-Ok-true-clause-opens : goal.returns-in-Ok-true-clause-opens
returns-in-Ok-true-clause-opens g c clean settled =
    let it = c.in-Ok-true.ensures.found clean c.in-Ok-true.field-0-test in
    tables_found (state g.S.Store c.args.conn.now) (state g.S.Store c.stand_for_world.new.conn)
    (λ db shown may. g.met.S.Store.settled c.stand_for_world.new.conn.store db shown may) settled clean it.0 it.1

pub returns-in-Err-clause-device : goal.returns-in-Err-clause-device
returns-in-Err-clause-device g c clean =
    device_reason (state g.S.Store c.args.conn.now) (state g.S.Store c.stand_for_world.new.conn) c.in-Err.error
    c.open_refusal.result c.open_refusal.ensures.memory (c.in-Err.ensures.cause clean)
