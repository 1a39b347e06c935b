use Rattle.std.proofs.Common.{sym, ◌∙◌}
use Rattle.sqlite.specs.Held.{state}
use Rattle.tables.proofs.StandLemmas.{found_some, found_none}
use Rattle.tables.proofs.fit.stand_for_world.Goals as goal

pub returns-clause-found : goal.returns-clause-found
returns-clause-found g c clean =
    let has = sym c.schema.ensures.value ∙ c.is_store_schema.ensures.0 c.if-not-is_store_schema.false in
    found_some (state g.S.Store c.args.conn.now) (state g.S.Store c.are_fit.new.conn) has clean c.are_fit.result
    c.schema.ensures.live c.are_fit.ensures.tests

pub returns-clause-none : goal.returns-clause-none
returns-clause-none g c clean =
    let has = sym c.schema.ensures.value ∙ c.is_store_schema.ensures.0 c.if-not-is_store_schema.false in
    found_none (state g.S.Store c.args.conn.now) (state g.S.Store c.are_fit.new.conn) has clean c.are_fit.result
    c.schema.ensures.live c.are_fit.ensures.tests
