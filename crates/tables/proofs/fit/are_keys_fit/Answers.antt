use Rattle.std.proofs.Common.{refl}
use Rattle.sqlite.specs.Held.{state}
use Rattle.world.proofs.Orders.{texts_total, texts_exact}
use Rattle.tables.specs.Fit.{IsKeyRow, key_in}
use Rattle.tables.specs.declared.fit.KeyRows.{KeyRows}
use Rattle.tables.proofs.ListingLemmas.{key_rows}
use Rattle.tables.proofs.FitTests.{once_tests, texts_in_order}
use Rattle.tables.proofs.WalkCauses.{walkable, walk_reason}
use Rattle.tables.proofs.fit.are_keys_fit.Goals as goal

pub rows_pass-requires : goal.rows_pass-requires
rows_pass-requires g c = record { plain = key_rows.plain; tables = key_rows.unlisted; walkable = walkable key_rows }

pub returns-clause-tests : goal.returns-clause-tests
returns-clause-tests g c =
    once_tests texts_total texts_exact IsKeyRow key_in (λ (x : KeyRows). x.last) texts_in_order key_rows
    (state g.S.Store c.args.conn.now)
    (state g.S.Store c.rows_pass.new.conn) c.rows_pass.result _ c.rows_pass.new.test refl c.rows_pass.ensures.looks
    c.rows_pass.ensures.same c.rows_pass.ensures.answer

pub returns-clause-cause : goal.returns-clause-cause
returns-clause-cause g c clean has =
    let old = state g.S.Store c.args.conn.now in
    walk_reason key_rows old (state g.S.Store c.rows_pass.new.conn) c.rows_pass.result has
    (c.rows_pass.ensures.cause clean has)
