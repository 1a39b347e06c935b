use Rattle.std.proofs.Common.{refl}
use Rattle.sqlite.specs.Held.{state}
use Rattle.std.specs.Cmp.{int_cmp_total}
use Rattle.std.specs.FinMap.{int_cmp-IsAntisymmetric}
use Rattle.tables.specs.Fit.{IsNumberRow, number_in}
use Rattle.tables.specs.declared.fit.NumberRows.{NumberRows}
use Rattle.tables.proofs.ListingLemmas.{number_rows}
use Rattle.tables.proofs.FitTests.{once_tests, ints_in_order}
use Rattle.tables.proofs.WalkCauses.{walkable, walk_reason}
use Rattle.tables.proofs.fit.are_numbers_fit.Goals as goal

pub rows_pass-requires : goal.rows_pass-requires
rows_pass-requires g c =
    record { plain = number_rows.plain; tables = number_rows.unlisted; walkable = walkable number_rows }

pub returns-clause-tests : goal.returns-clause-tests
returns-clause-tests g c =
    once_tests int_cmp_total int_cmp-IsAntisymmetric IsNumberRow number_in (λ (x : NumberRows). x.last) ints_in_order
    number_rows (state g.S.Store c.args.conn.now)
    (state g.S.Store c.rows_pass.new.conn) c.rows_pass.result _ c.rows_pass.new.test refl c.rows_pass.ensures.looks
    c.rows_pass.ensures.same c.rows_pass.ensures.answer

pub returns-clause-cause : goal.returns-clause-cause
returns-clause-cause g c clean has =
    let old = state g.S.Store c.args.conn.now in
    walk_reason number_rows old (state g.S.Store c.rows_pass.new.conn) c.rows_pass.result has
    (c.rows_pass.ensures.cause clean has)
