use Rattle.std.proofs.Common.{false, Err, refl}
use Rattle.sqlite.specs.Held.{state}
use Rattle.tables.specs.declared.fit.MetaRows.{MetaRows}
use Rattle.tables.proofs.ListingLemmas.{meta_rows}
use Rattle.tables.proofs.FitTests.{answered, refused, meta_true, meta_false}
use Rattle.tables.proofs.WalkCauses.{walkable, walk_reason, error_says}
use Rattle.tables.proofs.fit.is_meta_fit.Goals as goal

abbrev start : MetaRows
start = record { has_row = false }

pub rows_pass-requires : goal.rows_pass-requires
rows_pass-requires g c = record { plain = meta_rows.plain; tables = meta_rows.unlisted; walkable = walkable meta_rows }

pub returns-then-not-branch-clause-tests : goal.returns-then-not-branch-clause-tests
returns-then-not-branch-clause-tests g c =
    let old = state g.S.Store c.args.conn.now in
    answered old (state g.S.Store c.rows_pass.new.conn) false _ c.rows_pass.ensures.looks c.in_ok-rows_pass.ensures.same
    (λ clean has. refused (meta_false old.now start c.rows_pass.new.test
    (rw c.if-not-branch.true at (c.in_ok-rows_pass.ensures.answer clean has))))

pub returns-clause-tests : goal.returns-clause-tests
returns-clause-tests g c =
    let old = state g.S.Store c.args.conn.now in
    answered old (state g.S.Store c.rows_pass.new.conn) c.rows_pass.new.test.has_row _ c.rows_pass.ensures.looks
    c.in_ok-rows_pass.ensures.same
    (λ clean has. meta_true old.now start c.rows_pass.new.test refl
    (rw c.if-not-branch.false at (c.in_ok-rows_pass.ensures.answer clean has)))

pub returns-in_err-rows_pass-clause-cause : goal.returns-in_err-rows_pass-clause-cause
returns-in_err-rows_pass-clause-cause g c clean has =
    let old = state g.S.Store c.args.conn.now in
    error_says _ c.from_residual.result c.in_err-rows_pass.field-0.0 c.from_residual.ensures.1
    (walk_reason meta_rows old (state g.S.Store c.rows_pass.new.conn) (Err _) has
    (c.in_err-rows_pass.ensures.cause clean has))
