use Rattle.tables.proofs.RowFits.{no_shelf, no_parent}
use Rattle.tables.proofs.fit.ShelfRowsRowTest.passes.Goals as goal

pub returns-in_default-clause-verdict : goal.returns-in_default-clause-verdict
returns-in_default-clause-verdict c fits =
    no_shelf c.args.row.now (rw c.in_default.is at c.in_ok-name.ensures.found) fits.0

pub returns-in_default-2-clause-verdict : goal.returns-in_default-2-clause-verdict
returns-in_default-2-clause-verdict c fits =
    no_parent c.args.row.now (rw c.in_default-2.is at c.in_ok-parent.ensures.found) fits.0
