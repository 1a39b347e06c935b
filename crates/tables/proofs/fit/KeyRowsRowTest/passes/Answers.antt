use Rattle.tables.proofs.RowFits.{no_key}
use Rattle.tables.proofs.fit.KeyRowsRowTest.passes.Goals as goal

pub returns-in_default-clause-verdict : goal.returns-in_default-clause-verdict
returns-in_default-clause-verdict c fits =
    no_key c.args.row.now (rw c.in_default.is at c.in_ok-key.ensures.found) fits.0
