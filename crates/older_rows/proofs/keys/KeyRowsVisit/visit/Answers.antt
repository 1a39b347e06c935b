use Rattle.older_rows.proofs.keys.KeyRowsVisit.visit.Goals as goal

pub returns-clause-puts : goal.returns-clause-puts
returns-clause-puts g c clean filling done =
    let good = c.in_ok-shows_key.ensures c.if-not-branch.false in
    let put = c.in_ok-put.ensures.puts clean (good.0, good.1) filling in
    ((good, put.0), put.1)
