use Rattle.setup.proofs.PutLemmas.{puts_if}
use Rattle.setup.proofs.write.put_listed.Goals as goal

pub returns-in-None-clause-puts : goal.returns-in-None-clause-puts
returns-in-None-clause-puts g c =
    rw (← c.as_str.ensures, c.in-None.is)
    (let put = c.put_shelf.ensures in puts_if c.put_shelf.result _ _ _ _ put.goes_on put.puts)

pub returns-in-Some-clause-puts : goal.returns-in-Some-clause-puts
returns-in-Some-clause-puts g c =
    let put = c.put_shelf-in-Some.ensures in
    rw (← c.as_str-in-Some.ensures, c.in-Some.is, ← c.as_str-in-Some-2.ensures)
    (puts_if c.put_shelf-in-Some.result _ _ _ _ put.goes_on put.puts)
