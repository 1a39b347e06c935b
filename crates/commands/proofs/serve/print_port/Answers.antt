use Rattle.std.specs.Prelude.{◌++◌, codes, decimal}
use Rattle.std.proofs.lemmas.Result.{err_from_is_err_and}
use Rattle.commands.proofs.Printed.{front_of_both, prints_after}
use Rattle.commands.proofs.serve.print_port.Goals as goal

pub returns-clause-prints : goal.returns-clause-prints
returns-clause-prints g c =
    let digits = rw (c.as_bytes.ensures.value, c.format.ensures.text) at c.print_both.ensures.prints in
    prints_after _ _ _ _ _ _ c.in_ok-write_bytes.ensures.bytes digits

pub returns-in_err-write_bytes-clause-prints : goal.returns-in_err-write_bytes-clause-prints
returns-in_err-write_bytes-clause-prints g c =
    let wrote = c.in_err-write_bytes.ensures.bytes in
    let returned = err_from_is_err_and c.from_residual.result c.from_residual.ensures.1 in
    rw (returned.1, returned.2)
    (wrote.0, front_of_both _ _ (codes "listening on 127.0.0.1:") (decimal c.args.port ++ codes "\n") wrote.1)
