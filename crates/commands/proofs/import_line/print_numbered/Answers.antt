use Rattle.std.specs.Prelude.{◌++◌, codes, decimal}
use Rattle.std.proofs.lemmas.Result.{err_from_is_err_and}
use Rattle.commands.proofs.Printed.{front_of_both, prints_after}
use Rattle.commands.proofs.import_line.print_numbered.Goals as goal

pub returns-clause-prints : goal.returns-clause-prints
returns-clause-prints g c =
    let digits = rw (c.as_bytes.ensures.value, c.format.ensures.text) at c.in_ok-write_both.ensures.bytes in
    prints_after _ _ _ _ _ _ digits c.print_both.ensures.prints

pub returns-in_err-write_both-clause-prints : goal.returns-in_err-write_both-clause-prints
returns-in_err-write_both-clause-prints g c =
    let digits = rw (c.as_bytes.ensures.value, c.format.ensures.text) at c.in_err-write_both.ensures.bytes in
    let returned = err_from_is_err_and c.from_residual.result c.from_residual.ensures.1 in
    rw (returned.1, returned.2)
    (digits.0, front_of_both _ _ (decimal c.args.number ++ codes " ") (c.args.text.now ++ codes "\n") digits.1)
