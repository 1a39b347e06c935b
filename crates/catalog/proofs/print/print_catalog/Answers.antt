use Rattle.catalog.proofs.Printed.{cut_plain, fails_plain, whole_plain}
use Rattle.catalog.proofs.print.print_catalog.Goals as goal

pub returns-in-Ok-clause-prints : goal.returns-in-Ok-clause-prints
returns-in-Ok-clause-prints g c =
    whole_plain _ _ c.args.key.now _ _ c.in-Ok.ensures.went c.in-Ok.has_key c.in-Ok.ensures.prints

pub returns-in-Err-PrintError-clause-prints : goal.returns-in-Err-PrintError-clause-prints
returns-in-Err-PrintError-clause-prints g c =
    cut_plain _ _ c.args.key.now _ _ c.in-Err-PrintError.ensures.went c.in-Err-PrintError.why
    (rw c.in-Err-PrintError.field-0-is at c.in-Err-PrintError.ensures.prints)

pub returns-in-Err-PrintError-clause-fails : goal.returns-in-Err-PrintError-clause-fails
returns-in-Err-PrintError-clause-fails g c =
    fails_plain _ _ c.in-Err-PrintError.why
    (rw c.in-Err-PrintError.field-0-is at c.in-Err-PrintError.ensures.fails)
