use Rattle.std.proofs.Common.{true, false, is_ok}
use Rattle.setup.specs.Parts.{MakesPart}
use Rattle.statements.proofs.ExtractLemmas.{copies_then, copies_weaker, failed_copies}
use Rattle.setup.proofs.FilledLemmas.{makes_part}
use Rattle.setup.proofs.write.fill.Goals as goal

pub returns-in_err-write_registry-clause-fills : goal.returns-in_err-write_registry-clause-fills
returns-in_err-write_registry-clause-fills g c =
    failed_copies c.from_residual.result _ (MakesPart c.args.shelves.now) _ _ _ _ c.from_residual.ensures.0
    c.in_err-write_registry.ensures.rows

pub returns-in_err-copy_along-clause-fills : goal.returns-in_err-copy_along-clause-fills
returns-in_err-copy_along-clause-fills g c =
    failed_copies c.from_residual-in_err-copy_along.result _ (MakesPart c.args.shelves.now) _ _ _ _
    c.from_residual-in_err-copy_along.ensures.0
    (copies_then _ _ _ _ _ _ _ _ false c.in_ok-write_registry.ensures.rows c.in_err-copy_along.ensures.copies)

pub returns-clause-fills : goal.returns-clause-fills
returns-clause-fills g c =
    let same = c.as_slice-shelves.ensures.same in
    let third = copies_then _ _ _ _ _ _ _ _ true c.in_ok-write_registry.ensures.rows
    (rw same at c.in_ok-copy_along.ensures.copies) in
    copies_weaker _ (MakesPart c.args.shelves.now) _ _ _ _ _
    (makes_part c.args.shelves.now (rw same at c.as_slice-shelves.ensures.apart))
    (copies_then _ _ _ _ _ _ _ _ (is_ok c.copy_along-2.result) third (rw same at c.copy_along-2.ensures.copies))
