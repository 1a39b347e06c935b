use Rattle.std.proofs.Common.{true, false, Result, Err, refl, is_ok}
use Rattle.sqlite.specs.declared.error.Error.{Error}
use Rattle.sqlite.specs.Held.{state}
use Rattle.setup.specs.Parts.{PutsRegistry, MakesRegistry}
use Rattle.statements.proofs.ExtractLemmas.{copies_then, copies_weaker, failed_copies}
use Rattle.setup.proofs.PutLemmas.{puts_copied}
use Rattle.setup.proofs.FilledLemmas.{makes_registry}
use Rattle.setup.proofs.write.write_registry.Goals as goal

pub returns-in-Err-clause-rows : goal.returns-in-Err-clause-rows
returns-in-Err-clause-rows g c =
    let failed : Result (Unit {0}) Error = Err c.in-Err.error in
    failed_copies failed _ (PutsRegistry c.args.shelves.now) _ _ _ _ refl
    (puts_copied _ (state g.S.Store c.args.source.now) _ _ false c.in-Err.ensures.puts)

pub returns-in-Err-clause-fills : goal.returns-in-Err-clause-fills
returns-in-Err-clause-fills g c =
    let failed : Result (Unit {0}) Error = Err c.in-Err.error in
    failed_copies failed _ (MakesRegistry c.args.shelves.now) _ _ _ _ refl
    (puts_copied _ (state g.S.Store c.args.source.now) _ _ false c.in-Err.ensures.puts)

pub returns-clause-rows : goal.returns-clause-rows
returns-clause-rows g c =
    let same = c.as_slice-shelves.ensures.same in
    copies_then _ _ _ _ _ _ _ _ (is_ok c.copy_along.result)
    (puts_copied _ (state g.S.Store c.args.source.now) _ _ true (rw same at c.in-Ok.ensures.puts))
    (rw same at c.copy_along.ensures.copies)

pub returns-clause-fills : goal.returns-clause-fills
returns-clause-fills g c =
    let same = c.as_slice-shelves.ensures.same in
    copies_weaker _ (MakesRegistry c.args.shelves.now) _ _ _ _ (is_ok c.copy_along.result)
    (makes_registry c.args.shelves.now (rw same at c.as_slice-shelves.ensures.apart))
    (copies_then _ _ _ _ _ _ _ _ (is_ok c.copy_along.result)
    (puts_copied _ (state g.S.Store c.args.source.now) _ _ true (rw same at c.in-Ok.ensures.puts))
    (rw same at c.copy_along.ensures.copies))
