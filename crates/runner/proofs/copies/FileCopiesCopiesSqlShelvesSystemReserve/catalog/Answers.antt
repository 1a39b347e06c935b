use Rattle.std.proofs.Common.{◌∙◌, inl, sym}
use Rattle.sqlite.specs.Held.{state}
use Rattle.control.proofs.TaskLemmas.{read_none}
use Rattle.store.specs.Shown.{shown_with}
use Rattle.runner.proofs.CopyLemmas.{output_told, prints_alone}
use Rattle.runner.proofs.copies.FileCopiesCopiesSqlShelvesSystemReserve.catalog.Goals as goal

pub returns-clause-turns : goal.returns-clause-turns
returns-clause-turns g c =
    let new = c.print_between.new.shelves in
    (new, c.print_between.ensures.went, read_none (shown_with (state g.S.Store new.conn) new.kept new.failures))

pub returns-clause-came : goal.returns-clause-came
returns-clause-came g c =
    let prints = c.print_between.ensures.prints in
    let alone = prints_alone _ _ _ _ _ _ prints in
    (prints.printed, prints.appends, inl (c.print_between.result, c.catalogued.ensures.value, alone))

pub returns-clause-fewer : goal.returns-clause-fewer
returns-clause-fewer g c = c.print_between.ensures.fails.no_fewer

pub returns-clause-output : goal.returns-clause-output
returns-clause-output g c = λ is.
    c.print_between.ensures.fails.output (output_told c.print_between.result (sym c.catalogued.ensures.value ∙ is))
