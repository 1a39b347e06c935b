use Rattle.catalog.proofs.between.print_between.Goals as goal

pub returns-clause-prints : goal.returns-clause-prints
returns-clause-prints g c = c.print_lines.ensures.prints.prints
