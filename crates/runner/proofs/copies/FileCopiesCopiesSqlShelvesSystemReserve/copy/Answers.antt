use Rattle.std.proofs.Common.{inl}
use Rattle.runner.proofs.CopyLemmas.{copies_file}
use Rattle.runner.proofs.copies.FileCopiesCopiesSqlShelvesSystemReserve.copy.Goals as goal

pub returns-clause-came : goal.returns-clause-came
returns-clause-came g c = inl (
  c.copy_to.new.targets,
  copies_file _ _ _ _ _ _ _ _ _ _ c.afresh-targets.ensures
      (rw c.path-path.ensures at c.copy_to.ensures.came),
)
