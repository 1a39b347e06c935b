use Rattle.std.proofs.Common.{inl}
use Rattle.store_files.proofs.HistoryLemmas.{opened_closed}
use Rattle.runner.proofs.migrate.migrate_to.Goals as goal

pub returns-clause-migrates : goal.returns-clause-migrates
returns-clause-migrates g c = inl (record {
  begun = c.in-Ok.file.store;
  ended = c.migrate_into-told.new.fresh;
  begins = c.in-Ok.ensures.begun.0;
  does = c.migrate_into-told.ensures;
  done = opened_closed _ _ _ _ _ _ _ c.in-Ok.ensures.begun.1 c.in-Ok.ensures.opened c.close.ensures;
})
