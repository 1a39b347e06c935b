use Rattle.std.proofs.Common.{inl}
use Rattle.sqlite.specs.Held.{state}
use Rattle.sqlite.specs.Steps.{over_memory}
use Rattle.runner.proofs.MigrateLemmas.{no_tables_are_foreign}
use Rattle.runner.proofs.migrate.migrate_nothing.Goals as goal

pub returns-clause-migrates : goal.returns-clause-migrates
returns-clause-migrates g c = inl (record {
  none = c.in-Ok.none;
  none_new = c.migrate_to.new.old;
  foreign = no_tables_are_foreign (state over_memory c.in-Ok.none).now c.in-Ok.ensures.empty.2;
  migrates = c.migrate_to.ensures.migrates;
})
