use Rattle.std.proofs.Common.{inl}
use Rattle.runner.proofs.Idle.{not_longer}
use Rattle.runner.proofs.MigrateLemmas.{copy_migrated}
use Rattle.runner.proofs.migrate.migrate_copy.Goals as goal

pub returns-clause-migrates : goal.returns-clause-migrates
returns-clause-migrates g c = inl (record {
  old = c.in_ok-old.old.store;
  old_new = c.migrate_to-told.new.old;
  begins = c.in_ok-old.ensures.begun.0;
  migrates = c.migrate_to-told.ensures.migrates;
  done = copy_migrated _ _ _ _ _ _ _ c.in_ok-old.ensures.begun.1 c.in_ok-old.ensures.opened c.close.ensures;
})

pub returns-in_err-old-clause-lone : goal.returns-in_err-old-clause-lone
returns-in_err-old-clause-lone g c = λ is. absurd (not_longer _ _ is)
