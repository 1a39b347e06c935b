use Rattle.std.proofs.Common.{inl}
use Rattle.runner.proofs.MigrateLemmas.{from_copied}
use Rattle.runner.proofs.migrate.migrate_file.Goals as goal

pub returns-clause-migrates : goal.returns-clause-migrates
returns-clause-migrates g c = inl (from_copied _ _ _ _ _ _ _ _ _ _ c.in-Ok.ensures.copied c.migrate_copy.ensures.migrates)
