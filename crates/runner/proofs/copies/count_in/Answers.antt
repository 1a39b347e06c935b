use Rattle.runner.proofs.CopyLemmas.{count_reads, count_tells}
use Rattle.runner.proofs.copies.count_in.Goals as goal

pub returns-clause-reads : goal.returns-clause-reads
returns-clause-reads g c = count_reads _ _ _ _ c.versions_kept.ensures.reads

pub returns-clause-counted : goal.returns-clause-counted
returns-clause-counted g c = count_tells _ _ _ c.versions_kept.ensures.reads
