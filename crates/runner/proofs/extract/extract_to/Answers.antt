use Rattle.std.proofs.Common.{inl}
use Rattle.store_files.proofs.HistoryLemmas.{opened_closed}
use Rattle.runner.proofs.extract.extract_to.Goals as goal

pub returns-clause-fills : goal.returns-clause-fills
returns-clause-fills g c = inl (record {
  begun = c.in-Ok.file.store;
  ended = c.extract_part-told.new.fresh;
  begins = c.in-Ok.ensures.begun.0;
  does = c.extract_part-told.ensures;
  done = opened_closed _ _ _ _ _ _ _ c.in-Ok.ensures.begun.1 c.in-Ok.ensures.opened c.close.ensures;
})
