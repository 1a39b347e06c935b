use Rattle.std.proofs.Common.{inl, inr, rules}
use Rattle.store_files.proofs.HistoryLemmas.{opened_closed}
use Rattle.runner.proofs.Idle.{not_longer}
use Rattle.runner.proofs.extract.extract_file.Goals as goal

pub returns-clause-extracts : goal.returns-clause-extracts
returns-clause-extracts g c = inl (record {
  begun = c.in_ok-source.source.store;
  ended = c.extract_to-told.new.source;
  begins = c.in_ok-source.ensures.begun.0;
  does = c.extract_to-told.ensures.fills;
  done = opened_closed _ _ _ _ _ _ _ c.in_ok-source.ensures.begun.1 c.in_ok-source.ensures.opened c.close.ensures;
})

pub returns-in_err-source-clause-lone : goal.returns-in_err-source-clause-lone
returns-in_err-source-clause-lone g c = λ is. absurd (not_longer _ _ is)

pub returns-clause-tested : goal.returns-clause-tested
returns-clause-tested g c = elim c.extract_to-told.ensures.tested [
  | inl idle ↦ inl idle
  | inr apart ↦ inr (search rules, apart)
]
