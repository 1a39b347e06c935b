use Rattle.engine.proofs.KnownLemmas.{all_known}
use Rattle.engine.proofs.answer.answer_all.Goals as goal

pub returns-clause-known : goal.returns-clause-known
returns-clause-known g c =
    let laws = g.met.R.Hear in
    rw (← laws.left_is c.args.reader.now, ← laws.left_is c.answer_each.new.reader)
    (all_known _ _ _ _ _ _ _ (laws.sound c.answer_each.new.reader) c.answer_each.ensures.heard)
