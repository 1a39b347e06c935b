use Rattle.commands.proofs.Openings.{served_from}
use Rattle.commands.proofs.memory.answer_in_memory.Goals as goal

pub returns-in-Ok-answer_all-clause-answers : goal.returns-in-Ok-answer_all-clause-answers
returns-in-Ok-answer_all-clause-answers g c =
    (c.in-Ok.ensures.ok.1, served_from _ _ _ _ _ _ _ _ c.in-Ok-answer_all.ensures.heard c.in-Ok.ensures.ok.0)

pub returns-clause-answers : goal.returns-clause-answers
returns-clause-answers g c = (
  c.in-Ok.ensures.ok.1,
  (
    c.in-Err-answer_all.field-0,
    served_from _ _ _ _ _ _ _ _ c.in-Err-answer_all.ensures.heard c.in-Ok.ensures.ok.0,
  ),
)

pub returns-clause-cause : goal.returns-clause-cause
returns-clause-cause g c =
    λ is.
    let served = served_from _ _ _ _ _ _ _ _ c.in-Err-answer_all.ensures.heard c.in-Ok.ensures.ok.0 in
    (c.in-Err-answer_all.field-0, served, c.in-Err-answer_all.ensures.cause)
