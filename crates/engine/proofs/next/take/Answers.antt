use Rattle.std.proofs.Common.{refl}
use Rattle.framing.proofs.StreamLemmas.{unfinished_nothing}
use Rattle.engine.proofs.ReadLemmas.{message_some}
use Rattle.engine.proofs.next.take.Goals as goal

pub returns-in-Ok-Bad-BadRequest : goal.returns-in-Ok-Bad-BadRequest
returns-in-Ok-Bad-BadRequest c = (
  (rw (
    c.in-Ok-Bad-BadRequest.field-0-is,
    c.in-Ok-Bad-BadRequest.field-0-0-is,
  ) at c.in-Ok-Bad-BadRequest.ensures).answer.0.ends,
  λ same. cc,
)

pub returns-in-Ok-Bad-TooLarge : goal.returns-in-Ok-Bad-TooLarge
returns-in-Ok-Bad-TooLarge c = (
  (rw (
    c.in-Ok-Bad-TooLarge.field-0-is,
    c.in-Ok-Bad-TooLarge.field-0-0-is,
  ) at c.in-Ok-Bad-TooLarge.ensures).answer.0.ends,
  λ same. cc,
)

pub returns-in-Err : goal.returns-in-Err
returns-in-Err c = (message_some _ c.in-Err.ensures.whole, λ same. c.in-Err.ensures.whole)

pub returns-then-is_empty : goal.returns-then-is_empty
returns-then-is_empty c = (unfinished_nothing _ (c.is_empty.ensures.0 c.if-is_empty.true), refl)
