use Rattle.engine.proofs.HeadlineLemmas.{callers_are_answered_alike}
use Rattle.engine.proofs.laws.isolation.Goals as goal

pub returns : goal.returns
returns c = callers_are_answered_alike
