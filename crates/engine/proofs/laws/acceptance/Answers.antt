use Rattle.engine.proofs.AcceptedLemmas.{accepted_is_written}
use Rattle.engine.proofs.laws.acceptance.Goals as goal

pub returns : goal.returns
returns c = accepted_is_written
