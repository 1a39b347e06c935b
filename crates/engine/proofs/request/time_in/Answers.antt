use Rattle.std.proofs.Common.{sym}
use Rattle.engine.proofs.RequestLemmas.{no_text}
use Rattle.engine.proofs.request.time_in.Goals as goal

pub returns-in_default : goal.returns-in_default
returns-in_default c = sym (no_text c.args.text.now c.in_default.ensures.cases.0)
