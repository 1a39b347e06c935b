use Rattle.wire.proofs.TextTargets.{readable-text}
use Rattle.wire.proofs.laws.a_readable_target_is_text.Goals as goal

pub returns : goal.returns
returns c = readable-text
