use Rattle.modver.proofs.Readings.{has-text}
use Rattle.modver.proofs.laws.has_text_is_exact.Goals as goal

pub returns : goal.returns
returns c = has-text
