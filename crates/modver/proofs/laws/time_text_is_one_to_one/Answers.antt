use Rattle.modver.proofs.Times.{one-to-one}
use Rattle.modver.proofs.laws.time_text_is_one_to_one.Goals as goal

pub returns : goal.returns
returns c = one-to-one
