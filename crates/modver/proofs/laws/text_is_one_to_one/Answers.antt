use Rattle.modver.proofs.Readings.{text-one}
use Rattle.modver.proofs.laws.text_is_one_to_one.Goals as goal

pub returns : goal.returns
returns c = text-one
