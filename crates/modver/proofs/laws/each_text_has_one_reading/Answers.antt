use Rattle.modver.proofs.Readings.{each-one}
use Rattle.modver.proofs.laws.each_text_has_one_reading.Goals as goal

pub returns : goal.returns
returns c = each-one
