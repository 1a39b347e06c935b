use Rattle.modver.proofs.Times.{each-text}
use Rattle.modver.proofs.laws.each_text_is_a_time_or_faulty.Goals as goal

pub returns : goal.returns
returns c = each-text
