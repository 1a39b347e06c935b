use Rattle.modlex.proofs.ValueLaw.{values_are}
use Rattle.modlex.proofs.laws.words_have_their_values.Goals as goal

pub returns : goal.returns
returns c = values_are
