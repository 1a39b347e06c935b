use Rattle.modpath.proofs.NumberLaw.{numbers_are_exact}
use Rattle.modpath.proofs.laws.numbers_are_exact.Goals as goal

pub returns : goal.returns
returns c = numbers_are_exact
