use Rattle.modpath.proofs.TildeLaw.{tilde_numbers_are_exact}
use Rattle.modpath.proofs.laws.tilde_numbers_are_exact.Goals as goal

pub returns : goal.returns
returns c = tilde_numbers_are_exact
