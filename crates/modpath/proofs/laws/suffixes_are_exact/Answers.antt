use Rattle.modpath.proofs.SuffixLaw.{suffixes_are_exact}
use Rattle.modpath.proofs.laws.suffixes_are_exact.Goals as goal

pub returns : goal.returns
returns c = suffixes_are_exact
