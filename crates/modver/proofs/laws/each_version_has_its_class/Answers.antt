use Rattle.modver.proofs.PseudoForms.{each-class}
use Rattle.modver.proofs.laws.each_version_has_its_class.Goals as goal

pub returns : goal.returns
returns c = each-class
