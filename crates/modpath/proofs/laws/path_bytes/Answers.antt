use Rattle.modpath.proofs.BytesLaw.{path_bytes}
use Rattle.modpath.proofs.laws.path_bytes.Goals as goal

pub returns : goal.returns
returns c = path_bytes
