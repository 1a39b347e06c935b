use Rattle.modver.proofs.Readings.{version-of}
use Rattle.modver.proofs.laws.version_of_is_exact.Goals as goal

pub returns : goal.returns
returns c = version-of
