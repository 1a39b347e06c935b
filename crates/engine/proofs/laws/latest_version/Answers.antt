use Rattle.engine.proofs.HeadlineLemmas.{latest_is_written}
use Rattle.engine.proofs.laws.latest_version.Goals as goal

pub returns : goal.returns
returns c = latest_is_written
