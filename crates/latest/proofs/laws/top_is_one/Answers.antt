use Rattle.latest.proofs.Scans.{top_one}
use Rattle.latest.proofs.laws.top_is_one.Goals as goal

pub returns : goal.returns
returns c = top_one
