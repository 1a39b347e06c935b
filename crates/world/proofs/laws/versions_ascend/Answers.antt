use Rattle.world.proofs.SeenVersions.{versions_ascend}
use Rattle.world.proofs.laws.versions_ascend.Goals as goal

pub returns : goal.returns
returns c = versions_ascend
