use Rattle.world.proofs.Profiles.{world_still}
use Rattle.world.proofs.laws.profile_2_keeps_worlds.Goals as goal

pub returns : goal.returns
returns c = world_still
