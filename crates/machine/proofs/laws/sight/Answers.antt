use Rattle.world.proofs.SeenVersions.{versions_are_seen}
use Rattle.machine.proofs.Told.{paths_are_seen, paths_are_told}
use Rattle.machine.proofs.laws.sight.Goals as goal

pub returns : goal.returns
returns c = record { versions = versions_are_seen; paths = paths_are_seen; told = paths_are_told }
