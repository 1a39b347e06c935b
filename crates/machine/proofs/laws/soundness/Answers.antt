use Rattle.machine.proofs.Sound.{sound, world_through}
use Rattle.machine.proofs.laws.soundness.Goals as goal

pub returns : goal.returns
returns c = record { event = sound; run = world_through }
