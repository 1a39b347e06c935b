use Rattle.world.proofs.Parts.{part_is_world, part_has_the_chain}
use Rattle.world.proofs.laws.parts.Goals as goal

pub returns : goal.returns
returns c = record { world = part_is_world; chain = part_has_the_chain }
