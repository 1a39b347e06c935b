use Rattle.engine.proofs.PartLemmas.{part_writes_the_same, others_are_written_not_found}
use Rattle.engine.proofs.laws.parts.Goals as goal

pub returns : goal.returns
returns c = record { own = part_writes_the_same; others = others_are_written_not_found }
