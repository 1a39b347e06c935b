use Rattle.machine.proofs.Parts.{part_is_low, blind_throughout, part_tells_the_same, others_are_not_found}
use Rattle.machine.proofs.laws.parts.Goals as goal

pub returns : goal.returns
returns c = record {
  low = part_is_low;
  throughout = blind_throughout;
  told = part_tells_the_same;
  others =
      others_are_not_found;
}
