use Rattle.machine.proofs.Blind.{blind, agree_is_low}
use Rattle.machine.proofs.laws.blindness.Goals as goal

pub returns : goal.returns
returns c = record { alike = blind; agree = agree_is_low }
