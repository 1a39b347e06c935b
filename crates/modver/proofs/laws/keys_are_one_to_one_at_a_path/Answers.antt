use Rattle.modver.proofs.KeyRanks.{own-keys}
use Rattle.modver.proofs.laws.keys_are_one_to_one_at_a_path.Goals as goal

pub returns : goal.returns
returns c = own-keys
