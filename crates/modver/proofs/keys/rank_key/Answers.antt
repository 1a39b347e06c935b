use Rattle.std.proofs.Common.{rules}
use Rattle.modver.specs.Keys.{rank_key_of}
use Rattle.modver.proofs.keys.rank_key.Goals as goal

pub returns : goal.returns
unfolding rank_key_of
returns c = search rules
