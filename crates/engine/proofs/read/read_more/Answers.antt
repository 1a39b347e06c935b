use Rattle.std.proofs.Common.{arith}
use Rattle.engine.proofs.ReadLemmas.{near_few}
use Rattle.engine.proofs.read.read_more.Goals as goal

pub feed_some-requires-clause-near : goal.feed_some-requires-clause-near
feed_some-requires-clause-near g c bytes few = near_few _ bytes c.requires (omega (arith, few))
