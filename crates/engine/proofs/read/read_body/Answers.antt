use Rattle.std.proofs.Common.{ℕ, length-take, arith}
use Rattle.engine.proofs.ReadLemmas.{near_missing}
use Rattle.engine.proofs.read.read_body.Goals as goal

pub feed_some-requires-clause-near : goal.feed_some-requires-clause-near
feed_some-requires-clause-near g c bytes few =
    near_missing _ bytes c.args.missing c.requires.missing c.requires.long
    (omega (arith, few, length-take {A = ℕ}, c.min-most.ensures))

pub returns-clause-few : goal.returns-clause-few
returns-clause-few g c = omega (arith, c.feed_some.ensures.few, length-take {A = ℕ}, c.min-most.ensures)
