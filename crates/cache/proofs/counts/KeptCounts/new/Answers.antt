use Rattle.std.proofs.Common.{arith}
use Rattle.cache.proofs.CountLemmas.{none_counted}
use Rattle.cache.proofs.counts.KeptCounts.new.Goals as goal

pub invariant_of-result : goal.invariant_of-result
invariant_of-result c = (none_counted c.new.result c.new.ensures 0, omega arith)
