use Rattle.std.proofs.Common.{arith}
use Rattle.world.proofs.MapsTexts.{len_text}
use Rattle.cache.proofs.groups.Groups.new.Goals as goal

pub invariant_of-result : goal.invariant_of-result
invariant_of-result c =
    let same = len_text c.new.result c.new.ensures.ordered in
    let none = c.new.ensures.len in
    omega (arith, same, none)
