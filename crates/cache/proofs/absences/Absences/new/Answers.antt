use Rattle.std.proofs.Common.{◌≡◌, arith, rules}
use Rattle.std.specs.FinMap as map
use Rattle.world.specs.FinMaps.{by_text}
use Rattle.cache.proofs.AbsenceLemmas.{no_pairs}
use Rattle.cache.proofs.absences.Absences.new.Goals as goal

pub invariant_of-result : goal.invariant_of-result
invariant_of-result c =
    let none : by_text c.new.result.entries ≡ map.empty = search rules in
    (no_pairs (by_text c.new.result.entries) none 0, omega arith)
