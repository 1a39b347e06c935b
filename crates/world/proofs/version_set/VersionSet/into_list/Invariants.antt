use Rattle.std.proofs.Common.{◌≡◌, ◌++◌}
use Rattle.world.specs.Lines.{in_order}
use Rattle.world.proofs.version_set.VersionSet.into_list.Given as goal

-- the versions so far, and those that are left
abbrev pub invariant-loop-ranked : goal.invariant-loop-ranked
invariant-loop-ranked l = l.list.items ++ l.ranked-iterator ≡ in_order l.fn.self
