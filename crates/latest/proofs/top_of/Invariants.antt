use Rattle.std.proofs.Common.{Option}
use Rattle.gomod.specs.Module.{GoModule}
use Rattle.latest.specs.Latest.{CountsBy, IsBest}
use Rattle.latest.proofs.top_of.Given as goal

-- the index of the highest of the versions so far
abbrev pub invariant-loop-index : goal.invariant-loop-index
invariant-loop-index l = (m : Option GoModule) → CountsBy l.versions m l.which → IsBest l.versions m l.index l.highest
