use Rattle.std.proofs.Common.{◌≡◌, map, take}
use Rattle.gomod.specs.Coverage.{covered}
use Rattle.gomod.specs.Reading.{interval_of}
use Rattle.gomod.proofs.coverage.coverage.Given as goal

-- the flags by the retractions so far
abbrev pub invariant-loop-retraction : goal.invariant-loop-retraction
invariant-loop-retraction l = l.flags.items
    ≡ covered l.versions (map interval_of (take l.retraction-index l.retractions))
