use Rattle.std.proofs.Common.{◌≡◌, ◌++◌, take}
use Rattle.catalog.specs.Line.{more_requirements}
use Rattle.catalog.proofs.line.push_more.Given as goal

-- the requirements so far
abbrev pub invariant-loop-requirement : goal.invariant-loop-requirement
invariant-loop-requirement l = l.line.items ≡ l.fn.line.items ++ more_requirements (take l.requirement-index l.others)
