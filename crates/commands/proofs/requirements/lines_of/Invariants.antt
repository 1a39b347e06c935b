use Rattle.std.proofs.Common.{◌≡◌, take}
use Rattle.std.specs.List.{flat_map}
use Rattle.commands.specs.Requirements.{line}
use Rattle.commands.proofs.requirements.lines_of.Given as goal

-- the lines of the requirements so far
abbrev pub invariant-loop-requirement : goal.invariant-loop-requirement
invariant-loop-requirement l = l.lines.items ≡ flat_map line (take l.requirement-index l.required)
