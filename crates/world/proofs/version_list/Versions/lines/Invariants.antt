use Rattle.std.proofs.Common.{◌≡◌, ◌++◌, drop, map as each}
use Rattle.modver.specs.SemanticVersion.{version_text}
use Rattle.world.specs.Lines.{lines_of}
use Rattle.world.proofs.version_list.Versions.lines.Given as goal

-- the lines so far, and those of the versions that are left
abbrev pub invariant-loop-version : goal.invariant-loop-version
invariant-loop-version l = l.lines.items ++ lines_of (each version_text (drop l.version-index l.version-items))
    ≡ lines_of (each version_text l.self)
