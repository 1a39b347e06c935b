use Rattle.std.proofs.Common.{◌≡◌, ◌++◌, List}
use Rattle.std.specs.Prelude.{vec_len}
use Rattle.modver.specs.SemanticVersion.{SemanticVersion}
use Rattle.world.specs.Versions.{by_precedence}
use Rattle.world.proofs.versions.by_precedence.Given as goal

-- the last versions were taken, and are in the set
abbrev pub invariant-loop-version : goal.invariant-loop-version
invariant-loop-version l = (taken : List SemanticVersion) × (l.versions.items ++ taken ≡ l.fn.versions.items)
    × (l.set ≡ by_precedence taken)

abbrev pub decreases-loop-version : goal.decreases-loop-version
decreases-loop-version l = vec_len l.versions
