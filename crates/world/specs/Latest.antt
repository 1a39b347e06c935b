-- The highest of some versions by rank, and the latest version of a path that a shelf sees.
use Rattle.std.specs.Prelude.{ℕ, List, [], ◌∷◌, Contains, Option, Some, None, if◌then◌else◌}
use Rattle.gomod.specs.Module.{GoModule, is_retracted}
use Rattle.latest.specs.Latest.{is_greater}
use Rattle.modver.specs.Fits.{IsVersionOf}
use Rattle.modver.specs.Rank.{rank_cmp}
use Rattle.modver.specs.SemanticVersion.{SemanticVersion, version_text}
use Rattle.world.specs.declared.entry.Heading.{Heading}
use Rattle.world.specs.GoMods.{reading_of, module_in}
use Rattle.world.specs.Versions.{versions_of}
use Rattle.world.specs.World.{World, heading}

-- ---- the highest of a list

-- each version fits the path
abbrev pub AllOf : List ℕ → List SemanticVersion → Type 0
AllOf path vs = (v : SemanticVersion) → Contains vs v → IsVersionOf path v

-- the higher of two versions by rank; the first, if there is no second or the two are equal in rank
abbrev pub higher : SemanticVersion → Option SemanticVersion → SemanticVersion
higher v None = v
higher v (Some u) = if is_greater (rank_cmp u v) then u else v

-- the highest version of a list by rank
abbrev pub highest : List SemanticVersion → Option SemanticVersion
highest [] = None
highest (v ∷ vs) = Some (higher v (highest vs))

-- the versions of a list that a go.mod does not retract
abbrev pub unretracted : GoModule → List SemanticVersion → List SemanticVersion
unretracted m [] = []
unretracted m (v ∷ vs) = if is_retracted m v then unretracted m vs else v ∷ unretracted m vs

-- ---- the latest version that a shelf sees

-- what the go.mod of a version says, if it reads
abbrev pub module_of : Option Heading → Option GoModule
module_of None = None
module_of (Some shown) = module_in (reading_of shown.gomod)

-- the highest of those versions that the go.mod does not retract; None without a go.mod
abbrev pub highest_left : Option GoModule → List SemanticVersion → Option SemanticVersion
highest_left None vs = None
highest_left (Some m) vs = highest (unretracted m vs)

-- the highest version of a path that a shelf sees and that the go.mod of this version does not retract, if the version
-- exists
abbrev pub latest_by : World → List ℕ → List ℕ → Option SemanticVersion → Option SemanticVersion
latest_by w s p None = None
latest_by w s p (Some top) = highest_left (module_of (heading w s p (version_text top))) (versions_of w s p)

-- the latest version of a path: the highest that the go.mod of the highest does not retract
abbrev pub latest_of : World → List ℕ → List ℕ → Option SemanticVersion
latest_of w s p = latest_by w s p (highest (versions_of w s p))
