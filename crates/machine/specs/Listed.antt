-- The versions that the list of a path has.
use Rattle.std.specs.Prelude.{Bool, true, false, List}
use Rattle.std.specs.List.{filter}
use Rattle.modver.specs.Class.{class_of}
use Rattle.modver.specs.SemanticVersion.{SemanticVersion}
use Rattle.modver.specs.declared.version.Class.{Class}
use Rattle.modver.specs.declared.version.Class.TheVariants as class

-- whether a version of this class is listed: any but a pseudo-version
abbrev pub is_listed : Class → Bool
is_listed (class.Pseudo time) = false
is_listed c = true

-- the releases and pre-releases of a list
abbrev pub listed : List SemanticVersion → List SemanticVersion
listed vs = filter (λ v. is_listed (class_of v)) vs
