-- What the go.mod of a version requires.
use Rattle.std.specs.Prelude.{ℕ, List, ◌++◌, codes, Option, Some, None, option_map}
use Rattle.std.specs.List.{flat_map}
use Rattle.gomod.specs.Module.{GoModule}
use Rattle.gomod.specs.declared.entries.Requirement.{Requirement}
use Rattle.modver.specs.SemanticVersion.{SemanticVersion, version_text}
use Rattle.world.specs.Latest.{module_of}
use Rattle.world.specs.World.{World, heading}
use Rattle.world.specs.declared.entry.Heading.{Heading}
use Rattle.world.specs.declared.entry.Holder.{Holder}

-- a line `path version`
abbrev pub line : Requirement → List ℕ
line r = r.path ++ (codes " " ++ (version_text r.version ++ codes "\n"))

abbrev pub lines_of : List Requirement → List ℕ
lines_of required = flat_map line required

-- the lines of the go.mod of a heading, or none without a heading
abbrev pub required_in : Option Heading → Option (List ℕ)
required_in shown = option_map (λ (m : GoModule). lines_of m.required) (module_of shown)

-- the lines of a version, or none if the shelf does not see it
abbrev pub required_on : World → List ℕ → List ℕ → SemanticVersion → Option (List ℕ)
required_on w s p v = required_in (heading w s p (version_text v))

-- the lines of a version for a key, or none if there is no such key, or the path or the version is invalid
abbrev pub required_by : World → Option Holder → Option (List ℕ) → Option SemanticVersion → Option (List ℕ)
required_by w (Some h) (Some p) (Some v) = required_on w h.shelf p v
required_by w h p v = None
