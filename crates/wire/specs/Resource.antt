-- What a GET asks for by the rest after the key. (Go Modules Reference, "GOPROXY protocol"; `-/` is this server's own.)
use Rattle.std.specs.Prelude.{◌≡◌, ℕ, List, [], ◌++◌, bytes_eq, codes, Option, Some, option_map, if◌then◌else◌}
use Rattle.std.specs.Option.{option_and_then, option_or}
use Rattle.percent_encoding.specs.Percent.{percent_decode}
use Rattle.modver.specs.SemanticVersion.{SemanticVersion}
use Rattle.wire.specs.ModuleVersion.{IsPathWith, IsModuleVersion, cut_of, path_of, module_version_of, version_from}
use Rattle.wire.specs.ModuleVersion.{without_end, without_start}
use Rattle.wire.specs.declared.module_version.ModuleVersion.{ModuleVersion}
use Rattle.wire.specs.declared.resources.VersionFile.{VersionFile}
use Rattle.wire.specs.declared.resources.VersionFile.TheVariants as file
use Rattle.wire.specs.declared.routes.Area.{Area}
use Rattle.wire.specs.declared.routes.Area.TheVariants as area
use Rattle.wire.specs.declared.resource.Resource.{Resource}
use Rattle.wire.specs.declared.resource.Resource.TheVariants as resource

-- the rest begins with a plain `-/`, and what follows it decodes to this text
pub record IsOwn (rest text : List ℕ) : Type 0 where
  pub behind : List ℕ
  pub whole : rest ≡ codes "-/" ++ behind
  pub decodes : percent_decode behind ≡ text

-- the rest begins with a plain `-/`, and what follows it decodes to `gosum/` and then a path, `/@v/` and a version, the
-- path and the version in their escaped forms
pub record IsSummed (rest path : List ℕ) (version : SemanticVersion) : Type 0 where
  pub text : List ℕ
  pub own : IsOwn rest (codes "gosum/" ++ text)
  pub named : IsModuleVersion text path version []

-- what a GET asks for
abbrev pub IsResource : List ℕ → Resource → Type 0
IsResource rest (resource.Info path version) = IsModuleVersion (percent_decode rest) path version (codes ".info")
IsResource rest (resource.GoMod path version) = IsModuleVersion (percent_decode rest) path version (codes ".mod")
IsResource rest (resource.Zip path version) = IsModuleVersion (percent_decode rest) path version (codes ".zip")
IsResource rest (resource.List path) = IsPathWith (percent_decode rest) path (codes "/@v/list")
IsResource rest (resource.Latest path) = IsPathWith (percent_decode rest) path (codes "/@latest")
IsResource rest resource.Modules = IsOwn rest (codes "modules")
IsResource rest (resource.GoSum path version) = IsSummed rest path version

-- ---- computed forms of the readings above

-- the ending of a file of a version
abbrev pub ending_of : VersionFile → List ℕ
ending_of file.Info = codes ".info"
ending_of file.GoMod = codes ".mod"
ending_of file.Zip = codes ".zip"

-- a name without the ending of this file, and the file
abbrev pub asked_by : VersionFile → List ℕ → Option (List ℕ × VersionFile)
asked_by p name = option_map (λ version. (version, p)) (without_end (ending_of p) name)

-- a name without its ending, and the file with this ending
abbrev pub without_ending : List ℕ → Option (List ℕ × VersionFile)
without_ending name = option_or (asked_by file.Info name)
    (option_or (asked_by file.GoMod name) (asked_by file.Zip name))

-- a name after `v/` without its last ending, and the file with this ending
abbrev pub split_file : List ℕ → Option (List ℕ × VersionFile)
split_file asked = option_and_then without_ending (without_start (codes "v/") asked)

abbrev pub resource_for : VersionFile → List ℕ → SemanticVersion → Resource
resource_for file.Info path version = resource.Info path version
resource_for file.GoMod path version = resource.GoMod path version
resource_for file.Zip path version = resource.Zip path version

-- what is asked of a version of the path
abbrev pub of_version : List ℕ → List ℕ → Option Resource
of_version path asked =
    option_and_then (λ (found : List ℕ × VersionFile).
    option_map (λ v. resource_for found.1 path v) (version_from found.0))
    (split_file asked)

-- what is asked of a path, by the text after `/@`
abbrev pub of_path : List ℕ → List ℕ → Option Resource
of_path path asked =
    if bytes_eq asked (codes "latest") then Some (resource.Latest path)
    else if bytes_eq asked (codes "v/list") then Some (resource.List path)
    else of_version path asked

-- what is asked of a module path
unfoldable pub asked_of : List ℕ → Option Resource
asked_of text =
    option_and_then (λ (halves : List ℕ × List ℕ). option_and_then (λ path. of_path path halves.1) (path_of halves.0))
    (cut_of text)

-- the go.sum line of a version
abbrev pub sum_at : ModuleVersion → Resource
sum_at found = resource.GoSum found.path found.version

abbrev pub summed_of : List ℕ → Option Resource
summed_of text = option_map sum_at (module_version_of text)

-- what is asked of the shelf itself
abbrev pub own_of : List ℕ → Option Resource
own_of text =
    if bytes_eq text (codes "modules") then Some resource.Modules
    else option_and_then summed_of (without_start (codes "gosum/") text)

-- what a GET asks for in an area
abbrev pub resource_in : Area → List ℕ → Option Resource
resource_in area.Shelf rest = own_of (percent_decode rest)
resource_in area.Path rest = asked_of (percent_decode rest)
