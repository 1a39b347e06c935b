-- What a message asks for, by its method and its target. (Go Modules Reference, "GOPROXY protocol"; PUT is this
-- server's own.)
use Rattle.std.specs.Prelude.{◌≡◌, ◌==◌, ℕ, ◌<◌, false, List, [], ◌∷◌, ◌++◌, length, bytes_eq, codes, Option, Some}
use Rattle.std.specs.Prelude.{None, if◌then◌else◌}
use Rattle.std.specs.List.{list_any}
use Rattle.std.specs.Str.{IsUtf8, is_utf8}
use Rattle.percent_encoding.specs.Percent.{percent_decode}
use Rattle.wire.specs.ModuleVersion.{IsModuleVersion, module_version_of}
use Rattle.wire.specs.Resource.{IsResource, resource_in}
use Rattle.wire.specs.Route.{routed_of}
use Rattle.wire.specs.declared.module_version.ModuleVersion.{ModuleVersion}
use Rattle.wire.specs.declared.routes.Area.{Area}
use Rattle.wire.specs.declared.routes.Area.TheVariants as area
use Rattle.wire.specs.declared.resource.Resource.{Resource}
use Rattle.wire.specs.declared.resource.Target.{Target}
use Rattle.wire.specs.declared.resource.Target.TheVariants as target

-- `/k/`, a key, which is text without a slash, a slash and a rest
pub record IsKeyed (text key rest : List ℕ) : Type 0 where
  pub whole : text ≡ codes "/k/" ++ (key ++ (47 ∷ rest))
  pub some : 0 < length key
  pub no_slash : list_any (λ b. b == 47) key ≡ false
  pub is_text : IsUtf8 key

-- what a message asks for
abbrev pub Asks : List ℕ → List ℕ → Target → Type 0
Asks method text target.Unreadable = ⊥
Asks method text (target.Get key asked) = (method ≡ codes "GET")
    × ((rest : List ℕ) × IsKeyed text key rest × IsResource rest asked)
Asks method text (target.Put key path version) =
    (method ≡ codes "PUT") × ((rest : List ℕ) × IsKeyed text key rest
    × IsModuleVersion (percent_decode rest) path version [])

-- what a message reads as: what it asks for, or unreadable if it asks for nothing
abbrev pub ReadsTarget : List ℕ → List ℕ → Target → Type 0
ReadsTarget method text target.Unreadable = (asked : Target) → ¬ (Asks method text asked)
ReadsTarget method text (target.Get key asked) = Asks method text (target.Get key asked)
ReadsTarget method text (target.Put key path version) = Asks method text (target.Put key path version)

-- a target is text, and the rest after its key decodes to text
abbrev pub IsTextThroughout : List ℕ → Type 0
IsTextThroughout text = IsUtf8 text × ((key rest : List ℕ) → IsKeyed text key rest → IsUtf8 (percent_decode rest))

-- ---- computed forms of the readings above

abbrev pub get_of : List ℕ → Option Resource → Target
get_of key (Some asked) = target.Get key asked
get_of key None = target.Unreadable

abbrev pub put_of : List ℕ → Option ModuleVersion → Target
put_of key (Some found) = target.Put key found.path found.version
put_of key None = target.Unreadable

-- the publish that a PUT asks for in an area
abbrev pub module_version_in : Area → List ℕ → Option ModuleVersion
module_version_in area.Shelf rest = None
module_version_in area.Path rest = module_version_of (percent_decode rest)

-- what a message with that method asks for by its route
abbrev pub asked_at : List ℕ → Area × List ℕ × List ℕ → Target
asked_at method route =
    if bytes_eq method (codes "GET") then get_of route.1 (resource_in route.0 route.2)
    else if bytes_eq method (codes "PUT") then put_of route.1 (module_version_in route.0 route.2)
    else target.Unreadable

abbrev pub asked_or : List ℕ → Option (Area × List ℕ × List ℕ) → Target
asked_or method (Some route) = asked_at method route
asked_or method None = target.Unreadable

-- what a message asks for
unfoldable pub target_of : List ℕ → List ℕ → Target
target_of method text = if is_utf8 text then asked_or method (routed_of text) else target.Unreadable
