-- What a shelf learns of paths: the versions and paths that it sees, the list of a path, and its latest version.
use Rattle.std.specs.Prelude.{ℕ, ◌≡◌, ◌↔◌, ◌⊎◌, List, Option, Some, None, true, Contains}
use Rattle.std.specs.FinSet as set
use Rattle.std.specs.declared.cmp.Ordering.TheVariants.{Less}
use Rattle.gomod.specs.Module.{GoModule, IsRetracted}
use Rattle.latest.specs.Latest.{Versions, IsTop}
use Rattle.modver.specs.Class.{class_of}
use Rattle.modver.specs.Precedence.{IsBelow}
use Rattle.modver.specs.SemanticVersion.{SemanticVersion, version_text}
use Rattle.modver.specs.declared.version.Class.TheVariants as class
use Rattle.world.specs.declared.entry.Seen.{Seen}
use Rattle.machine.specs.declared.request.Query.TheVariants as query
use Rattle.machine.specs.declared.reply.Reply.TheVariants as reply
use Rattle.world.specs.GoMods.{Says}
use Rattle.world.specs.Lines.{in_order, EachToNext}
use Rattle.machine.specs.Machine.{query_reply}
use Rattle.world.specs.Latest.{latest_of}
use Rattle.world.specs.Visible.{IsSeen, seen_versions, versions_seen, paths_seen}
use Rattle.world.specs.World.{World, IsWorld, text_cmp, view}

-- ---- what a shelf sees

-- The versions of a path that a shelf sees are those at which it sees an entry.
abbrev pub VersionsAreSeen : Type 0
VersionsAreSeen = (w : World) (s p v : List ℕ) → (set.contains (versions_seen w s p) v ≡ true) ↔ IsSeen w s p v

-- The paths that a shelf sees are those of which it sees some version.
abbrev pub PathsAreSeen : Type 0
PathsAreSeen = (w : World) (s p : List ℕ) → (set.contains (paths_seen w s) p ≡ true) ↔ ((v : List ℕ) × IsSeen w s p v)

-- These are the paths of which a shelf sees some version, in the order of their bytes.
pub record ArePaths (w : World) (s : List ℕ) (ps : List (List ℕ)) : Type 0 where
  pub members : (p : List ℕ) → Contains ps p ↔ ((v : List ℕ) × IsSeen w s p v)
  pub ascend : EachToNext (λ p q. text_cmp p q ≡ Less) ps

-- The reply to the query for modules has the paths of which the shelf sees some version, in the order of their bytes.
abbrev pub PathsAreTold : Type 0
PathsAreTold = (w : World) (s : List ℕ)
    → (ps : set.FinSet text_cmp) × (query_reply w s query.Modules ≡ reply.Paths ps) × ArePaths w s (in_order ps)

-- ---- the list of a path

-- the version is a release or a pre-release
abbrev pub IsListed : SemanticVersion → Type 0
IsListed v = (class_of v ≡ class.Release) ⊎ (class_of v ≡ class.Pre)

-- these are the releases and pre-releases of a path that a shelf sees, each below the next
pub record AreListed (w : World) (s p : List ℕ) (vs : List SemanticVersion) : Type 0 where
  pub members : (v : SemanticVersion) → Contains vs v ↔ (seen_versions w s p v × IsListed v)
  pub ascend : EachToNext IsBelow vs

-- In a world, a shelf that sees some version of a path gets this list of it, which may be empty.
abbrev pub ListIsTold : Type 0
ListIsTold =
    (w : World) (s p v : List ℕ) → IsWorld w → IsSeen w s p v
    → (vs : List SemanticVersion) × (query_reply w s (query.List p) ≡ reply.Versions vs) × AreListed w s p vs

-- In a world, the list of a path is not found exactly if the shelf sees no version of it.
abbrev pub ListIsNotFound : Type 0
ListIsNotFound = (w : World) (s p : List ℕ) → IsWorld w
    → (query_reply w s (query.List p) ≡ reply.NotFound) ↔ ((v : List ℕ) → ¬ IsSeen w s p v)

-- ---- the latest version of a path

-- the go.mod of the highest version of a path that a shelf sees says this
pub record HighestSays (w : World) (s p : List ℕ) (m : GoModule) : Type 0 where
  pub highest : SemanticVersion
  pub top : IsTop (seen_versions w s p) highest
  pub at : Seen
  pub seen : view w s p (version_text highest) ≡ Some at
  pub says : Says at.entry.gomod m

-- the versions that a shelf sees and that the go.mod of the highest does not retract
abbrev pub unretracted_versions : World → List ℕ → List ℕ → Versions
unretracted_versions w s p v = (m : GoModule) × HighestSays w s p m × seen_versions w s p v × (¬ IsRetracted m v)

-- In a world, a version is the latest exactly if it is the highest of these unretracted versions.
abbrev pub LatestIsTheTop : Type 0
LatestIsTheTop = (w : World) (s p : List ℕ) (v : SemanticVersion) → IsWorld w
    → (latest_of w s p ≡ Some v) ↔ IsTop (unretracted_versions w s p) v

-- In a world, there is no latest version exactly if there is no unretracted version.
abbrev pub NoneIsLatest : Type 0
NoneIsLatest = (w : World) (s p : List ℕ) → IsWorld w
    → (latest_of w s p ≡ None) ↔ ((v : SemanticVersion) → ¬ unretracted_versions w s p v)

-- the shelf sees an entry of the version that has this time, or that has none
abbrev pub HasTime : World → List ℕ → List ℕ → SemanticVersion → Option (List ℕ) → Type 0
HasTime w s p v time = (e : Seen) × (view w s p (version_text v) ≡ Some e) × (e.entry.time ≡ time)

-- In a world, the reply to the query for the latest version is this version with this time exactly if it is the highest
-- unretracted version and has this time.
abbrev pub LatestIsTold : Type 0
LatestIsTold =
    (w : World) (s p : List ℕ) (v : SemanticVersion) (time : Option (List ℕ)) → IsWorld w
    → (query_reply w s (query.Latest p) ≡ reply.Info v time)
    ↔ (IsTop (unretracted_versions w s p) v × HasTime w s p v time)

-- In a world, the latest version is not found exactly if there is no unretracted version.
abbrev pub LatestIsNotFound : Type 0
LatestIsNotFound = (w : World) (s p : List ℕ) → IsWorld w
    → (query_reply w s (query.Latest p) ≡ reply.NotFound) ↔ ((v : SemanticVersion) → ¬ unretracted_versions w s p v)
