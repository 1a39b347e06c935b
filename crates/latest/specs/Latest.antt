-- The highest of a set of versions, and the latest version of a path.
-- (Go Modules Reference, "GOPROXY protocol", on `@latest`, and "retract directive".)
use Rattle.std.specs.Prelude.{ℕ, ◌≡◌, ◌<◌, true, false, Bool, not, List, map, Option, Some, None, Contains, slice_get}
use Rattle.gomod.specs.Module.{GoModule, IsRetracted, is_retracted}
use Rattle.std.specs.declared.cmp.Ordering.{Ordering}
use Rattle.std.specs.declared.cmp.Ordering.TheVariants.{Greater}
use Rattle.latest.specs.declared.Counting.{Counting}
use Rattle.latest.specs.declared.Counting.TheVariants.{All, NotRetractedBy, Unflagged}
use Rattle.modver.specs.Fits.{IsVersionOf}
use Rattle.modver.specs.Rank.{IsAbove, rank_cmp}
use Rattle.modver.specs.SemanticVersion.{SemanticVersion}

-- a set of versions
abbrev pub Versions : Type 1
Versions = SemanticVersion → Type 0

-- the versions of a list
abbrev pub among : List SemanticVersion → Versions
among vs v = Contains vs v

-- the versions of a list that a go.mod does not retract
abbrev pub unretracted : List SemanticVersion → GoModule → Versions
unretracted vs m v = Contains vs v × (¬ IsRetracted m v)

-- a version is in the set, and nothing in the set is above it
pub record IsTop (set : Versions) (v : SemanticVersion) : Type 0 where
  pub member : set v
  pub highest : (u : SemanticVersion) → set u → ¬ IsAbove u v

-- the answer is the index of a top of the set in the list; `None` means that the set is empty
abbrev pub NamesTop : List SemanticVersion → Versions → Option ℕ → Type 0
NamesTop vs set (Some index) = (v : SemanticVersion) × (slice_get vs index ≡ Some v) × IsTop set v
NamesTop vs set None = (v : SemanticVersion) → ¬ set v

-- ---- the highest version of a scan

-- whether a version counts: any version if no go.mod is given, and otherwise one that the go.mod does not retract
abbrev pub counts : Option GoModule → SemanticVersion → Bool
counts None v = true
counts (Some m) v = not (is_retracted m v)

-- the versions of a list that count
abbrev pub counting : List SemanticVersion → Option GoModule → Versions
counting vs m v = Contains vs v × (counts m v ≡ true)

-- a scan counts the versions of a list that a go.mod does not retract, or all of them if there is no go.mod
abbrev pub CountsBy : List SemanticVersion → Option GoModule → Counting → Type 0
CountsBy vs None All = Unit {0}
CountsBy vs (Some m) (NotRetractedBy gomod) = gomod.now ≡ m
CountsBy vs (Some m) (Unflagged flags) = flags.now ≡ map (is_retracted m) vs
CountsBy vs _ _ = ⊥

abbrev pub is_greater : Ordering → Bool
is_greater Greater = true
is_greater o = false

abbrev pub is_above_at : SemanticVersion → Option SemanticVersion → Bool
is_above_at v None = true
is_above_at v (Some u) = is_greater (rank_cmp v u)

-- whether a version is above the one at an index, or there is no version at the index
abbrev pub is_higher : List SemanticVersion → SemanticVersion → Option ℕ → Bool
is_higher vs v None = true
is_higher vs v (Some index) = is_above_at v (slice_get vs index)

-- of the first n versions, none that counts is above this one
abbrev pub IsHighest : List SemanticVersion → Option GoModule → ℕ → SemanticVersion → Type 0
IsHighest vs m n v = (k : ℕ) (u : SemanticVersion) → k < n → slice_get vs k ≡ Some u → counts m u ≡ true → ¬ IsAbove u v

-- the index of the highest version that counts among the first n; `None` means that none of them counts
abbrev pub IsBest : List SemanticVersion → Option GoModule → ℕ → Option ℕ → Type 0
IsBest vs m n None = (k : ℕ) (u : SemanticVersion) → k < n → slice_get vs k ≡ Some u → counts m u ≡ true → ⊥
IsBest vs m n (Some p) = (v : SemanticVersion) × (slice_get vs p ≡ Some v) × (counts m v ≡ true) × IsHighest vs m n v

-- of versions that fit one path, at most one is the top, and at most one is the top of those that a go.mod does not
-- retract
abbrev pub TopIsOne : Type 0
TopIsOne = (path : List ℕ) (vs : List SemanticVersion)
    → ((x : SemanticVersion) → Contains vs x → IsVersionOf path x) → (u v : SemanticVersion)
    → (IsTop (among vs) u → IsTop (among vs) v → u ≡ v)
    × ((m : GoModule) → IsTop (unretracted vs m) u → IsTop (unretracted vs m) v → u ≡ v)
