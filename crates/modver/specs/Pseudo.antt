-- What a pseudo-version is. (Go Modules Reference, "Pseudo-versions".)
use Rattle.std.specs.Prelude.{ℕ, ◌≡◌, ◌≢◌, ◌≤◌, ◌⊎◌, true, List, [], ◌∷◌, ◌++◌, length, codes}
use Rattle.std.specs.List.{list_all}
use Rattle.modver.specs.SemanticVersion.{SemanticVersion}
use Rattle.modver.specs.Time.{IsStamp, is_lower_hex}

-- the last identifier of a pseudo-version: a stamp, `-`, and a revision of 12 lower-case hexadecimal digits
pub record IsStamped (identifier stamp : List ℕ) : Type 0 where
  pub revision : List ℕ
  pub same : identifier ≡ stamp ++ 45 ∷ revision
  pub named : IsStamp stamp
  pub hexadecimal : (length revision ≡ 12) × (list_all is_lower_hex revision ≡ true)

-- `vX.0.0-STAMP-REVISION`: there is no earlier version
pub record HasNoBase (v : SemanticVersion) (stamp : List ℕ) : Type 0 where
  pub last : List ℕ
  pub identifiers : v.identifiers ≡ last ∷ []
  pub numbers : (v.minor ≡ 0) × (v.patch ≡ 0)
  pub stamped : IsStamped last stamp

-- `vX.Y.Z-0.STAMP-REVISION`: the patch number is one above that of the release before
pub record FollowsRelease (v : SemanticVersion) (stamp : List ℕ) : Type 0 where
  pub last : List ℕ
  pub identifiers : v.identifiers ≡ codes "0" ∷ last ∷ []
  pub patch : 1 ≤ v.patch
  pub stamped : IsStamped last stamp

-- `vX.Y.Z-PRE.0.STAMP-REVISION`: the version before is the pre-release `vX.Y.Z-PRE`
pub record FollowsPreRelease (v : SemanticVersion) (stamp : List ℕ) : Type 0 where
  pub front : List (List ℕ)
  pub last : List ℕ
  pub some : front ≢ []
  pub identifiers : v.identifiers ≡ front ++ codes "0" ∷ last ∷ []
  pub stamped : IsStamped last stamp

-- a pseudo-version, with its stamp
abbrev pub IsPseudo : SemanticVersion → List ℕ → Type 0
IsPseudo v stamp = HasNoBase v stamp ⊎ (FollowsRelease v stamp ⊎ FollowsPreRelease v stamp)
