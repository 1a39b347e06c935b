-- Laws of texts and their versions, over the definitions alone.
use Rattle.std.specs.Prelude.{ℕ, ◌≡◌, ◌↔◌, ◌⊎◌, true, List, Some}
use Rattle.modver.specs.Reading.{IsCanonical, IsFault, version_of}
use Rattle.modver.specs.SemanticVersion.{IsVersion, SemanticVersion, has_text, version_text}
use Rattle.modver.specs.declared.version.VersionFault.{VersionFault}

-- two versions that have the same text are equal
abbrev pub TextIsOneToOne : Type 0
TextIsOneToOne = (u v : SemanticVersion) → IsVersion u → IsVersion v → version_text u ≡ version_text v → u ≡ v

-- the computed version of a text is `v` exactly if the text is the canonical text of `v`
abbrev pub VersionOfIsExact : Type 0
VersionOfIsExact = (text : List ℕ) (v : SemanticVersion) → (version_of text ≡ Some v) ↔ IsCanonical text v

-- the test `has_text` is true exactly of the versions that have a canonical text
abbrev pub HasTextIsExact : Type 0
HasTextIsExact = (v : SemanticVersion) → (has_text v ≡ true) ↔ IsCanonical (version_text v) v

-- a text is the canonical text of one version or faulty in one way, and not both
pub record HasOneReading (text : List ℕ) : Type 0 where
  pub some : ((v : SemanticVersion) × IsCanonical text v) ⊎ ((f : VersionFault) × IsFault text f)
  pub one_version : (u v : SemanticVersion) → IsCanonical text u → IsCanonical text v → u ≡ v
  pub one_fault : (f g : VersionFault) → IsFault text f → IsFault text g → f ≡ g
  pub not_both : (v : SemanticVersion) (f : VersionFault) → IsCanonical text v → ¬ (IsFault text f)

abbrev pub EachTextHasOneReading : Type 0
EachTextHasOneReading = (text : List ℕ) → HasOneReading text
