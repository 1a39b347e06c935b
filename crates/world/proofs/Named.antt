-- Which versions texts name.
use Rattle.std.proofs.Common.{◌≡◌, List, ℕ, refl, sym, Some, None, ◌⊎◌, inl, inr}
use Rattle.modver.specs.Reading.{IsCanonical, IsFault, IsHeld, version_of}
use Rattle.modver.specs.SemanticVersion.{SemanticVersion}
use Rattle.modver.specs.declared.version.VersionFault.{VersionFault}
use Rattle.modver.specs.declared.version.VersionFault.TheVariants as fault
use Rattle.modver.proofs.Readings.{version-of, not-faulty}

-- a canonical text names its version
pub names_version : (t : List ℕ) (v : SemanticVersion) → IsCanonical t v → Some v ≡ version_of t
names_version t v canonical = sym ((version-of t v).1 canonical)

-- a faulty text names no version
pub names_none : (t : List ℕ) (f : VersionFault) → IsFault t f → None ≡ version_of t
names_none t f faulty = elim (version_of t) as (λ o. version_of t ≡ o → None ≡ o) [
  | None ↦ λ _. refl
  | Some v ↦ λ e. absurd (not-faulty t v f ((version-of t v).0 e) faulty)
] refl

pub read_none : (t : List ℕ) (f : VersionFault) → (IsFault t f ⊎ ((f ≡ fault.Memory) × IsHeld t)) → ¬ (f ≡ fault.Memory)
    → None ≡ version_of t
read_none t f (inl faulty) other = names_none t f faulty
read_none t f (inr held) other = absurd (other held.0)
