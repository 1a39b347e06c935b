-- Versions in their escaped form.
use Rattle.std.proofs.Common.{◌≡◌, ◌⊎◌, inl, inr, ℕ, List, Option, Some, None, refl}
use Rattle.modver.proofs.Readings.{not-faulty, version-of}
use Rattle.modver.specs.Reading.{IsCanonical, IsFault, IsHeld, version_of}
use Rattle.modver.specs.SemanticVersion.{SemanticVersion}
use Rattle.modver.specs.declared.version.VersionFault.{VersionFault}
use Rattle.modver.specs.declared.version.VersionFault.TheVariants as refused
use Rattle.wire.specs.ModuleVersion.{plain_of, version_from}

pub version-some : (text plain : List ℕ) (v : SemanticVersion) → plain_of text ≡ Some plain → IsCanonical plain v
    → version_from text ≡ Some v
version-some text plain v is canonical = rw is ((version-of plain v).1 canonical)

no-version : (plain : List ℕ) (fault : VersionFault) → IsFault plain fault → (found : Option SemanticVersion)
    → version_of plain ≡ found → found ≡ None
no-version plain fault faulty None is = refl
no-version plain fault faulty (Some v) is = absurd (not-faulty plain v fault ((version-of plain v).0 is) faulty)

version-none : (text plain : List ℕ) (fault : VersionFault) → plain_of text ≡ Some plain → IsFault plain fault
    → version_from text ≡ None
version-none text plain fault is faulty = rw is (no-version plain fault faulty (version_of plain) refl)

pub version-refused : (text plain : List ℕ) (fault : VersionFault) → plain_of text ≡ Some plain
    → IsFault plain fault ⊎ ((fault ≡ refused.Memory) × IsHeld plain) → ¬ (fault ≡ refused.Memory)
    → version_from text ≡ None
version-refused text plain fault is (inl faulty) other = version-none text plain fault is faulty
version-refused text plain fault is (inr memory) other = absurd (other memory.0)
