-- The test whether one version is below another decides it, and the version of a text is that which modver reads.
use Rattle.std.proofs.Common.{◌≡◌, ℕ, true, refl, ap, List, Option, Some, None, Ok, Err, ◌⊎◌, ⊎_elim}
use Rattle.std.specs.Ordering.{is_lt}
use Rattle.std.specs.declared.cmp.Ordering.{Ordering}
use Rattle.std.specs.declared.cmp.Ordering.TheVariants.{Less, Equal, Greater}
use Rattle.modver.specs.Precedence.{precedence}
use Rattle.modver.specs.Reading.{IsCanonical, IsFault, IsHeld}
use Rattle.modver.specs.declared.version.VersionFault.{VersionFault}
use Rattle.modver.specs.declared.version.VersionFault.TheVariants as version_faults
use Rattle.modver.proofs.Readings as modver
use Rattle.gomod.specs.declared.fault.GoModFault.TheVariants as faults
use Rattle.gomod.specs.Paths.{Version, is_below, IsBelow, version_of}
use Rattle.gomod.specs.Reading.{Fails, version_fault, version_found}

less : (o : Ordering) → is_lt o ≡ true → o ≡ Less
less Less h = refl
less Equal h = cc
less Greater h = cc

pub is_below-true : (u v : Version) → is_below u v ≡ true → IsBelow u v
unfolding is_below IsBelow
is_below-true u v h = less (precedence u v) h

pub is_below-from : (u v : Version) → IsBelow u v → is_below u v ≡ true
unfolding is_below IsBelow
is_below-from u v h = ap is_lt h

-- the version found in a canonical text is its version, and in a faulty text there is none
pub version_of-canonical : (line : ℕ) (text : List ℕ) (v : Version) → IsCanonical text v
    → version_found line (version_of text) ≡ Ok v
unfolding version_of
version_of-canonical line text v h = ap (version_found line) ((modver.version-of text v).1 h)

no_version : (line : ℕ) (text : List ℕ) (f : VersionFault) (o : Option Version) → version_of text ≡ o → IsFault text f
    → version_found line o ≡ Err (faults.Version line)
unfolding version_of
no_version line text f None is h = refl
no_version line text f (Some v) is h = absurd (modver.not-faulty text v f ((modver.version-of text v).0 is) h)

pub version_of-fault : (line : ℕ) (text : List ℕ) (f : VersionFault) → IsFault text f
    → version_found line (version_of text) ≡ Err (faults.Version line)
version_of-fault line text f h = no_version line text f (version_of text) refl h

-- a text that was read as no version
pub version_of-unread : (line : ℕ) (text : List ℕ) (f : VersionFault)
    → IsFault text f ⊎ ((f ≡ version_faults.Memory) × IsHeld text)
    → Fails (version_fault line f) (version_found line (version_of text))
version_of-unread line text version_faults.Form h =
    ⊎_elim (λ fault. version_of-fault line text version_faults.Form fault) (λ m. (let bad = m.0 in cc)) h
version_of-unread line text version_faults.Build h =
    ⊎_elim (λ fault. version_of-fault line text version_faults.Build fault) (λ m. (let bad = m.0 in cc)) h
version_of-unread line text version_faults.TooLong h =
    ⊎_elim (λ fault. version_of-fault line text version_faults.TooLong fault) (λ m. (let bad = m.0 in cc)) h
version_of-unread line text version_faults.Memory h = tt
