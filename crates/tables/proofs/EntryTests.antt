-- Entries that are tested.
use Rattle.std.proofs.Common.{◌≡◌, ◌≤◌, ℕ, length, Bool, true, false, cond, List, Option, Some, None, IfSome, refl, sym}
use Rattle.std.proofs.Common.{ap, subst, ◌∙◌}
use Rattle.modver.specs.Class.{class_of}
use Rattle.modver.specs.Reading.{version_of}
use Rattle.modver.specs.SemanticVersion.{SemanticVersion}
use Rattle.modver.specs.Time.{IsTime}
use Rattle.modver.specs.declared.version.Class.{Class}
use Rattle.modver.specs.declared.version.Class.TheVariants as class
use Rattle.modver.proofs.Readings.{version-of}
use Rattle.modver.proofs.PseudoForms.{each-class, stamp-time}
use Rattle.world.specs.declared.entry.Place.{Place}
use Rattle.world.specs.declared.entry.Entry.{Entry}
use Rattle.world.specs.EntryTest.{is_entry, fitting_version}
use Rattle.world.specs.World.{place, IsEntry, IsTimeOf, zip_limit}
use Rattle.world.proofs.EntryTests.{entry_exact}

-- the time that goes with the class of a version is a time
timed : (v : SemanticVersion) (c : Class) (time : Option (List ℕ)) → class_of v ≡ c → IsTimeOf c time
    → IfSome time IsTime
timed v c None is of = tt
timed v (class.Pseudo stamp) (Some t) is of =
    let p = ((each-class v).pseudo stamp).0 is in
    let same : t ≡ stamp = cc in
    subst IsTime (sym (same ∙ p.2)) (stamp-time v p.0 p.1)
timed v class.Release (Some t) is of = of
timed v class.Pre (Some t) is of = of

pub entry_timed : (q : Place) (e : Entry) → IsEntry q e → IfSome e.time IsTime
entry_timed q e is = timed is.version.0 (class_of is.version.0) e.time refl is.time

-- if there is a fitting version, the entry may stand there on any shelf, and the text names that version
pub fitting_some : (p v : List ℕ) (e : Entry) (x : SemanticVersion) → Some x ≡ fitting_version p v e
    → ((s : List ℕ) → IsEntry (place s p v) e) × (version_of v ≡ Some x)
fitting_some p v e x found = let it = picked (is_entry p v e) (version_of v) found in
    (λ s. (entry_exact s p v e).0 it.0, it.1)
  where
    picked : (b : Bool) (o : Option SemanticVersion) → Some x ≡ cond b o None → (b ≡ true) × (o ≡ Some x)
    picked true o is = (refl, sym is)
    picked false o is = absurd (cc)

-- if there is no fitting version, the entry may not stand there
pub fitting_none : (p v : List ℕ) (e : Entry) → None ≡ fitting_version p v e → (s : List ℕ) → IsEntry (place s p v) e
    → ⊥
fitting_none p v e found s is =
    let passes : is_entry p v e ≡ true = (entry_exact s p v e).1 is in
    let named : version_of v ≡ Some is.version.0 = (version-of v is.version.0).1 is.version.1 in
    let both : ◌≡◌ {A = Option SemanticVersion} None (Some is.version.0) = found
    ∙ (ap (λ b. cond b (version_of v) None) passes ∙ named) in
    absurd (cc)

-- an entry that may stand there may stand with another zip that is no longer than a zip may be
pub with_zip : (q : Place) (e : Entry) (zip : List ℕ) → IsEntry q e → length zip ≤ zip_limit
    → IsEntry q (record e { zip = zip })
with_zip q e zip is small =
    record {
      path = is.path;
      version = is.version;
      fits = is.fits;
      gomod = is.gomod;
      zip = small;
      time = is.time;
      reads = is.reads;
    }
