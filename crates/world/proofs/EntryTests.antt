-- The test of an entry passes exactly those that may stand.
use Rattle.std.proofs.Common.{◌≡◌, ◌≤◌, ℕ, List, [], ◌∷◌, Bool, true, false, cond, refl, ◌∙◌, sym, ap, Option, Some}
use Rattle.std.proofs.Common.{None, length}
use Rattle.std.specs.Prelude.{◌&&◌, bytes_eq, is_none, is_ok, nat_le, not}
use Rattle.std.proofs.lemmas.Bool.{and_parts, and_from, le-leb, leb-true, not-false, true≢false}
use Rattle.modver.proofs.Readings.{version-of}
use Rattle.modver.proofs.Times.{time-exact}
use Rattle.modver.specs.Class.{class_of}
use Rattle.modver.specs.Reading.{version_of}
use Rattle.modver.specs.SemanticVersion.{SemanticVersion}
use Rattle.modver.specs.declared.version.Class.{Class}
use Rattle.modver.specs.declared.version.Class.TheVariants as class
use Rattle.world.specs.declared.entry.Entry.{Entry}
use Rattle.world.specs.declared.entry_test.Misfit.TheVariants as misfit
use Rattle.world.specs.declared.reading.Reading.{Reading}
use Rattle.world.specs.declared.reading.Reading.TheVariants.{Module, Fault}
use Rattle.world.specs.EntryTest.{EntryTestIsExact, first_failing, goes_with, has_fault, has_more, is_entry, is_small}
use Rattle.world.specs.EntryTest.{is_time_of, module_misfit, names_other, own_misfit}
use Rattle.world.specs.Forms.{fits, is_path, suffix_of}
use Rattle.world.specs.GoMods.{IsGoModOf, reading_of}
use Rattle.world.specs.World.{IsEntry, IsTimeOf, gomod_limit, place, zip_limit}
use Rattle.world.proofs.PathForm.{path_form}
use Rattle.world.proofs.Orders.{text_same, text_self}

-- none of three checks fails
none_fails : {A : Type 0} (a b c : Bool) (x y z : A) → is_none (first_failing ((a, x) ∷ (b, y) ∷ (c, z) ∷ [])) ≡ true
    → (a ≡ false) × (b ≡ false) × (c ≡ false)
none_fails true b c x y z e = absurd (true≢false (sym e))
none_fails false true c x y z e = absurd (true≢false (sym e))
none_fails false false true x y z e = absurd (true≢false (sym e))
none_fails false false false x y z e = (refl, refl, refl)

all_pass : {A : Type 0} (a b c : Bool) (x y z : A) → a ≡ false → b ≡ false → c ≡ false
    → is_none (first_failing ((a, x) ∷ (b, y) ∷ (c, z) ∷ [])) ≡ true
all_pass a b c x y z p q r = rw (p, q, r) refl

-- ---- what the test says

pub time_so : (c : Class) (time : Option (List ℕ)) → is_time_of c time ≡ true → IsTimeOf c time
time_so (class.Pseudo stamp) None e = absurd (true≢false (sym e))
time_so (class.Pseudo stamp) (Some time) e = ap (λ (t : List ℕ). Some t) (text_same time stamp e)
time_so c None e = tt
time_so c (Some time) e = (time-exact time).0 e

-- the files of an entry that is small
pub small_so : (e : Entry) → is_small e ≡ true → (length e.gomod ≤ gomod_limit) × (length e.zip ≤ zip_limit)
small_so e is =
    let sizes = and_parts (nat_le (length e.gomod) gomod_limit) _ is in
    (leb-true (length e.gomod) gomod_limit sizes.0, leb-true (length e.zip) zip_limit sizes.1)

-- a go.mod that was read
pub gomod_so : (path : List ℕ) (is_marked : Bool) (bytes : List ℕ) (r : Reading) → reading_of bytes ≡ r
    → has_fault r ≡ false → names_other path r ≡ false → (is_marked && has_more r) ≡ false
    → IsGoModOf path is_marked bytes
gomod_so path is_marked bytes (Fault line) read sound named bare = absurd (true≢false sound)
gomod_so path is_marked bytes (Module m) read sound named bare = record {
  says = m;
  reads = read;
  names = text_same m.path path (not-false (bytes_eq m.path path) named);
  bare = λ is. not-false m.bare (ap (λ b. b && not m.bare) (sym is) ∙ bare);
}

-- if the texts name a path and the version v and the test passes, the entry may stand there
version_so : (s path version : List ℕ) (e : Entry) (v : SemanticVersion) → is_path path ≡ true
    → version_of version ≡ Some v → goes_with (Some path) (Some v) e ≡ true → IsEntry (place s path version) e
version_so s path version e v well named at =
    let all = and_parts (is_none (own_misfit path v e))
    (is_none (module_misfit path v.marked (reading_of e.gomod))) at in
    let own = none_fails (not (is_small e)) (not (fits (suffix_of path) v)) (not (is_time_of (class_of v) e.time)) _ _ _
    all.0 in
    let gomod = none_fails (has_fault (reading_of e.gomod)) (names_other path (reading_of e.gomod))
    (v.marked && has_more (reading_of e.gomod)) _ _ _ all.1 in
    let sizes = small_so e (not-false (is_small e) own.0) in
    record {
      path = path_form path well;
      version = (v, (version-of version v).0 named);
      fits = not-false (fits (suffix_of path) v) own.1;
      gomod = sizes.0;
      zip = sizes.1;
      time = time_so (class_of v) e.time (not-false (is_time_of (class_of v) e.time) own.2);
      reads = gomod_so path v.marked e.gomod (reading_of e.gomod) refl gomod.0 gomod.1 gomod.2;
    }

-- if the test passes, the entry may stand at the place
entry_so : (s path version : List ℕ) (e : Entry) → is_entry path version e ≡ true → IsEntry (place s path version) e
entry_so s path version e =
    elim (is_path path) as (λ b. is_path path ≡ b → goes_with (cond b (Some path) None) (version_of version) e ≡ true
    → IsEntry (place s path version) e) [
      | true ↦ λ well.
          elim (version_of version) as
          (λ o. version_of version ≡ o → goes_with (Some path) o e ≡ true → IsEntry (place s path version) e) [
            | None ↦ λ _ at. absurd (true≢false (sym at))
            | Some v ↦ λ named at. version_so s path version e v well named at
          ] refl
      | false ↦ λ _ at. absurd (true≢false (sym at))
    ] refl

-- ---- what passes the test

time_passes : (c : Class) (time : Option (List ℕ)) → IsTimeOf c time → is_time_of c time ≡ true
time_passes (class.Pseudo stamp) time is = ap (is_time_of (class.Pseudo stamp)) is ∙ text_self stamp
time_passes c None is = refl
time_passes c (Some time) is = (time-exact time).1 is

not_more : (a b : Bool) → (a ≡ true → b ≡ true) → (a && not b) ≡ false
not_more true b f = ap not (f refl)
not_more false b f = refl

gomod_passes : (path : List ℕ) (is_marked : Bool) (bytes : List ℕ) → IsGoModOf path is_marked bytes
    → is_none (module_misfit path is_marked (reading_of bytes)) ≡ true
gomod_passes path is_marked bytes is =
    ap (λ r. is_none (module_misfit path is_marked r)) is.reads
    ∙ all_pass false (not (bytes_eq is.says.path path)) (is_marked && not is.says.bare) (misfit.GoMod 0)
    misfit.ModulePath misfit.NotBare refl
    (ap not (ap (λ p. bytes_eq p path) is.names ∙ text_self path)) (not_more is_marked is.says.bare is.bare)

entry_passes : (s path version : List ℕ) (e : Entry) → IsEntry (place s path version) e → is_entry path version e ≡ true
entry_passes s path version e is =
    let v : SemanticVersion = is.version.0 in
    let small : is_small e ≡ true =
    and_from (nat_le (length e.gomod) gomod_limit) _ (le-leb (length e.gomod) gomod_limit is.gomod)
    (le-leb (length e.zip) zip_limit is.zip) in
    ap (λ b. goes_with (cond b (Some path) None) (version_of version) e) (ap is_ok is.path)
    ∙ ap (λ o. goes_with (Some path) o e) ((version-of version v).1 is.version.1)
    ∙ and_from (is_none (own_misfit path v e)) _
    (all_pass (not (is_small e)) (not (fits (suffix_of path) v)) (not (is_time_of (class_of v) e.time)) _ _ _
    (ap not small) (ap not is.fits) (ap not (time_passes (class_of v) e.time is.time)))
    (gomod_passes path v.marked e.gomod is.reads)

pub entry_exact : EntryTestIsExact
entry_exact s path version e = (entry_so s path version e, entry_passes s path version e)
