-- The computed readings of module paths and versions before and after `/@` agree with their definitions.
use Rattle.std.proofs.Common.{◌≡◌, ℕ, List, [], ◌++◌, codes, Option, Some, None, Ok, Err, true, is_ok, if◌then◌else◌}
use Rattle.std.proofs.Common.{refl, sym, ap, ◌∙◌, subst}
use Rattle.std.proofs.lemmas.List.{append-nil}
use Rattle.std.specs.Option.{option_and_then, option_map}
use Rattle.modpath.specs.Escape.{escaped}
use Rattle.modpath.specs.Path.{Check, IsPath, is_path, path_check}
use Rattle.modver.proofs.Readings.{version-of}
use Rattle.modver.specs.Reading.{IsCanonical, version_of}
use Rattle.modver.specs.SemanticVersion.{SemanticVersion, version_text}
use Rattle.wire.specs.ModuleVersion.{IsModuleVersion, cut_of, pair, path_of, module_version_of, plain_of, version_from}
use Rattle.wire.specs.ModuleVersion.{without_start}
use Rattle.wire.specs.declared.module_version.ModuleVersion.{ModuleVersion}
use Rattle.wire.proofs.PlainBytes.{escaped-no_at, escaped-utf8, path-plain, plain-no_bang, version-plain}
use Rattle.wire.proofs.PlainLemmas.{plain-is, plain-some}
use Rattle.wire.proofs.TargetLemmas.{cut-is, cut-taken, if-some, map-some, start-is, then-some}

-- ---- paths and versions in their escaped forms

passed-by : (outcome : Check) → is_ok outcome ≡ true → outcome ≡ Ok tt
passed-by (Ok tt) h = refl
passed-by (Err f) h = cc h

pub path-is : (text path : List ℕ) → path_of text ≡ Some path → (text ≡ escaped path) × IsPath path
path-is text path h =
    let outer = then-some (λ (plain : List ℕ). if is_path plain then Some plain else None) (plain_of text) path h in
    let found = if-some (is_path outer.0) outer.0 path outer.2 in
    let is = plain-is text outer.0 outer.1 in (
      sym is.same ∙ ap escaped found.1,
      subst IsPath found.1 (passed-by (path_check outer.0) found.0),
    )

pub path-taken : (path : List ℕ) → IsPath path → path_of (escaped path) ≡ Some path
path-taken path is =
    let bytes = path-plain path is in
    let plain = plain-some (escaped path) path (escaped-utf8 path bytes)
    (record { same = refl; no_bang = plain-no_bang path bytes }) in
    rw (plain, is) refl

pub version-is : (text : List ℕ) (v : SemanticVersion) → version_from text ≡ Some v
    → (text ≡ escaped (version_text v)) × IsCanonical (version_text v) v
version-is text v h =
    let outer = then-some version_of (plain_of text) v h in
    let is = plain-is text outer.0 outer.1 in
    let canonical = (version-of outer.0 v).0 outer.2 in
    let same : version_text v ≡ outer.0 = canonical.same in (
      sym is.same ∙ ap escaped (sym same),
      subst (λ (t : List ℕ). IsCanonical t v) (sym same) canonical,
    )

pub version-taken : (v : SemanticVersion) → IsCanonical (version_text v) v
    → version_from (escaped (version_text v)) ≡ Some v
version-taken v is =
    let bytes = version-plain v is.valid in
    let plain = plain-some (escaped (version_text v)) (version_text v) (escaped-utf8 (version_text v) bytes)
    (record { same = refl; no_bang = plain-no_bang (version_text v) bytes }) in
    rw plain ((version-of (version_text v) v).1 is)

-- ---- a path and a version

pair-is : (path : Option (List ℕ)) (version : Option SemanticVersion) (found : ModuleVersion)
    → pair path version ≡ Some found
    → (path ≡ Some found.path) × (version ≡ Some found.version)
pair-is path version found h =
    let outer = then-some (λ (p : List ℕ).
    option_map (λ (v : SemanticVersion). record { path = p; version = v }) version) path found h in
    let inner = map-some (λ (v : SemanticVersion). record { path = outer.0; version = v }) version found outer.2 in (
      outer.1 ∙ ap (λ (p : ModuleVersion). Some p.path) inner.2,
      inner.1 ∙ ap (λ (p : ModuleVersion). Some p.version) inner.2,
    )

-- the path and the version computed of a text are those that the text names
pub module-version-is : (text : List ℕ) (found : ModuleVersion) → module_version_of text ≡ Some found
    → IsModuleVersion text found.path found.version []
unfolding module_version_of
module-version-is text found h =
    let named : List ℕ × List ℕ
    → Option ModuleVersion = λ halves.
    option_and_then (λ name. pair (path_of halves.0) (version_from name)) (without_start (codes "v/") halves.1) in
    let outer = then-some named (cut_of text) found h in
    let inner = then-some (λ name. pair (path_of (outer.0).0) (version_from name))
    (without_start (codes "v/") (outer.0).1) found outer.2 in
    let both = pair-is (path_of (outer.0).0) (version_from inner.0) found inner.2 in
    let cut = cut-is text (outer.0).0 (outer.0).1 outer.1 in
    let name = start-is (codes "v/") (outer.0).1 inner.0 inner.1 in
    let path = path-is (outer.0).0 found.path both.0 in
    let version = version-is inner.0 found.version both.1 in
    let whole = cut ∙ (λ i. path.0 i
    ++ (codes "/@" ++ (name ∙ ap (λ (l : List ℕ). codes "v/" ++ l) (version.0 ∙ sym (append-nil _))) i)) in
    record { whole = whole; path_is = path.1; version_is = version.1 }

pub path-cut : (path behind : List ℕ) → IsPath path
    → cut_of (escaped path ++ (codes "/@" ++ behind)) ≡ Some (escaped path, behind)
path-cut path behind is = cut-taken (escaped path) behind (escaped-no_at path (path-plain path is))

pub module-version-taken : (text path : List ℕ) (version : SemanticVersion) → IsModuleVersion text path version []
    → module_version_of text ≡ Some (record { path = path; version = version })
unfolding module_version_of
module-version-taken text path version is =
    let name = escaped (version_text version) in
    let whole : text ≡ escaped path ++ (codes "/@" ++ (codes "v/" ++ name)) = is.whole
    ∙ ap (λ (l : List ℕ). escaped path ++ (codes "/@v/" ++ l)) (append-nil name) in
    rw (
      whole,
      path-cut path (codes "v/" ++ name) is.path_is,
      path-taken path is.path_is,
      version-taken version is.version_is,
    ) refl
