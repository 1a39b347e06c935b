-- The computed reading of the rest after the key is what a GET asks for.
use Rattle.std.proofs.Common.{◌≡◌, ◌≢◌, ◌==◌, ℕ, ◌+◌, ◌<◌, nat_lt, List, [], ◌∷◌, ◌++◌, length, drop, bytes_eq, codes}
use Rattle.std.proofs.Common.{Option, Some, None}
use Rattle.std.proofs.Common.{true, false, get_or, refl, sym, ap, ◌∙◌, subst, inl, inr, arith, append_assoc}
use Rattle.std.proofs.Common.{length-append}
use Rattle.std.proofs.lemmas.Bool.{cases_Bool, false_from_ne_true, lt-ltb}
use Rattle.std.proofs.lemmas.Bool.Decides.{Decides-eqb}
use Rattle.std.proofs.lemmas.List.{drop_at}
use Rattle.std.specs.Char.{is_ascii_uppercase}
use Rattle.std.specs.Cmp.Lexicographic.{pointwise_decides}
use Rattle.std.specs.List.{onto_first, slice_split}
use Rattle.std.specs.Option.{option_and_then, option_map, option_or}
use Rattle.percent_encoding.proofs.PercentLemmas.{percent_decode-nil, percent_decode_not_percent}
use Rattle.percent_encoding.specs.Percent.{percent_decode}
use Rattle.modpath.proofs.PathLaw.{check_is_exact}
use Rattle.modpath.specs.Escape.{escaped}
use Rattle.modpath.specs.ModulePath.{BeginsWith}
use Rattle.modpath.specs.Path.{IsPath, check_of, first_element}
use Rattle.modver.specs.SemanticVersion.{SemanticVersion, version_text}
use Rattle.wire.specs.ModuleVersion.{IsModuleVersion, cut_of, path_of, module_version_of, version_from, without_end}
use Rattle.wire.specs.ModuleVersion.{without_start}
use Rattle.wire.specs.Resource.{IsResource, asked_by, asked_of, ending_of, of_path, own_of, of_version, resource_for}
use Rattle.wire.specs.Resource.{resource_in, split_file, sum_at, summed_of, without_ending}
use Rattle.wire.specs.Route.{area_of, is_own}
use Rattle.wire.specs.declared.routes.Area.{Area}
use Rattle.wire.specs.declared.routes.Area.TheVariants as area
use Rattle.wire.specs.declared.resources.VersionFile.{VersionFile}
use Rattle.wire.specs.declared.resources.VersionFile.TheVariants as file
use Rattle.wire.specs.declared.resource.Resource.{Resource}
use Rattle.wire.specs.declared.resource.Resource.TheVariants as resource
use Rattle.wire.proofs.ModuleVersionReadings.{path-cut, path-is, path-taken, module-version-is, module-version-taken}
use Rattle.wire.proofs.ModuleVersionReadings.{version-is, version-taken}
use Rattle.wire.proofs.RouteReadings.{StandsIn, area-is, area-path, own-is}
use Rattle.wire.proofs.TargetLemmas.{cut-is, end-is, end-taken, map-some, start-is, then-some}

pub same-text : (xs ys : List ℕ) → bytes_eq xs ys ≡ true → xs ≡ ys
same-text xs ys h = (pointwise_decides Decides-eqb xs ys).0 h

-- ---- a plain dash

-- what a text that begins with a dash and a slash decodes to
pub dash-decoded : (behind : List ℕ) → percent_decode (codes "-/" ++ behind) ≡ codes "-/" ++ percent_decode behind
dash-decoded behind =
    let dash : 45 ≢ 37 = omega arith in
    let slash : 47 ≢ 37 = omega arith in
    percent_decode_not_percent 45 (47 ∷ behind) dash
    ∙ ap (λ (l : List ℕ). 45 ∷ l) (percent_decode_not_percent 47 behind slash)

dash-first : (es : List (List ℕ)) → BeginsWith (first_element (onto_first 45 es)) (codes "-")
dash-first [] = ([], refl)
dash-first (e ∷ es) = (e, refl)

-- no path begins with a dash
no-dash : (path : List ℕ) → IsPath (45 ∷ path) → ⊥
no-dash path is = ((check_is_exact (45 ∷ path)).0 is).first.no_dash (dash-first (slice_split (λ b. b == 47) path))

-- no path is empty
no-empty : IsPath [] → ⊥
unfolding check_of
no-empty is = cc is

-- and neither does its escaped form
escaped-dash : (path behind rest : List ℕ) → IsPath path → escaped path ++ (47 ∷ behind) ≡ codes "-/" ++ rest → ⊥
escaped-dash [] behind rest is e = no-empty is
escaped-dash (b ∷ path) behind rest is e = elim (cases_Bool (is_ascii_uppercase b)) [
  | inl upper ↦
      let same : 33 ∷ ((b + 32) ∷ (escaped path ++ (47 ∷ behind))) ≡ 45 ∷ (47 ∷ rest) = rw upper at e in
      absurd (omega (arith, ap (λ (l : List ℕ). get_or l 0 0) same))
  | inr lower ↦
      let same : b ∷ (escaped path ++ (47 ∷ behind)) ≡ 45 ∷ (47 ∷ rest) = rw lower at e in
      let dash : b ≡ 45 = ap (λ (l : List ℕ). get_or l 0 0) same in
      no-dash path (subst (λ (c : ℕ). IsPath (c ∷ path)) dash is)
]

-- a rest that decodes to a path is asked of that path
pub path-area : (rest path behind : List ℕ) → percent_decode rest ≡ escaped path ++ (47 ∷ behind) → IsPath path
    → area_of rest ≡ Some (area.Path, rest)
path-area rest path behind whole is = area-path rest (false_from_ne_true (is_own rest) never) (some rest whole)
  where
    never : is_own rest ≡ true → ⊥
    never own = escaped-dash path behind (percent_decode (drop 2 rest)) is
        (sym whole ∙ ap percent_decode (own-is rest own).0 ∙ dash-decoded (drop 2 rest))

    some : (r : List ℕ) → percent_decode r ≡ escaped path ++ (47 ∷ behind) → 0 < length r
    some [] e = absurd (omega
        (arith, ap length (sym percent_decode-nil ∙ e), length-append (escaped path) (47 ∷ behind)))
    some (b ∷ r) e = omega arith

-- ---- files of a version

asked-by-is : (p q : VersionFile) (name version : List ℕ) → asked_by p name ≡ Some (version, q)
    → (name ≡ version ++ ending_of q)
asked-by-is p q name version h =
    let found = map-some (λ (v : List ℕ). (v, p)) (without_end (ending_of p) name) (version, q) h in
    let versions : found.0 ≡ version = ap (λ (x : List ℕ × VersionFile). x.0) found.2 in
    let files : p ≡ q = ap (λ (x : List ℕ × VersionFile). x.1) found.2 in
    end-is (ending_of p) name found.0 found.1 ∙ (λ i. versions i ++ ending_of (files i))

either-is : (A : Type 0) (P : A → Type 0) (a b : Option A) (x : A) → option_or a b ≡ Some x → (a ≡ Some x → P x)
    → (b ≡ Some x → P x) → P x
either-is A P (Some y) b x h left right = left h
either-is A P None b x h left right = right h

without-ending-is : (name version : List ℕ) (p : VersionFile) → without_ending name ≡ Some (version, p)
    → name ≡ version ++ ending_of p
without-ending-is name version p h =
    let Named : List ℕ × VersionFile → Type 0 = λ found. name ≡ found.0 ++ ending_of found.1 in
    either-is (List ℕ × VersionFile) Named (asked_by file.Info name)
    (option_or (asked_by file.GoMod name) (asked_by file.Zip name)) (version, p) h
    (asked-by-is file.Info p name version)
    (λ later. either-is (List ℕ × VersionFile) Named (asked_by file.GoMod name) (asked_by file.Zip name) (version, p)
    later
    (asked-by-is file.GoMod p name version) (asked-by-is file.Zip p name version))

split-is : (asked version : List ℕ) (p : VersionFile) → split_file asked ≡ Some (version, p)
    → asked ≡ codes "v/" ++ (version ++ ending_of p)
split-is asked version p h =
    let outer = then-some without_ending (without_start (codes "v/") asked) (version, p) h in
    start-is (codes "v/") asked outer.0 outer.1
    ∙ ap (λ (l : List ℕ). codes "v/" ++ l) (without-ending-is outer.0 version p outer.2)

-- texts with other endings of one length
other-ends : (front other x y : List ℕ) → front ++ x ≡ other ++ y → length x ≡ length y → x ≡ y
other-ends front other x y e l =
    let fronts : length front ≡ length other =
    omega (arith, ap length e, length-append front x, length-append other y, l) in
    sym (drop_at front x (length front) refl) ∙ ap (drop (length front)) e ∙ drop_at other y (length front) (sym fronts)

-- the last bytes of two equal texts are equal
same-last : (front other x y : List ℕ) (a b : ℕ) → front ++ (x ++ a ∷ []) ≡ other ++ (y ++ b ∷ []) → a ≡ b
same-last front other x y a b e =
    let same : (front ++ x) ++ a ∷ [] ≡ (other ++ y) ++ b ∷ [] = append_assoc front x (a ∷ []) ∙ e
    ∙ sym (append_assoc other y (b ∷ [])) in
    ap (λ (l : List ℕ). get_or l 0 0) (other-ends (front ++ x) (other ++ y) (a ∷ []) (b ∷ []) same refl)

-- an ending that a name does not have
no-end : (ending name : List ℕ) → ((front : List ℕ) → name ≡ front ++ ending → ⊥) → (found : Option (List ℕ))
    → without_end ending name ≡ found → found ≡ None
no-end ending name never None e = refl
no-end ending name never (Some front) e = absurd (never front (end-is ending name front e))

no-info : (front x : List ℕ) (b : ℕ) → b ≢ 111 → without_end (codes ".info") (front ++ (x ++ b ∷ [])) ≡ None
no-info front x b other =
    no-end (codes ".info") (front ++ (x ++ b ∷ [])) (λ f e. other (same-last front f x (codes ".inf") b 111 e)) _ refl

without-ending-taken : (version : List ℕ) (p : VersionFile)
    → without_ending (version ++ ending_of p) ≡ Some (version, p)
without-ending-taken version file.Info = rw (end-taken (codes ".info") version) refl
without-ending-taken version file.GoMod =
    rw (no-info version (codes ".mo") 100 (omega arith), end-taken (codes ".mod") version) refl
without-ending-taken version file.Zip =
    let other : 112 ≢ 100 = omega arith in
    let no-mod = no-end (codes ".mod") (version ++ codes ".zip")
    (λ f e. other (same-last version f (codes ".zi") (codes ".mo") 112 100 e)) _ refl in
    rw (no-info version (codes ".zi") 112 (omega arith), no-mod, end-taken (codes ".zip") version) refl

-- such a name is no list
no-list : (version : List ℕ) (p : VersionFile) → bytes_eq (version ++ ending_of p) (codes "list") ≡ false
no-list version p = elim (cases_Bool (bytes_eq (version ++ ending_of p) (codes "list"))) [
  | inl same ↦ absurd (apart p (same-text (version ++ ending_of p) (codes "list") same))
  | inr other ↦ other
]
  where
    apart : (q : VersionFile) → version ++ ending_of q ≡ codes "list" → ⊥
    apart file.Info e = omega (arith, same-last version [] (codes ".inf") (codes "lis") 111 116 e)
    apart file.GoMod e = omega (arith, same-last version [] (codes ".mo") (codes "lis") 100 116 e)
    apart file.Zip e = omega (arith, same-last version [] (codes ".zi") (codes "lis") 112 116 e)

-- a version and the ending of a file after `v/` are read as that file of the version
of-version-taken : (path name : List ℕ) (v : SemanticVersion) (p : VersionFile) → version_from name ≡ Some v
    → of_path path (codes "v/" ++ (name ++ ending_of p)) ≡ Some (resource_for p path v)
of-version-taken path name v p is = rw (no-list name p, without-ending-taken name p, is) refl

-- ---- what is asked of a path

-- the area and what is asked there give the resource
pub record IsTaken (rest : List ℕ) (asked : Resource) : Type 0 where
  pub where_is : Area
  pub behind : List ℕ
  pub found : area_of rest ≡ Some (where_is, behind)
  pub taken : resource_in where_is behind ≡ Some asked

of-path-taken : (rest path behind : List ℕ) (asked : Resource)
    → percent_decode rest ≡ escaped path ++ (codes "/@" ++ behind) → IsPath path
    → of_path path behind ≡ Some asked → IsTaken rest asked
unfolding asked_of
of-path-taken rest path behind asked whole is h = record {
  where_is = area.Path;
  behind = rest;
  found = path-area rest path (64 ∷ behind) whole is;
  taken = rw (whole, path-cut path behind is, path-taken path is) h;
}

file-taken : (rest path : List ℕ) (v : SemanticVersion) (p : VersionFile)
    → IsModuleVersion (percent_decode rest) path v (ending_of p)
    → IsTaken rest (resource_for p path v)
file-taken rest path v p is =
    of-path-taken rest path (codes "v/" ++ (escaped (version_text v) ++ ending_of p)) (resource_for p path v) is.whole
    is.path_is
    (of-version-taken path (escaped (version_text v)) v p (version-taken v is.version_is))

own-taken : (rest behind text : List ℕ) (asked : Resource) → rest ≡ codes "-/" ++ behind → percent_decode behind ≡ text
    → own_of text ≡ Some asked
    → IsTaken rest asked
own-taken rest [] text asked whole decodes taken =
    let none : own_of [] ≡ Some asked =
    subst (λ (l : List ℕ). own_of l ≡ Some asked) (sym decodes ∙ percent_decode-nil) taken in cc none
own-taken rest (b ∷ behind) text asked whole decodes taken =
    let long : nat_lt 2 (length (codes "-/" ++ (b ∷ behind))) ≡ true = lt-ltb 2 _ (omega arith) in
    record { where_is = area.Shelf; behind = b ∷ behind; found = rw (whole, long) refl; taken = rw decodes taken }

summed-taken : (text path : List ℕ) (v : SemanticVersion) → IsModuleVersion text path v []
    → own_of (codes "gosum/" ++ text) ≡ Some (resource.GoSum path v)
summed-taken text path v is = rw (module-version-taken text path v is) refl

pub resource-taken : (rest : List ℕ) (asked : Resource) → IsResource rest asked → IsTaken rest asked
resource-taken rest (resource.Info path v) is = file-taken rest path v file.Info is
resource-taken rest (resource.GoMod path v) is = file-taken rest path v file.GoMod is
resource-taken rest (resource.Zip path v) is = file-taken rest path v file.Zip is
resource-taken rest (resource.List path) is =
    of-path-taken rest path (codes "v/list") (resource.List path) is.whole is.path_is refl
resource-taken rest (resource.Latest path) is =
    of-path-taken rest path (codes "latest") (resource.Latest path) is.whole is.path_is refl
resource-taken rest resource.Modules is =
    own-taken rest is.behind (codes "modules") resource.Modules is.whole is.decodes refl
resource-taken rest (resource.GoSum path v) is =
    own-taken rest is.own.behind (codes "gosum/" ++ is.text) (resource.GoSum path v) is.own.whole is.own.decodes
    (summed-taken is.text path v is.named)

-- ---- and back

file-resource : (rest path : List ℕ) (v : SemanticVersion) (p : VersionFile)
    → IsModuleVersion (percent_decode rest) path v (ending_of p) → IsResource rest (resource_for p path v)
file-resource rest path v file.Info is = is
file-resource rest path v file.GoMod is = is
file-resource rest path v file.Zip is = is

-- what is computed for a file of a version is what the rest asks for
of-version-is : (rest path behind : List ℕ) (asked : Resource)
    → percent_decode rest ≡ escaped path ++ (codes "/@" ++ behind) → IsPath path
    → of_version path behind ≡ Some asked → IsResource rest asked
of-version-is rest path behind asked whole is h =
    let outer = then-some (λ (found : List ℕ × VersionFile).
    option_map (λ (v : SemanticVersion). resource_for found.1 path v) (version_from found.0)) (split_file behind)
    asked h in
    let name = (outer.0).0 in
    let p = (outer.0).1 in
    let inner = map-some (λ (v : SemanticVersion). resource_for p path v) (version_from name) asked outer.2 in
    let version = version-is name inner.0 inner.1 in
    let named = split-is behind name p outer.1 in
    let named-so : IsModuleVersion (percent_decode rest) path inner.0 (ending_of p) = record {
      whole = whole ∙ (λ i. escaped path ++ (codes "/@" ++ named i))
          ∙ (λ i. escaped path ++ (codes "/@v/" ++ (version.0 i ++ ending_of p)));
      path_is = is;
      version_is = version.1;
    } in
    subst (IsResource rest) inner.2 (file-resource rest path inner.0 p named-so)

-- what is computed for a path and the text after `/@` is what the rest asks for
of-path-is : (rest path behind : List ℕ) (asked : Resource)
    → percent_decode rest ≡ escaped path ++ (codes "/@" ++ behind) → IsPath path
    → of_path path behind ≡ Some asked → IsResource rest asked
of-path-is rest path behind asked whole is h = elim (cases_Bool (bytes_eq behind (codes "latest"))) [
  | inl latest ↦
      let same : resource.Latest path ≡ asked = cc (rw latest at h) in
      let behinds = same-text behind (codes "latest") latest in
      subst (IsResource rest) same
      (record { whole = whole ∙ (λ i. escaped path ++ (codes "/@" ++ behinds i)); path_is = is })
  | inr other ↦ elim (cases_Bool (bytes_eq behind (codes "v/list"))) [
    | inl list ↦
        let same : resource.List path ≡ asked = cc (rw (other, list) at h) in
        let behinds = same-text behind (codes "v/list") list in
        subst (IsResource rest) same
        (record { whole = whole ∙ (λ i. escaped path ++ (codes "/@" ++ behinds i)); path_is = is })
    | inr more ↦ of-version-is rest path behind asked whole is (rw (other, more) at h)
  ]
]

asked-is : (rest : List ℕ) (asked : Resource) → asked_of (percent_decode rest) ≡ Some asked → IsResource rest asked
unfolding asked_of
asked-is rest asked h =
    let text = percent_decode rest in
    let outer = then-some (λ (halves : List ℕ × List ℕ).
    option_and_then (λ path. of_path path halves.1) (path_of halves.0)) (cut_of text) asked h in
    let inner = then-some (λ path. of_path path (outer.0).1) (path_of (outer.0).0) asked outer.2 in
    let path = path-is (outer.0).0 inner.0 inner.1 in
    let whole = cut-is text (outer.0).0 (outer.0).1 outer.1 ∙ (λ i. path.0 i ++ (codes "/@" ++ (outer.0).1)) in
    of-path-is rest inner.0 (outer.0).1 asked whole path.1 inner.2

-- what is computed for the text after a plain `-/` is what the rest asks for
own-resource : (rest behind : List ℕ) (asked : Resource) → rest ≡ codes "-/" ++ behind
    → own_of (percent_decode behind) ≡ Some asked → IsResource rest asked
own-resource rest behind asked whole h = elim (cases_Bool (bytes_eq (percent_decode behind) (codes "modules"))) [
  | inl modules ↦
      let same : resource.Modules ≡ asked = cc (rw modules at h) in
      subst (IsResource rest) same
      (record {
        behind = behind;
        whole = whole;
        decodes =
            same-text (percent_decode behind) (codes "modules") modules;
      })
  | inr other ↦
      let text = percent_decode behind in
      let outer = then-some summed_of (without_start (codes "gosum/") text) asked (rw other at h) in
      let inner = map-some sum_at (module_version_of outer.0) asked outer.2 in
      let found = inner.0 in
      let is : IsResource rest (resource.GoSum found.path found.version) = record {
        text = outer.0;
        own = record { behind = behind; whole = whole; decodes = start-is (codes "gosum/") text outer.0 outer.1 };
        named = module-version-is outer.0 found inner.1;
      } in
      subst (IsResource rest) inner.2 is
]

resource-by : (rest behind : List ℕ) (a : Area) (asked : Resource) → StandsIn a rest behind
    → resource_in a behind ≡ Some asked → IsResource rest asked
resource-by rest behind area.Shelf asked stands h = own-resource rest behind asked stands h
resource-by rest behind area.Path asked stands h =
    asked-is rest asked (subst (λ (l : List ℕ). asked_of (percent_decode l) ≡ Some asked) (sym stands) h)

pub resource-is : (rest behind : List ℕ) (a : Area) (asked : Resource) → area_of rest ≡ Some (a, behind)
    → resource_in a behind ≡ Some asked → IsResource rest asked
resource-is rest behind a asked found h = resource-by rest behind a asked (area-is rest behind a found) h
