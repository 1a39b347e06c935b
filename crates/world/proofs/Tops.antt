-- The index of the top of a set of versions is that of the highest of a list.
use Rattle.std.proofs.Common.{◌≡◌, ℕ, List, [], ◌∷◌, refl, sym, ap, ◌∙◌, Option, Some, None, slice_get, length, Bor}
use Rattle.std.proofs.Common.{option_copied}
use Rattle.std.specs.Prelude.{Contains}
use Rattle.std.specs.Slice.{IsItemAt}
use Rattle.std.proofs.lemmas.Option.{slice_get_past, slice_get_read}
use Rattle.gomod.specs.Module.{GoModule}
use Rattle.latest.specs.Latest as latest
use Rattle.latest.specs.Latest.{IsTop, NamesTop, Versions, among}
use Rattle.latest.proofs.Scans.{top_one}
use Rattle.modver.specs.SemanticVersion.{SemanticVersion}
use Rattle.world.specs.Latest.{AllOf, higher, highest, unretracted}
use Rattle.world.proofs.Highest.{highest_top, left}
use Rattle.world.proofs.Members.{no_member, first_member}

-- what is lent at an index stands there
pub lent_at : {X : Type 0} (xs : List X) (i : ℕ) (r : Option (Bor X)) → IsItemAt xs i r
    → option_copied r ≡ slice_get xs i
lent_at xs i None item = sym (slice_get_past xs i item.3)
lent_at xs i (Some x) item = sym (slice_get_read xs (length xs) i x.now refl item.3.0 item.1)

-- the version at an index
abbrev pub version_at : List SemanticVersion → Option ℕ → Option SemanticVersion
version_at vs None = None
version_at vs (Some index) = slice_get vs index

none_there : (us : List SemanticVersion) → ((v : SemanticVersion) → ¬ Contains us v) → None ≡ highest us
none_there [] none = refl
none_there (u ∷ us) none = absurd (none u (first_member u us))

some_there : (us : List SemanticVersion) (v : SemanticVersion) → Contains us v
    → (h : SemanticVersion) × (highest us ≡ Some h)
some_there [] v at = absurd (no_member v at)
some_there (u ∷ us) v at = (higher u (highest us), refl)

-- where the top of a set stands, there stands the highest of a list of versions of a path that has the same members
named_highest : (path : List ℕ) (vs us : List SemanticVersion) (set : Versions) → AllOf path us
    → ((v : SemanticVersion) → Contains us v → set v) → ((v : SemanticVersion) → set v → Contains us v)
    → (answer : Option ℕ) → NamesTop vs set answer → version_at vs answer ≡ highest us
named_highest path vs us set all to from None none = none_there us (λ v at. none v (to v at))
named_highest path vs us set all to from (Some index) named =
    let v = named.0 in
    let top : IsTop (among us) v =
    record { member = from v named.2.member; highest = λ u at. named.2.highest u (to u at) } in
    let some = some_there us v top.member in
    named.1 ∙ ap Some ((top_one path us all v some.0).0 top (highest_top us some.0 some.1)) ∙ sym some.1

pub names_highest : (path : List ℕ) (vs : List SemanticVersion) → AllOf path vs → (answer : Option ℕ)
    → NamesTop vs (among vs) answer → version_at vs answer ≡ highest vs
names_highest path vs all = named_highest path vs vs (among vs) all (λ v at. at) (λ v at. at)

pub names_highest_left : (m : GoModule) (path : List ℕ) (vs : List SemanticVersion) → AllOf path vs
    → (answer : Option ℕ)
    → NamesTop vs (latest.unretracted vs m) answer → version_at vs answer ≡ highest (unretracted m vs)
names_highest_left m path vs all =
    named_highest path vs (unretracted m vs) (latest.unretracted vs m) (λ v at. all v ((left m v vs).0 at).0)
    (λ v. (left m v vs).0) (λ v. (left m v vs).1)
