-- Paths, versions, times and Go versions need no escape in JSON.
use Rattle.std.proofs.Common.{◌≡◌, ◌<◌, ◌^◌, ◌++◌, ◌∙◌, ℕ, Bool, true, false, List, [], ◌∷◌, Option, Some, None}
use Rattle.std.proofs.Common.{inl, inr, refl, sym, subst, ap, arith, true≢false}
use Rattle.std.specs.Prelude.{codes}
use Rattle.std.specs.Char.{is_ascii_digit}
use Rattle.std.specs.Fmt.{decimal}
use Rattle.std.specs.List.{join_with_byte, list_all}
use Rattle.std.specs.Str.Parse.{AllDigits}
use Rattle.std.proofs.lemmas.Bool.{and_from, and_parts}
use Rattle.std.proofs.lemmas.Bool.Decides.{nat_tests}
use Rattle.std.proofs.lemmas.Fmt.{decimal_is_IsNumeral}
use Rattle.std.proofs.lemmas.List.Folds.{list_all-append}
use Rattle.gomod.specs.GoVersion.{is_decimal, is_go_version}
use Rattle.gomod.specs.GoVersions.{IsTail}
use Rattle.gomod.proofs.GoVersionLaw.{is_go_version-exact}
use Rattle.modpath.specs.Path.{IsLoosePath, IsPath}
use Rattle.modpath.proofs.BytesLaw.{all_path_bytes, is_path_byte}
use Rattle.modpath.proofs.PathLaw.{paths_are_loose}
use Rattle.modver.specs.Class.{class_from, class_of, stamp_of}
use Rattle.modver.specs.Reading.{IsCanonical}
use Rattle.modver.specs.SemanticVersion.{SemanticVersion, IsVersion, build_text, is_identifier, is_identifier_byte}
use Rattle.modver.specs.SemanticVersion.{mark_of, pre_release_text, version_text}
use Rattle.modver.specs.Time.{IsTime, fits_byte, fits_form, time_of_stamp}
use Rattle.modver.proofs.PseudoForms.{stamp-of, stamp-time}
use Rattle.modver.proofs.Times.{time-form}
use Rattle.world.specs.World.{IsTimeOf}
use Rattle.catalog.specs.Json.{AreUnescaped, is_unescaped}

-- bytes that pass a test need no escape, if the test lets no other byte pass
pub unescaped_by : (p : ℕ → Bool) → ((b : ℕ) → p b ≡ true → is_unescaped b ≡ true) → (t : List ℕ)
    → list_all p t ≡ true → AreUnescaped t
unescaped_by p each [] h = refl
unescaped_by p each (b ∷ t) h =
    let sides = and_parts _ _ h in and_from _ _ (each b sides.0) (unescaped_by p each t sides.1)

pub both_unescaped : (a b : List ℕ) → AreUnescaped a → AreUnescaped b → AreUnescaped (a ++ b)
both_unescaped a b x y = list_all-append is_unescaped a b ∙ and_from _ _ x y

-- ---- paths and versions

path_byte : (b : ℕ) → is_path_byte b ≡ true → is_unescaped b ≡ true
path_byte b h = grind (arith, nat_tests)

identifier_byte : (b : ℕ) → is_identifier_byte b ≡ true → is_unescaped b ≡ true
identifier_byte b h = grind (arith, nat_tests)

pub digit_byte : (b : ℕ) → is_ascii_digit b ≡ true → is_unescaped b ≡ true
digit_byte b h = grind (arith, nat_tests)

pub loose_path_unescaped : (path : List ℕ) → IsLoosePath path → AreUnescaped path
loose_path_unescaped path h = unescaped_by is_path_byte path_byte path (all_path_bytes path h)

pub path_unescaped : (path : List ℕ) → IsPath path → AreUnescaped path
path_unescaped path h = loose_path_unescaped path (paths_are_loose path h)

pub all_digits : (ds : List ℕ) → AllDigits 10 ds → list_all is_ascii_digit ds ≡ true
all_digits [] h = refl
all_digits (d ∷ ds) h =
    let small = h.0 in
    let first : is_ascii_digit d ≡ true = grind (arith, nat_tests) in
    and_from _ _ first (all_digits ds h.1)

decimal_unescaped : (n : ℕ) → n < 2 ^ 64 → AreUnescaped (decimal n)
decimal_unescaped n small =
    unescaped_by is_ascii_digit digit_byte (decimal n) (all_digits (decimal n) (decimal_is_IsNumeral n small).0.1)

identifier_unescaped : (i : List ℕ) → is_identifier i ≡ true → AreUnescaped i
identifier_unescaped i h = unescaped_by is_identifier_byte identifier_byte i (and_parts _ _ (and_parts _ _ h).0).1

joined_unescaped : (is : List (List ℕ)) → list_all is_identifier is ≡ true → AreUnescaped (join_with_byte 46 is)
joined_unescaped [] h = refl
joined_unescaped (i ∷ []) h = identifier_unescaped i (and_parts _ _ h).0
joined_unescaped (i ∷ j ∷ is) h =
    let sides = and_parts _ _ h in
    both_unescaped i (46 ∷ join_with_byte 46 (j ∷ is)) (identifier_unescaped i sides.0)
    (joined_unescaped (j ∷ is) sides.1)

pre_release_unescaped : (is : List (List ℕ)) → list_all is_identifier is ≡ true → AreUnescaped (pre_release_text is)
pre_release_unescaped [] h = refl
pre_release_unescaped (i ∷ is) h = joined_unescaped (i ∷ is) h

mark_unescaped : (marked : Bool) → AreUnescaped (build_text (mark_of marked))
mark_unescaped true = refl
mark_unescaped false = refl

pub version_unescaped : (v : SemanticVersion) → IsVersion v → AreUnescaped (version_text v)
version_unescaped v valid =
    let rest = both_unescaped (pre_release_text v.identifiers) (build_text (mark_of v.marked))
    (pre_release_unescaped v.identifiers valid.identifiers) (mark_unescaped v.marked) in
    let patch = both_unescaped (decimal v.patch) _ (decimal_unescaped v.patch valid.patch) rest in
    let minor = both_unescaped (decimal v.minor) (46 ∷ _) (decimal_unescaped v.minor valid.minor) patch in
    both_unescaped (decimal v.major) (46 ∷ _) (decimal_unescaped v.major valid.major) minor

pub text_unescaped : (t : List ℕ) (v : SemanticVersion) → IsCanonical t v → AreUnescaped t
text_unescaped t v is = subst AreUnescaped is.same (version_unescaped v is.valid)

-- ---- times

form_byte : (f b : ℕ) → is_unescaped f ≡ true → fits_byte f b ≡ true → is_unescaped b ≡ true
form_byte f b plain h = grind (arith, nat_tests)

form_unescaped : (form t : List ℕ) → AreUnescaped form → fits_form form t ≡ true → AreUnescaped t
form_unescaped [] [] plain h = refl
form_unescaped [] (b ∷ t) plain h = absurd (true≢false (sym h))
form_unescaped (f ∷ form) [] plain h = absurd (true≢false (sym h))
form_unescaped (f ∷ form) (b ∷ t) plain h =
    let first = and_parts _ _ plain in
    let sides = and_parts _ _ h in
    and_from _ _ (form_byte f b first.0 sides.0) (form_unescaped form t first.1 sides.1)

pub time_unescaped : (t : List ℕ) → IsTime t → AreUnescaped t
time_unescaped t is = form_unescaped (codes "dddd-dd-ddTdd:dd:ddZ") t refl (time-form t is)

-- a text needs no escape, or there is none
abbrev pub MaybeUnescaped : Option (List ℕ) → Type 0
MaybeUnescaped None = Unit {0}
MaybeUnescaped (Some t) = AreUnescaped t

plain_time : (time : Option (List ℕ)) (stamp : List ℕ) → IsTime stamp → time ≡ Some stamp → MaybeUnescaped time
plain_time time stamp is same = subst MaybeUnescaped (sym same) (time_unescaped stamp is)

class_time : (v : SemanticVersion) (is : List (List ℕ)) (stamp : Option (List ℕ)) (time : Option (List ℕ))
    → stamp_of v ≡ stamp → IsTimeOf (class_from is stamp) time → MaybeUnescaped time
class_time v [] stamp None from h = tt
class_time v [] stamp (Some t) from h = time_unescaped t h
class_time v (i ∷ is) None None from h = tt
class_time v (i ∷ is) None (Some t) from h = time_unescaped t h
class_time v (i ∷ is) (Some stamp) time from h =
    plain_time time (time_of_stamp stamp) (stamp-time v stamp ((stamp-of v stamp).0 from)) h

-- the time that an entry may have
pub entry_time : (v : SemanticVersion) (time : Option (List ℕ)) → IsTimeOf (class_of v) time → MaybeUnescaped time
entry_time v time h = class_time v v.identifiers (stamp_of v) time refl h

-- ---- Go versions

number_unescaped : (digits : List ℕ) → is_decimal digits ≡ true → AreUnescaped digits
unfolding is_decimal
number_unescaped [] h = refl
number_unescaped (b ∷ bs) h = unescaped_by is_ascii_digit digit_byte (b ∷ bs) (and_parts _ _ h).0

tail_unescaped : (tail : List ℕ) → IsTail tail → AreUnescaped tail
tail_unescaped tail (inl none) = ap (list_all is_unescaped) none
tail_unescaped tail (inr it) =
    let number = number_unescaped it.0 it.1 in
    elim it.2 [
      | inl dot ↦ ap (list_all is_unescaped) dot ∙ both_unescaped (codes ".") it.0 refl number
      | inr other ↦ elim other [
        | inl candidate ↦ ap (list_all is_unescaped) candidate ∙ both_unescaped (codes "rc") it.0 refl number
        | inr beta ↦ ap (list_all is_unescaped) beta ∙ both_unescaped (codes "beta") it.0 refl number
      ]
    ]

pub go_version_unescaped : (t : List ℕ) → is_go_version t ≡ true → AreUnescaped t
go_version_unescaped t h =
    let form = (is_go_version-exact t).0 h in
    ap (list_all is_unescaped) form.spelled
    ∙ both_unescaped form.major (46 ∷ (form.minor ++ form.tail)) (number_unescaped form.major form.is_major)
    (both_unescaped form.minor form.tail (number_unescaped form.minor form.is_minor)
    (tail_unescaped form.tail form.is_tail))
