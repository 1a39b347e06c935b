-- Names, keys, paths and versions are ASCII, so each is a text in UTF-8.
use Rattle.std.proofs.Common.{◌≡◌, ◌<◌, ◌||◌, ◌⊎◌, ℕ, Bool, true, false, List, [], ◌∷◌, inl, inr, refl, sym, subst}
use Rattle.std.proofs.Common.{arith, nat_lt, nat_eq, ltb-true, true≢false}
use Rattle.std.specs.Prelude.{codes}
use Rattle.std.specs.List.{list_all, join_with_byte}
use Rattle.std.specs.Str.{IsAscii, IsUtf8}
use Rattle.std.specs.Fmt.{decimal}
use Rattle.std.proofs.lemmas.Str.{IsUtf8-from_ascii, IsAscii-append}
use Rattle.std.proofs.lemmas.Str.Ascii.{IsAscii-nil, IsAscii-cons}
use Rattle.std.proofs.lemmas.Fmt.{IsAscii-decimal}
use Rattle.std.proofs.lemmas.Bool.{and_parts}
use Rattle.std.proofs.lemmas.Bool.Decides.{nat_tests}
use Rattle.modpath.specs.Path.{IsPath}
use Rattle.modpath.proofs.PathLaw.{paths_are_loose}
use Rattle.modpath.proofs.BytesLaw.{is_path_byte, all_path_bytes}
use Rattle.modver.specs.SemanticVersion.{SemanticVersion, is_identifier, is_identifier_byte, pre_release_text}
use Rattle.modver.specs.SemanticVersion.{build_text, mark_of}
use Rattle.modver.specs.Reading.{IsCanonical}
use Rattle.modver.specs.Time.{IsTime, fits_byte, fits_form}
use Rattle.modver.proofs.Times.{time-form}
use Rattle.world.specs.Names.{common, is_team_name, is_key, is_lower, is_digit}

pub ascii_by : (p : ℕ → Bool) → ((b : ℕ) → p b ≡ true → b < 128) → (t : List ℕ) → list_all p t ≡ true → IsAscii t
ascii_by p small [] h = IsAscii-nil
ascii_by p small (b ∷ t) h = let sides = and_parts _ _ h in
    IsAscii-cons b t (small b sides.0) (ascii_by p small t sides.1)

name_byte : (c : ℕ) → (is_lower c || is_digit c || nat_eq c 45) ≡ true → c < 128
name_byte c h = grind (arith, nat_tests)

key_byte : (c : ℕ) → (is_lower c || is_digit c) ≡ true → c < 128
key_byte c h = grind (arith, nat_tests)

path_byte : (c : ℕ) → is_path_byte c ≡ true → c < 128
path_byte c h = grind (arith, nat_tests)

identifier_byte : (c : ℕ) → is_identifier_byte c ≡ true → c < 128
identifier_byte c h = grind (arith, nat_tests)

pub shelf_utf8 : (name : List ℕ) → (name ≡ common) ⊎ (is_team_name name ≡ true) → IsUtf8 name
shelf_utf8 name (inl same) =
    subst IsUtf8 (sym same) (IsUtf8-from_ascii common (ascii_by (λ b. nat_lt b 128) (λ b. ltb-true b 128) common refl))
shelf_utf8 name (inr team) = IsUtf8-from_ascii name (ascii_by _ name_byte name (and_parts _ _ (and_parts _ _ team).0).1)

pub key_utf8 : (key : List ℕ) → is_key key ≡ true → IsUtf8 key
key_utf8 key h = IsUtf8-from_ascii key (ascii_by _ key_byte key (and_parts _ _ h).1)

pub path_utf8 : (path : List ℕ) → IsPath path → IsUtf8 path
path_utf8 path h = IsUtf8-from_ascii path
    (ascii_by is_path_byte path_byte path (all_path_bytes path (paths_are_loose path h)))

digit_or_hex : (f c : ℕ) → f < 128 → fits_byte f c ≡ true → c < 128
digit_or_hex f c small h = grind (arith, nat_tests)

formed_ascii : (form t : List ℕ) → list_all (λ b. nat_lt b 128) form ≡ true → fits_form form t ≡ true → IsAscii t
formed_ascii [] [] small h = IsAscii-nil
formed_ascii [] (b ∷ t) small h = absurd (true≢false (sym h))
formed_ascii (f ∷ form) [] small h = absurd (true≢false (sym h))
formed_ascii (f ∷ form) (b ∷ t) small h =
    let first = and_parts _ _ small in
    let sides = and_parts _ _ h in
    IsAscii-cons b t (digit_or_hex f b (ltb-true f 128 first.0) sides.0) (formed_ascii form t first.1 sides.1)

pub time_utf8 : (t : List ℕ) → IsTime t → IsUtf8 t
time_utf8 t is = IsUtf8-from_ascii t (formed_ascii (codes "dddd-dd-ddTdd:dd:ddZ") t refl (time-form t is))

joined_ascii : (is : List (List ℕ)) → list_all is_identifier is ≡ true → IsAscii (join_with_byte 46 is)
joined_ascii [] h = IsAscii-nil
joined_ascii (i ∷ []) h =
    ascii_by is_identifier_byte identifier_byte i (and_parts _ _ (and_parts _ _ (and_parts _ _ h).0).0).1
joined_ascii (i ∷ j ∷ is) h =
    let sides = and_parts _ _ h in
    IsAscii-append i (46 ∷ join_with_byte 46 (j ∷ is))
    (ascii_by is_identifier_byte identifier_byte i (and_parts _ _ (and_parts _ _ sides.0).0).1)
    (IsAscii-cons 46 _ (omega arith) (joined_ascii (j ∷ is) sides.1))

pre_release_ascii : (is : List (List ℕ)) → list_all is_identifier is ≡ true → IsAscii (pre_release_text is)
pre_release_ascii [] h = IsAscii-nil
pre_release_ascii (i ∷ is) h = IsAscii-cons 45 _ (omega arith) (joined_ascii (i ∷ is) h)

mark_ascii : (marked : Bool) → IsAscii (build_text (mark_of marked))
mark_ascii true = ascii_by (λ b. nat_lt b 128) (λ b. ltb-true b 128) (build_text (mark_of true)) refl
mark_ascii false = IsAscii-nil

version_ascii : (v : SemanticVersion) (t : List ℕ) → IsCanonical t v → IsAscii t
version_ascii v t is =
    let valid = is.valid in
    let rest = IsAscii-append (pre_release_text v.identifiers) (build_text (mark_of v.marked))
    (pre_release_ascii v.identifiers valid.identifiers) (mark_ascii v.marked) in
    let patch = IsAscii-append (decimal v.patch) _ (IsAscii-decimal v.patch valid.patch) rest in
    let minor = IsAscii-append (decimal v.minor) _ (IsAscii-decimal v.minor valid.minor)
    (IsAscii-cons 46 _ (omega arith) patch) in
    let major = IsAscii-append (decimal v.major) _ (IsAscii-decimal v.major valid.major)
    (IsAscii-cons 46 _ (omega arith) minor) in
    subst IsAscii is.same (IsAscii-cons 118 _ (omega arith) major)

pub version_utf8 : (v : SemanticVersion) (t : List ℕ) → IsCanonical t v → IsUtf8 t
version_utf8 v t is = IsUtf8-from_ascii t (version_ascii v t is)
