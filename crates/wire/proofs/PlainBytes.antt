-- The bytes of module paths and versions.
use Rattle.std.proofs.Common.{◌≡◌, ◌==◌, ◌&&◌, ◌+◌, ◌%◌, ◌<◌, ◌^◌, ℕ, List, [], ◌∷◌, ◌++◌, Bool, true, false, not}
use Rattle.std.proofs.Common.{nat_lt, refl, inl, inr, arith, decimal}
use Rattle.std.proofs.lemmas.Bool.{cases_Bool, and_parts, and_from, ltb-true}
use Rattle.std.proofs.lemmas.Bool.Decides.{nat_tests}
use Rattle.std.proofs.lemmas.Fmt.{decimal_by_steps}
use Rattle.std.proofs.lemmas.List.Folds.{list_all-append}
use Rattle.std.proofs.lemmas.Str.{IsUtf8-from_ascii}
use Rattle.std.proofs.lemmas.Str.Ascii.{IsAscii-nil, IsAscii-cons}
use Rattle.std.specs.Char.{is_ascii_uppercase}
use Rattle.std.specs.List.{join_with_byte, list_all, list_any}
use Rattle.std.specs.Str.{IsAscii, IsUtf8}
use Rattle.modpath.proofs.BytesLaw.{all_path_bytes, is_path_byte}
use Rattle.modpath.proofs.PathLaw.{paths_are_loose}
use Rattle.modpath.specs.Escape.{escaped, has_bang}
use Rattle.modpath.specs.Path.{IsPath}
use Rattle.modver.specs.SemanticVersion.{IsVersion, SemanticVersion, build_text, is_identifier, is_identifier_byte}
use Rattle.modver.specs.SemanticVersion.{mark_of, pre_release_text, version_text}

-- visible ASCII, and none of `!`, `"`, `@` and the backslash
abbrev pub is_plain_byte : ℕ → Bool
is_plain_byte b = nat_lt 34 b && nat_lt b 127 && not (b == 64) && not (b == 92)

all-append : (p : ℕ → Bool) (xs ys : List ℕ) → list_all p xs ≡ true → list_all p ys ≡ true
    → list_all p (xs ++ ys) ≡ true
all-append p xs ys h k = rw (list_all-append p xs ys, h, k) refl

all-weaker : (p q : ℕ → Bool) → ((b : ℕ) → p b ≡ true → q b ≡ true) → (xs : List ℕ) → list_all p xs ≡ true
    → list_all q xs ≡ true
all-weaker p q f [] h = refl
all-weaker p q f (x ∷ xs) h = let both = and_parts (p x) (list_all p xs) h in
    and_from _ _ (f x both.0) (all-weaker p q f xs both.1)

-- texts that are joined by a byte
all-joined : (sep : ℕ) (texts : List (List ℕ)) → list_all (list_all is_plain_byte) texts ≡ true
    → is_plain_byte sep ≡ true
    → list_all is_plain_byte (join_with_byte sep texts) ≡ true
all-joined sep [] h s = refl
all-joined sep (x ∷ []) h s = (and_parts _ _ h).0
all-joined sep (x ∷ y ∷ rest) h s =
    let both = and_parts _ _ h in
    all-append is_plain_byte x (sep ∷ join_with_byte sep (y ∷ rest)) both.0
    (and_from _ _ s (all-joined sep (y ∷ rest) both.1 s))

-- ---- paths

path_byte-plain : (b : ℕ) → is_path_byte b ≡ true → is_plain_byte b ≡ true
path_byte-plain b h = grind (arith, nat_tests)

pub path-plain : (path : List ℕ) → IsPath path → list_all is_plain_byte path ≡ true
path-plain path is = all-weaker is_path_byte is_plain_byte path_byte-plain path
    (all_path_bytes path (paths_are_loose path is))

-- ---- versions

identifier-plain : (b : ℕ) → is_identifier_byte b ≡ true → is_plain_byte b ≡ true
identifier-plain b h = grind (arith, nat_tests)

identifiers-plain : (ids : List (List ℕ)) → list_all is_identifier ids ≡ true
    → list_all (list_all is_plain_byte) ids ≡ true
identifiers-plain [] h = refl
identifiers-plain (i ∷ rest) h =
    let both = and_parts _ _ h in
    let word = (and_parts _ _ both.0).0 in
    and_from _ _ (all-weaker is_identifier_byte is_plain_byte identifier-plain i (and_parts _ _ word).1)
    (identifiers-plain rest both.1)

pre_release-plain : (ids : List (List ℕ)) → list_all is_identifier ids ≡ true
    → list_all is_plain_byte (pre_release_text ids) ≡ true
pre_release-plain [] h = refl
pre_release-plain (i ∷ rest) h = all-joined 46 (i ∷ rest) (identifiers-plain (i ∷ rest) h) refl

mark-plain : (marked : Bool) → list_all is_plain_byte (build_text (mark_of marked)) ≡ true
mark-plain true = refl
mark-plain false = refl

digit-plain : (d : ℕ) → d < 10 → is_plain_byte (48 + d) ≡ true
digit-plain d h = grind (arith, nat_tests)

decimal-plain : (n : ℕ) → n < 2 ^ 64 → list_all is_plain_byte (decimal n) ≡ true
decimal-plain n small = decimal_by_steps (λ m (ds : List ℕ). list_all is_plain_byte ds ≡ true)
    (λ m l. and_from _ _ (digit-plain m l) refl)
    (λ m ds l h. all-append is_plain_byte ds ((48 + m % 10) ∷ []) h
    (and_from _ _ (digit-plain (m % 10) (omega arith)) refl)) n small

pub version-plain : (v : SemanticVersion) → IsVersion v → list_all is_plain_byte (version_text v) ≡ true
version-plain v is =
    let rest = all-append is_plain_byte (pre_release_text v.identifiers) (build_text (mark_of v.marked))
    (pre_release-plain v.identifiers is.identifiers) (mark-plain v.marked) in
    let patch = all-append is_plain_byte (decimal v.patch) _ (decimal-plain v.patch is.patch) rest in
    let minor = all-append is_plain_byte (decimal v.minor) _ (decimal-plain v.minor is.minor) patch in
    all-append is_plain_byte (decimal v.major) _ (decimal-plain v.major is.major) minor

-- ---- the escaped form of such a text

pub plain-no_bang : (text : List ℕ) → list_all is_plain_byte text ≡ true → has_bang text ≡ false
plain-no_bang [] h = refl
plain-no_bang (b ∷ rest) h =
    let both = and_parts (is_plain_byte b) (list_all is_plain_byte rest) h in
    let other : (b == 33) ≡ false = grind (arith, nat_tests, both.0) in
    rw other (plain-no_bang rest both.1)

pub escaped-no_at : (text : List ℕ) → list_all is_plain_byte text ≡ true
    → list_any (λ b. b == 64) (escaped text) ≡ false
escaped-no_at [] h = refl
escaped-no_at (b ∷ rest) h =
    let both = and_parts (is_plain_byte b) (list_all is_plain_byte rest) h in
    let ih = escaped-no_at rest both.1 in
    elim (cases_Bool (is_ascii_uppercase b)) [
      | inl upper ↦ let other : (b + 32 == 64) ≡ false = grind (arith, nat_tests) in rw (upper, other) ih
      | inr lower ↦ let other : (b == 64) ≡ false = grind (arith, nat_tests, both.0) in rw (lower, other) ih
    ]

-- the escaped form of a text of plain bytes is ASCII
pub escaped-ascii : (text : List ℕ) → list_all is_plain_byte text ≡ true → IsAscii (escaped text)
escaped-ascii [] h = IsAscii-nil
escaped-ascii (b ∷ rest) h =
    let both = and_parts (is_plain_byte b) (list_all is_plain_byte rest) h in
    let ih = escaped-ascii rest both.1 in
    elim (cases_Bool (is_ascii_uppercase b)) [
      | inl upper ↦
          let low : b + 32 < 128 = grind (arith, nat_tests) in
          rw upper (IsAscii-cons 33 ((b + 32) ∷ escaped rest) (omega arith) (IsAscii-cons (b + 32) _ low ih))
      | inr lower ↦
          let low : b < 128 = grind (arith, nat_tests, both.0) in
          rw lower (IsAscii-cons b _ low ih)
    ]

pub escaped-utf8 : (text : List ℕ) → list_all is_plain_byte text ≡ true → IsUtf8 (escaped text)
escaped-utf8 text h = IsUtf8-from_ascii (escaped text) (escaped-ascii text h)

-- a text of ASCII
pub ascii-from : (bytes : List ℕ) → list_all (λ b. nat_lt b 128) bytes ≡ true → IsAscii bytes
ascii-from [] h = IsAscii-nil
ascii-from (b ∷ bytes) h =
    let both = and_parts (nat_lt b 128) (list_all (λ x. nat_lt x 128) bytes) h in
    IsAscii-cons b bytes (ltb-true b 128 both.0) (ascii-from bytes both.1)
