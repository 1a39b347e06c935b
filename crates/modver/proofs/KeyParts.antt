-- What is put behind a key: the class of a version, and its pre-release.
use Rattle.std.proofs.Common.{◌≡◌, ◌≤◌, ◌<◌, ◌++◌, ℕ, zero, suc, List, [], ◌∷◌, length, length-append, take, drop}
use Rattle.std.proofs.Common.{append_assoc, Option, Some, None, true, refl, sym, ap, ◌∙◌, arith}
use Rattle.std.specs.Char.{is_ascii_digit}
use Rattle.std.specs.List.{filter, flat_map, list_all}
use Rattle.std.specs.Option.{unwrap_or}
use Rattle.semver.specs.Identifiers.{marked}
use Rattle.modver.specs.Class.{class_from, class_of, stamp_of}
use Rattle.modver.specs.Keys.{class_key, identifier_key, pre_release_key}
use Rattle.modver.specs.Parts.{between_dots, identifiers_of}
use Rattle.modver.specs.Rank.{rank_of}
use Rattle.modver.specs.SemanticVersion.{SemanticVersion, pre_release_text, text_with_build}
use Rattle.modver.specs.Time.{time_of_stamp}
use Rattle.modver.specs.declared.version.Class.{Class}
use Rattle.modver.specs.declared.version.Class.TheVariants as class
use Rattle.modver.proofs.Conditions.{and-first, and-second}
use Rattle.modver.proofs.DotParts.{dots-shape, no-stamp}
use Rattle.modver.proofs.Ranks.{IsDigits, stamp-digits}
use Rattle.modver.proofs.SemVerText.{pre_release_text-of}
use Rattle.modver.proofs.StampOrder.{fourteen}

-- ---- the size of a pre-release

marked-size : (pre : List ℕ) → length pre ≤ length (marked 45 pre)
marked-size [] = omega arith
marked-size (b ∷ rest) = omega arith

-- a pre-release is no longer than the text of its version
pub pre-short : (a b c : ℕ) (pre build text : List ℕ) (n : ℕ) → text_with_build a b c (identifiers_of pre) build ≡ text
    → length text ≤ n → length pre ≤ n
pre-short a b c pre build text n e h =
    let size : length pre ≤ length (pre_release_text (identifiers_of pre)) =
    rw (pre_release_text-of pre) (marked-size pre) in
    let same : length (text_with_build a b c (identifiers_of pre) build) ≡ length text =
    ap (λ (t : List ℕ). length t) e in
    let sizes = simp length-append at same in
    omega arith

-- ---- the identifiers

-- where there are some, they stand between the dots of the pre-release
pub some-key : (pre : List ℕ) → 0 < length pre
    → pre_release_key (identifiers_of pre) ≡ flat_map identifier_key (between_dots pre) ++ 0 ∷ []
some-key [] some = absurd (omega arith)
some-key (b ∷ rest) some =
    let s = dots-shape (b ∷ rest) in
    let shape : between_dots (b ∷ rest) ≡ s.0 ∷ s.1 = s.2 in
    rw shape refl

-- ---- the class

take-digits : (n : ℕ) (xs rest : List ℕ) → list_all is_ascii_digit xs ≡ true
    → filter is_ascii_digit (take n xs ++ rest) ≡ take n xs ++ filter is_ascii_digit rest
take-digits zero [] rest h = refl
take-digits zero (x ∷ xs) rest h = refl
take-digits (suc n) [] rest h = refl
take-digits (suc n) (x ∷ xs) rest h =
    rw (and-first (is_ascii_digit x) _ h)
    (ap (λ (l : List ℕ). x ∷ l) (take-digits n xs rest (and-second (is_ascii_digit x) _ h)))

drop-digits : (n : ℕ) (xs : List ℕ) → list_all is_ascii_digit xs ≡ true → list_all is_ascii_digit (drop n xs) ≡ true
drop-digits zero [] h = refl
drop-digits zero (x ∷ xs) h = h
drop-digits (suc n) [] h = refl
drop-digits (suc n) (x ∷ xs) h = drop-digits n xs (and-second (is_ascii_digit x) _ h)

-- what a stamp of 14 digits is cut into
pieces : (x : List ℕ) → length x ≡ 14
    → take 4 x ++ (take 2 (drop 4 x)
    ++ (take 2 (drop 6 x) ++ (take 2 (drop 8 x) ++ (take 2 (drop 10 x) ++ (take 2 (drop 12 x) ++ []))))) ≡ x
pieces x size = let f = fourteen x size in rw f.same refl

-- the digits of the time of a stamp are the stamp
stamp-digits-back : (x : List ℕ) → length x ≡ 14 → list_all is_ascii_digit x ≡ true
    → filter is_ascii_digit (time_of_stamp x) ≡ x
stamp-digits-back x size h =
    let rest : (k : ℕ) → list_all is_ascii_digit (drop k x) ≡ true = λ k. drop-digits k x h in
    take-digits 4 x _ h ∙ ap (λ (l : List ℕ). take 4 x ++ l)
    (take-digits 2 (drop 4 x) _ (rest 4) ∙ ap (λ (l : List ℕ). take 2 (drop 4 x) ++ l)
    (take-digits 2 (drop 6 x) _ (rest 6) ∙ ap (λ (l : List ℕ). take 2 (drop 6 x) ++ l)
    (take-digits 2 (drop 8 x) _ (rest 8) ∙ ap (λ (l : List ℕ). take 2 (drop 8 x) ++ l)
    (take-digits 2 (drop 10 x) _ (rest 10) ∙ ap (λ (l : List ℕ). take 2 (drop 10 x) ++ l)
    (take-digits 2 (drop 12 x) _ (rest 12))))))
    ∙ pieces x size

class-pseudo : (ids : List (List ℕ)) (s : Option (List ℕ)) (time : List ℕ) → IsDigits s
    → class.Pseudo time ≡ class_from ids s
    → rank_of (class_from ids s) ∷ unwrap_or s [] ≡ 1 ∷ filter is_ascii_digit time
class-pseudo [] s time d e = cc e
class-pseudo (i ∷ ids) None time d e = cc e
class-pseudo (i ∷ ids) (Some x) time d e =
    let same : time ≡ time_of_stamp x = cc e in
    ap (λ (l : List ℕ). 1 ∷ l) (sym (ap (filter is_ascii_digit) same ∙ stamp-digits-back x d.0 d.1))

pub pseudo-key : (v : SemanticVersion) (c : Class) (rank : ℕ) (time : List ℕ) → c ≡ class_of v → rank ≡ rank_of c
    → c ≡ class.Pseudo time
    → class_key v ≡ rank ∷ filter is_ascii_digit time
pseudo-key v c rank time e r is =
    class-pseudo v.identifiers (stamp_of v) time (stamp-digits v) (sym is ∙ e)
    ∙ ap (λ (n : ℕ). n ∷ filter is_ascii_digit time) (sym (r ∙ ap rank_of is))

class-alone : (ids : List (List ℕ)) (s : Option (List ℕ)) → (ids ≡ [] → s ≡ None)
    → ((time : List ℕ) → class_from ids s ≡ class.Pseudo time → ⊥)
    → rank_of (class_from ids s) ∷ unwrap_or s [] ≡ rank_of (class_from ids s) ∷ []
class-alone [] None h other = refl
class-alone [] (Some x) h other = cc (h refl)
class-alone (i ∷ ids) None h other = refl
class-alone (i ∷ ids) (Some x) h other = absurd (other (time_of_stamp x) refl)

-- the key of a class that is no pseudo-version is its rank alone
pub rank-key : (v : SemanticVersion) (c : Class) (rank : ℕ) → c ≡ class_of v → rank ≡ rank_of c
    → ((time : List ℕ) → c ≡ class.Pseudo time → ⊥)
    → class_key v ≡ rank ∷ []
rank-key v c rank e r other =
    class-alone v.identifiers (stamp_of v) (no-stamp v) (λ time is. other time (e ∙ is))
    ∙ ap (λ (n : ℕ). n ∷ []) (sym (r ∙ ap rank_of e))

-- ---- one behind the other

pub four-joined : (key a b c d : List ℕ) → (((key ++ a) ++ b) ++ c) ++ d ≡ key ++ (a ++ (b ++ (c ++ d)))
four-joined key a b c d = simp append_assoc
