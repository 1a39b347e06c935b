-- Versions and times in JSON: no byte of them is escaped.
use Rattle.std.proofs.Common.{◌≡◌, ◌==◌, ℕ, List, [], ◌∷◌, ◌++◌, codes, drop, true, false, nat_lt, Option, Some, None}
use Rattle.std.proofs.Common.{IfSome, refl, ap, ◌∙◌, append_assoc, subst, sym, inl, inr, arith}
use Rattle.std.proofs.lemmas.Bool.{and_from, and_parts, cases_Bool, eqb-true}
use Rattle.std.proofs.lemmas.Bool.Decides.{nat_tests}
use Rattle.std.specs.Char.{is_ascii_digit}
use Rattle.std.specs.List.{list_all}
use Rattle.modver.specs.Time.{IsTime, fits_byte, fits_form, is_lower_hex}
use Rattle.modver.proofs.Times.{time-form}
use Rattle.modver.specs.SemanticVersion.{IsVersion, SemanticVersion, version_text}
use Rattle.serde_json.proofs.OnLiterals.{serde_json_on_literals}
use Rattle.serde_json.specs.Data.{string}
use Rattle.serde_json.specs.Written.{compact_text, has_float}
use Rattle.wire.specs.Info.{info_object}
use Rattle.wire.specs.Reply.{info_bytes}
use Rattle.wire.proofs.PlainBytes.{is_plain_byte, version-plain}

-- a text of plain bytes is written in JSON as it is, between quotation marks
pub plain-quoted : (text : List ℕ) → list_all is_plain_byte text ≡ true
    → compact_text (string text) ≡ 34 ∷ (text ++ codes "\"")
unfolding serde_json_on_literals
plain-quoted [] h = refl
plain-quoted (b ∷ text) h =
    let both = and_parts (is_plain_byte b) (list_all is_plain_byte text) h in
    let plain : is_plain_byte b ≡ true = both.0 in
    let quote : (b == 34) ≡ false = grind (arith, nat_tests) in
    let slash : (b == 92) ≡ false = grind (arith, nat_tests) in
    let back : (b == 8) ≡ false = grind (arith, nat_tests) in
    let feed : (b == 12) ≡ false = grind (arith, nat_tests) in
    let line : (b == 10) ≡ false = grind (arith, nat_tests) in
    let carriage : (b == 13) ≡ false = grind (arith, nat_tests) in
    let tab : (b == 9) ≡ false = grind (arith, nat_tests) in
    let control : nat_lt b 32 ≡ false = grind (arith, nat_tests) in
    rw (quote, slash, back, feed, line, carriage, tab, control)
    (ap (λ (l : List ℕ). 34 ∷ (b ∷ drop 1 l)) (plain-quoted text both.1))

-- ---- times

digit-plain : (b : ℕ) → is_ascii_digit b ≡ true → is_plain_byte b ≡ true
digit-plain b h = grind (arith, nat_tests)

hex-plain : (b : ℕ) → is_lower_hex b ≡ true → is_plain_byte b ≡ true
hex-plain b h = grind (arith, nat_tests)

-- a byte that matches a plain byte of a form is plain
fits-plain-byte : (form b : ℕ) → is_plain_byte form ≡ true → fits_byte form b ≡ true → is_plain_byte b ≡ true
fits-plain-byte form b plain h = elim (cases_Bool (form == 100)) [
  | inl digit ↦ digit-plain b (rw digit at h)
  | inr other ↦ elim (cases_Bool (form == 104)) [
    | inl hex ↦ hex-plain b (rw (other, hex) at h)
    | inr same ↦
        let byte : (b == form) ≡ true = rw (other, same) at h in
        subst (λ (c : ℕ). is_plain_byte c ≡ true) (sym (eqb-true b form byte)) plain
  ]
]

fits-plain : (form text : List ℕ) → list_all is_plain_byte form ≡ true → fits_form form text ≡ true
    → list_all is_plain_byte text ≡ true
fits-plain [] [] plain h = refl
fits-plain [] (b ∷ text) plain h = cc h
fits-plain (f ∷ form) [] plain h = cc h
fits-plain (f ∷ form) (b ∷ text) plain h =
    let both = and_parts (fits_byte f b) (fits_form form text) h in
    let plains = and_parts (is_plain_byte f) (list_all is_plain_byte form) plain in
    and_from _ _ (fits-plain-byte f b plains.0 both.0) (fits-plain form text plains.1 both.1)

pub time-plain : (text : List ℕ) → IsTime text → list_all is_plain_byte text ≡ true
time-plain text is = fits-plain (codes "dddd-dd-ddTdd:dd:ddZ") text refl (time-form text is)

-- ---- the object as it is written

regrouped : (a b c d e : List ℕ) → (((a ++ b) ++ c) ++ d) ++ e ≡ a ++ (b ++ (c ++ (d ++ e)))
regrouped a b c d e = simp append_assoc

-- the JSON object of a version and its time is written as `info_bytes`
pub info-written : (v : SemanticVersion) (time : Option (List ℕ)) → IsVersion v → IfSome time IsTime
    → compact_text (info_object v time) ≡ info_bytes v time
unfolding serde_json_on_literals
info-written v None is none =
    let version = version_text v in
    ap (λ (l : List ℕ). codes "{\"Version\":" ++ (l ++ codes "}")) (plain-quoted version (version-plain v is))
    ∙ ap (λ (l : List ℕ). codes "{\"Version\":\"" ++ l) (append_assoc version (codes "\"") (codes "}"))
info-written v (Some time) is valid =
    let version = version_text v in
    let name = plain-quoted version (version-plain v is) in
    let when = plain-quoted time (time-plain time valid) in
    (λ i. codes "{\"Time\":" ++ (when i ++ (codes ",\"Version\":" ++ (name i ++ codes "}"))))
    ∙ ap (λ (l : List ℕ). codes "{\"Time\":\"" ++ l) (append_assoc time (codes "\"")
    (codes ",\"Version\":\"" ++ ((version ++ codes "\"") ++ codes "}")))
    ∙ ap (λ (l : List ℕ). codes
    "{\"Time\":\"" ++ (time ++ (codes "\",\"Version\":\"" ++ l))) (append_assoc version (codes "\"") (codes "}"))
    ∙ sym (regrouped (codes "{\"Time\":\"") time (codes "\",\"Version\":\"") version (codes "\"}"))

pub no-float : (v : SemanticVersion) (time : Option (List ℕ)) → has_float (info_object v time) ≡ false
no-float v None = refl
no-float v (Some time) = refl
