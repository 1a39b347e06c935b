-- Targets that can be read are text.
use Rattle.std.proofs.Common.{◌≡◌, ◌+◌, ◌*◌, ◌<◌, ℕ, suc, List, [], ◌∷◌, ◌++◌, codes, nat_lt, true, false, refl, sym}
use Rattle.std.proofs.Common.{ap, ◌∙◌, subst, inl, inr, arith}
use Rattle.std.proofs.lemmas.Bool.{cases_Bool, and_parts, eqb-true, ltb-true}
use Rattle.std.proofs.lemmas.Bool.Decides.{nat_tests}
use Rattle.std.proofs.lemmas.Str.{IsUtf8-append, IsUtf8-from_ascii, IsAscii-append}
use Rattle.std.proofs.lemmas.Str.Ascii.{IsAscii-nil, IsAscii-cons}
use Rattle.std.specs.Char.{digit_value, is_digit}
use Rattle.std.specs.Str.{IsAscii, IsUtf8}
use Rattle.percent_encoding.specs.Percent.{is_escape, percent_decode}
use Rattle.modpath.specs.Escape.{escaped}
use Rattle.modver.specs.SemanticVersion.{SemanticVersion, version_text}
use Rattle.wire.specs.ModuleVersion.{IsPathWith, IsModuleVersion}
use Rattle.wire.specs.Resource.{IsOwn, IsResource}
use Rattle.wire.specs.Target.{Asks, IsKeyed, IsTextThroughout}
use Rattle.wire.specs.declared.resource.Resource.{Resource}
use Rattle.wire.specs.declared.resource.Resource.TheVariants as resource
use Rattle.wire.specs.declared.resource.Target.{Target}
use Rattle.wire.specs.declared.resource.Target.TheVariants as target
use Rattle.wire.proofs.ResourceReadings.{dash-decoded}
use Rattle.wire.proofs.PlainBytes.{ascii-from, escaped-ascii, path-plain, version-plain}
use Rattle.wire.proofs.RouteReadings.{IsSplit, split-taken}

-- a hexadecimal digit is ASCII
digit-ascii : (c : ℕ) → is_digit c 16 ≡ true → c < 128
digit-ascii c h = elim (cases_Bool (nat_lt c 128)) [
  | inl low ↦ ltb-true c 128 low
  | inr high ↦
      let a : nat_lt c 48 ≡ false = grind (arith, nat_tests) in
      let b : nat_lt c 58 ≡ false = grind (arith, nat_tests) in
      let d : nat_lt c 65 ≡ false = grind (arith, nat_tests) in
      let e : nat_lt c 91 ≡ false = grind (arith, nat_tests) in
      let f : nat_lt c 97 ≡ false = grind (arith, nat_tests) in
      let g : nat_lt c 123 ≡ false = grind (arith, nat_tests) in
      cc (rw (a, b, d, e, f, g) at h)
]

-- percent-decoding keeps a byte that is not ASCII
decoded-from : (bytes : List ℕ) → IsAscii (percent_decode bytes) → IsAscii bytes
unfolding percent_decode
decoded-from [] h = h
decoded-from (b ∷ []) h = h
decoded-from (b ∷ c ∷ []) h = h
decoded-from (b ∷ high ∷ low ∷ rest) h = elim (cases_Bool (is_escape b high low)) [
  | inl escape ↦
      let both = and_parts _ _ escape in
      let front = and_parts _ _ both.0 in
      let sign : b ≡ 37 = eqb-true b 37 front.0 in
      let decoded : IsAscii ((16 * digit_value high + digit_value low) ∷ percent_decode rest) = rw escape at h in
      let ih = decoded-from rest (λ i. decoded (suc i)) in
      IsAscii-cons b (high ∷ low ∷ rest) (omega (arith, sign))
      (IsAscii-cons high (low ∷ rest) (digit-ascii high front.1) (IsAscii-cons low rest (digit-ascii low both.1) ih))
  | inr other ↦
      let decoded : IsAscii (b ∷ percent_decode (high ∷ low ∷ rest)) = rw other at h in
      IsAscii-cons b (high ∷ low ∷ rest) (decoded 0) (decoded-from (high ∷ low ∷ rest) (λ i. decoded (suc i)))
]

module-version-ascii : (text path : List ℕ) (version : SemanticVersion) (ending : List ℕ) → IsAscii ending
    → IsModuleVersion text path version ending → IsAscii text
module-version-ascii text path version ending plain is =
    let name = IsAscii-append (escaped (version_text version)) ending
    (escaped-ascii (version_text version) (version-plain version is.version_is.valid)) plain in
    let behind = IsAscii-append (codes "/@v/") (escaped (version_text version) ++ ending)
    (ascii-from (codes "/@v/") refl) name in
    subst IsAscii (sym is.whole)
    (IsAscii-append (escaped path) (codes "/@v/" ++ (escaped (version_text version) ++ ending))
    (escaped-ascii path (path-plain path is.path_is)) behind)

pub keyed-split : (text key rest : List ℕ) → IsKeyed text key rest → IsSplit text key rest
keyed-split text key rest is = record { whole = is.whole; some = is.some; no_slash = is.no_slash }

-- a key, and a rest that decodes to ASCII
throughout : (text key rest : List ℕ) → IsKeyed text key rest → IsAscii (percent_decode rest) → IsTextThroughout text
throughout text key rest keyed plain =
    let behind : IsAscii (47 ∷ rest) = IsAscii-cons 47 rest (omega arith) (decoded-from rest plain) in
    let back = IsUtf8-append key (47 ∷ rest) keyed.is_text (IsUtf8-from_ascii (47 ∷ rest) behind) in (
      subst IsUtf8 (sym keyed.whole)
          (IsUtf8-append (codes "/k/") (key ++ (47 ∷ rest))
          (IsUtf8-from_ascii (codes "/k/") (ascii-from (codes "/k/") refl)) back),
      λ other after is.
          let same : (key, rest) ≡ (other, after) =
          cc (
            split-taken text key rest (keyed-split text key rest keyed),
            split-taken text other after (keyed-split text other after is),
          ) in
          IsUtf8-from_ascii (percent_decode after)
          (subst (λ (l : List ℕ × List ℕ). IsAscii (percent_decode l.1)) same plain),
    )

-- what decodes to a path and an ending
path-ascii : (text path ending : List ℕ) → IsAscii ending → IsPathWith text path ending → IsAscii text
path-ascii text path ending plain is =
    subst IsAscii (sym is.whole)
    (IsAscii-append (escaped path) ending (escaped-ascii path (path-plain path is.path_is)) plain)

-- what is behind a plain dash and decodes to ASCII
own-ascii : (rest text : List ℕ) → IsAscii text → IsOwn rest text → IsAscii (percent_decode rest)
own-ascii rest text plain is =
    let decoded : percent_decode rest ≡ codes "-/" ++ text = ap percent_decode is.whole ∙ dash-decoded is.behind
    ∙ (λ i. codes "-/" ++ is.decodes i) in
    subst IsAscii (sym decoded) (IsAscii-append (codes "-/") text (ascii-from (codes "-/") refl) plain)

-- a rest that asks for something decodes to ASCII
resource-ascii : (rest : List ℕ) (asked : Resource) → IsResource rest asked → IsAscii (percent_decode rest)
resource-ascii rest (resource.Info path version) is =
    module-version-ascii (percent_decode rest) path version (codes ".info") (ascii-from (codes ".info") refl) is
resource-ascii rest (resource.GoMod path version) is =
    module-version-ascii (percent_decode rest) path version (codes ".mod") (ascii-from (codes ".mod") refl) is
resource-ascii rest (resource.Zip path version) is =
    module-version-ascii (percent_decode rest) path version (codes ".zip") (ascii-from (codes ".zip") refl) is
resource-ascii rest (resource.List path) is =
    path-ascii (percent_decode rest) path (codes "/@v/list") (ascii-from (codes "/@v/list") refl) is
resource-ascii rest (resource.Latest path) is =
    path-ascii (percent_decode rest) path (codes "/@latest") (ascii-from (codes "/@latest") refl) is
resource-ascii rest resource.Modules is = own-ascii rest (codes "modules") (ascii-from (codes "modules") refl) is
resource-ascii rest (resource.GoSum path version) is =
    let plain = IsAscii-append (codes "gosum/") is.text (ascii-from (codes "gosum/") refl)
    (module-version-ascii is.text path version [] IsAscii-nil is.named) in
    own-ascii rest (codes "gosum/" ++ is.text) plain is.own

pub readable-text : (method text : List ℕ) (asked : Target) → Asks method text asked → IsTextThroughout text
readable-text method text target.Unreadable a = absurd a
readable-text method text (target.Get key asked) a = throughout text key a.1.0 a.1.1 (resource-ascii a.1.0 asked a.1.2)
readable-text method text (target.Put key path version) a =
    throughout text key a.1.0 a.1.1 (module-version-ascii (percent_decode a.1.0) path version [] IsAscii-nil a.1.2)
