-- What a text is read as, computed, is what it is.
use Rattle.std.proofs.Common.{◌≡◌, ◌≢◌, ◌⊎◌, ◌==◌, ◌≤◌, ◌^◌, ℕ, List, [], ◌∷◌, length, Some, Ok, Err, Bool, true, false}
use Rattle.std.proofs.Common.{refl, sym, ap, ◌∙◌, subst, inl, inr, arith}
use Rattle.std.proofs.lemmas.Bool.{cases_Bool, eqb-true, lt-ltb, ltb-true}
use Rattle.std.proofs.lemmas.Bool.Decides.{nat_tests}
use Rattle.std.specs.List.{list_all, slice_split}
use Rattle.std.specs.Prelude.{Result, nat_le}
use Rattle.semver.specs.Parse.{Parts, version_parts}
use Rattle.semver.specs.declared.error.Error.{Error}
use Rattle.modver.specs.Parts.{is_marked, version_of_parts}
use Rattle.modver.specs.Reading.{IsCanonical, IsFault, IsHeld, IsSemVer, is_mark, reading, reading_of_bytes}
use Rattle.modver.specs.Reading.{reading_of_parts, value_of, version_of}
use Rattle.modver.specs.ReadingLaws.{EachTextHasOneReading, HasTextIsExact, TextIsOneToOne, VersionOfIsExact}
use Rattle.modver.specs.SemanticVersion.{IsVersion, SemanticVersion, incompatible, is_build_identifier, has_text}
use Rattle.modver.specs.SemanticVersion.{mark_of, version_text}
use Rattle.modver.specs.declared.version.VersionFault.{VersionFault}
use Rattle.modver.specs.declared.version.VersionFault.TheVariants as fault
use Rattle.modver.proofs.SemVerText.{IsSemVer-of, no_front, no_mark, parts_from, pre_release-of, refused}
use Rattle.modver.proofs.SemVerText.{version_parts-of, version_text-of}
use Rattle.modver.proofs.Conditions.{and-both, le-nat_le, nat_le-false, nat_le-true}
use Rattle.modver.proofs.SemVerText.{make}

-- ---- a version, by its text

mark-words : (m : Bool) → (mark_of m ≡ [])
    ⊎ (list_all is_build_identifier (slice_split (λ b. b == 46) (mark_of m)) ≡ true)
mark-words true = inr refl
mark-words false = inl refl

is_mark-mark_of : (m : Bool) → is_mark (mark_of m) ≡ true
is_mark-mark_of true = refl
is_mark-mark_of false = refl

is_marked-mark_of : (m : Bool) → is_marked (mark_of m) ≡ m
is_marked-mark_of true = refl
is_marked-mark_of false = refl

-- the text of a version is a text of SemVer
pub IsSemVer-text : (v : SemanticVersion) → IsVersion v → IsSemVer (version_text v) v (mark_of v.marked)
IsSemVer-text v valid = record { valid = valid; build_identifiers = mark-words v.marked; same = refl }

-- the parts of a version make it up again
pub parts-again : (v : SemanticVersion) → IsVersion v → version_of_parts (parts_from v (mark_of v.marked)) ≡ v
parts-again v valid =
    ap (λ (ids : List (List ℕ)). make v.major v.minor v.patch ids (is_marked (mark_of v.marked)))
    (pre_release-of v.identifiers valid.identifiers).1
    ∙ ap (λ (m : Bool). make v.major v.minor v.patch v.identifiers m) (is_marked-mark_of v.marked)

build-part : Result Parts Error → List ℕ
build-part (Ok p) = p.4
build-part (Err e) = []

version-part : Result Parts Error → SemanticVersion → SemanticVersion
version-part (Ok p) v = version_of_parts p
version-part (Err e) v = v

-- a text of SemVer has one build metadata
one-build : (text : List ℕ) (u v : SemanticVersion) (a b : List ℕ) → IsSemVer text u a → IsSemVer text v b → a ≡ b
unfolding build-part
one-build text u v a b s t =
    ap build-part (sym (version_parts-of text _ u a s.same s) ∙ version_parts-of text _ v b s.same t)

-- and a version one text
pub text-one : TextIsOneToOne
unfolding version-part
text-one u v p q e =
    let s = IsSemVer-text u p in
    let t : IsSemVer (version_text u) v (mark_of v.marked) =
    record { valid = q; build_identifiers = mark-words v.marked; same = e } in
    let same = sym (version_parts-of (version_text u) _ u (mark_of u.marked) refl s)
    ∙ version_parts-of (version_text u) _ v (mark_of v.marked) refl t in
    sym (parts-again u p) ∙ ap (λ r. version-part r u) same ∙ parts-again v q

-- ---- what is computed is so

-- a short text behind whose `v` the parts of a version are read is the canonical text of that version
parts-canonical : (text rest : List ℕ) (r : Result Parts Error) (v : SemanticVersion) → length text ≤ 128
    → text ≡ 118 ∷ rest → version_parts rest ≡ r
    → reading_of_parts r ≡ Ok v → IsCanonical text v
parts-canonical text rest (Ok p) v short front read h = elim (cases_Bool (is_mark p.4)) [
  | inl mark ↦
      let same : version_of_parts p ≡ v = cc (rw mark at h) in
      let s = IsSemVer-of text rest p front read in
      subst (λ (w : SemanticVersion). IsCanonical text w) same
      (record { valid = s.valid; same = version_text-of text rest p front read mark; short = short })
  | inr other ↦ cc (rw other at h)
]
parts-canonical text rest (Err e) v short front read h = cc h

bytes-canonical : (text : List ℕ) (v : SemanticVersion) → length text ≤ 128 → reading_of_bytes text ≡ Ok v
    → IsCanonical text v
bytes-canonical [] v short h = cc h
bytes-canonical (b ∷ rest) v short h = elim (cases_Bool (b == 118)) [
  | inl same ↦ parts-canonical (b ∷ rest) rest (version_parts rest) v short
      (ap (λ (x : ℕ). x ∷ rest) (eqb-true b 118 same)) refl (rw same at h)
  | inr other ↦ cc (rw other at h)
]

-- a fault found in what was read behind the `v` of a short text is a fault of the text
parts-fault : (text rest : List ℕ) (r : Result Parts Error) (f : VersionFault) → length text ≤ 128 → text ≡ 118 ∷ rest
    → version_parts rest ≡ r
    → reading_of_parts r ≡ Err f → IsFault text f
parts-fault text rest (Ok p) f short front read h = elim (cases_Bool (is_mark p.4)) [
  | inl mark ↦ cc (rw mark at h)
  | inr other ↦
      let same : fault.Build ≡ f = cc (rw other at h) in
      let n = no_mark p.4 other in
      subst (IsFault text) same (short, (version_of_parts p, p.4, IsSemVer-of text rest p front read, n.0, n.1))
]
parts-fault text rest (Err e) f short front read h =
    let same : fault.Form ≡ f = cc h in
    subst (IsFault text) same (short, refused text rest e front read)

-- a fault found in a short text is a fault that the text has
bytes-fault : (text : List ℕ) (f : VersionFault) → length text ≤ 128 → reading_of_bytes text ≡ Err f → IsFault text f
bytes-fault [] f short h =
    let same : fault.Form ≡ f = cc h in
    subst (IsFault []) same (short, no_front [] (λ rest e. cc e))
bytes-fault (b ∷ rest) f short h = elim (cases_Bool (b == 118)) [
  | inl same ↦ parts-fault (b ∷ rest) rest (version_parts rest) f short (ap (λ (x : ℕ). x ∷ rest) (eqb-true b 118 same))
      refl (rw same at h)
  | inr other ↦
      let same : fault.Form ≡ f = cc (rw other at h) in
      subst (IsFault (b ∷ rest)) same
      (short, no_front (b ∷ rest) (λ more e. let first : b ≡ 118 = cc e in absurd (grind (arith, nat_tests))))
]

pub canonical-of : (text : List ℕ) (v : SemanticVersion) → reading text ≡ Ok v → IsCanonical text v
unfolding reading
canonical-of text v h = elim (cases_Bool (nat_le (length text) 128)) [
  | inl short ↦ bytes-canonical text v (nat_le-true (length text) 128 short) (rw short at h)
  | inr long ↦ cc (rw long at h)
]

-- a canonical text is one that reading may hold
pub held-of : (text : List ℕ) (v : SemanticVersion) → IsCanonical text v → IsHeld text
held-of text v c = (
  c.short,
  (v, mark_of v.marked, subst (λ t. IsSemVer t v (mark_of v.marked)) c.same (IsSemVer-text v c.valid)),
)

pub fault-of : (text : List ℕ) (f : VersionFault) → reading text ≡ Err f → IsFault text f
unfolding reading
fault-of text f h = elim (cases_Bool (nat_le (length text) 128)) [
  | inl short ↦ bytes-fault text f (nat_le-true (length text) 128 short) (rw short at h)
  | inr long ↦
      let same : fault.TooLong ≡ f = cc (rw long at h) in
      subst (IsFault text) same (nat_le-false (length text) 128 long)
]

-- ---- and what is so is computed

text-reading : (v : SemanticVersion) → IsVersion v → length (version_text v) ≤ 128 → reading (version_text v) ≡ Ok v
unfolding reading
text-reading v valid short =
    let read = version_parts-of (version_text v) _ v (mark_of v.marked) refl (IsSemVer-text v valid) in
    rw (le-nat_le (length (version_text v)) 128 short, read, is_mark-mark_of v.marked)
    (ap (λ (w : SemanticVersion). Ok w) (parts-again v valid))

pub reading-of_canonical : (text : List ℕ) (v : SemanticVersion) → IsCanonical text v → reading text ≡ Ok v
reading-of_canonical text v c =
    subst (λ (t : List ℕ). reading t ≡ Ok v) c.same (text-reading v c.valid (omega (arith, ap length c.same, c.short)))

-- the mark is no other build metadata
no-other : (m : Bool) (build : List ℕ) → mark_of m ≡ build → build ≢ [] → build ≢ incompatible → ⊥
no-other true build e some other = other (sym e)
no-other false build e some other = some (sym e)

pub not-faulty : (text : List ℕ) (v : SemanticVersion) (f : VersionFault) → IsCanonical text v → ¬ (IsFault text f)
not-faulty text v fault.TooLong c h = absurd (omega (arith, c.short, h))
not-faulty text v fault.Form c h =
    h.1 v (mark_of v.marked) (record { valid = c.valid; build_identifiers = mark-words v.marked; same = sym c.same })
not-faulty text v fault.Build c h =
    let s : IsSemVer text v (mark_of v.marked) =
    record { valid = c.valid; build_identifiers = mark-words v.marked; same = sym c.same } in
    let same = one-build text v h.1.0 (mark_of v.marked) h.1.1 s h.1.2 in
    no-other v.marked h.1.1 same h.1.3 h.1.4
not-faulty text v fault.Memory c h = h

-- two faults of a text are one
one-fault : (text : List ℕ) (f g : VersionFault) → IsFault text f → IsFault text g → f ≡ g
one-fault text fault.TooLong fault.TooLong h k = refl
one-fault text fault.TooLong fault.Form h k = absurd (omega (arith, h, k.0))
one-fault text fault.TooLong fault.Build h k = absurd (omega (arith, h, k.0))
one-fault text fault.TooLong fault.Memory h k = absurd k
one-fault text fault.Form fault.TooLong h k = absurd (omega (arith, h.0, k))
one-fault text fault.Form fault.Form h k = refl
one-fault text fault.Form fault.Build h k = absurd (h.1 k.1.0 k.1.1 k.1.2)
one-fault text fault.Form fault.Memory h k = absurd k
one-fault text fault.Build fault.TooLong h k = absurd (omega (arith, h.0, k))
one-fault text fault.Build fault.Form h k = absurd (k.1 h.1.0 h.1.1 h.1.2)
one-fault text fault.Build fault.Build h k = refl
one-fault text fault.Build fault.Memory h k = absurd k
one-fault text fault.Memory g h k = absurd h

one-reading : (text : List ℕ) (r : Result SemanticVersion VersionFault) → reading text ≡ r
    → ((v : SemanticVersion) × IsCanonical text v) ⊎ ((f : VersionFault) × IsFault text f)
one-reading text (Ok v) e = inl (v, canonical-of text v e)
one-reading text (Err f) e = inr (f, fault-of text f e)

pub each-one : EachTextHasOneReading
each-one text = record {
  some = one-reading text (reading text) refl;
  one_version = λ u v c d. text-one u v c.valid d.valid (c.same ∙ sym d.same);
  one_fault = one-fault text;
  not_both = not-faulty text;
}

value-some : (r : Result SemanticVersion VersionFault) (v : SemanticVersion) → value_of r ≡ Some v → r ≡ Ok v
value-some (Ok w) v e = let same : w ≡ v = cc e in ap (λ (x : SemanticVersion). Ok x) same
value-some (Err f) v e = cc e

pub version-of : VersionOfIsExact
unfolding version_of
version-of text v = (
  λ e. canonical-of text v (value-some (reading text) v e),
  λ c.
      ap value_of (reading-of_canonical text v c),
)

-- ---- the test of a version

-- the test of a version is true exactly of the versions that have a canonical text
pub has-text : HasTextIsExact
unfolding has_text
has-text v = (
  λ h.
      let a = and-both _ _ h in
      let b = and-both _ _ a.0 in
      let c = and-both _ _ b.0 in
      let d = and-both _ _ c.0 in
      record {
        valid = record {
          major = ltb-true v.major (2 ^ 64) d.0;
          minor = ltb-true v.minor (2 ^ 64) d.1;
          patch =
              ltb-true v.patch (2 ^ 64) c.1;
          identifiers = b.1;
        };
        same = refl;
        short = nat_le-true (length (version_text v)) 128 a.1;
      },
  λ c. rw (
    lt-ltb v.major (2 ^ 64) c.valid.major,
    lt-ltb v.minor (2 ^ 64) c.valid.minor,
    lt-ltb v.patch (2 ^ 64) c.valid.patch,
    c.valid.identifiers,
  ) (le-nat_le (length (version_text v)) 128 c.short),
)
