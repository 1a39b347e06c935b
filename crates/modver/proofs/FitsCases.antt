-- The computed test of what fits, by cases.
use Rattle.std.proofs.Common.{◌≡◌, ◌≢◌, ◌⊎◌, ◌==◌, ◌&&◌, ◌||◌, ◌<◌, ◌≤◌, ℕ, List, [], ◌∷◌, Bool, true, false, not, refl}
use Rattle.std.proofs.Common.{inl, inr, nat_lt}
use Rattle.std.proofs.lemmas.Bool.{eq-eqb, eqb-true, lt-ltb, ltb-true}
use Rattle.std.specs.Prelude.{if◌then◌else◌, nat_le}
use Rattle.modpath.specs.declared.major.Suffix.TheVariants as suffix
use Rattle.modver.specs.Fits.{Fits, IsZeroPreRelease, fits, has_identifiers, is_zero_pre_release}
use Rattle.modver.specs.Laws.{FitsIsExact}
use Rattle.modver.specs.SemanticVersion.{SemanticVersion}
use Rattle.modver.proofs.Conditions.{and-both, le-nat_le, nat_le-true}

unmarked : (m : Bool) → not m ≡ true → m ≡ false
unmarked true h = cc h
unmarked false h = refl

or-either : (x y : Bool) → (x || y) ≡ true → (x ≡ true) ⊎ (y ≡ true)
or-either true y h = inl refl
or-either false y h = inr h

and-intro : (x y : Bool) → x ≡ true → y ≡ true → (x && y) ≡ true
and-intro x y h k = rw (h, k) refl

or-second : (x y : Bool) → y ≡ true → (x || y) ≡ true
or-second true y h = refl
or-second false y h = h

-- without a suffix
none-fits : (m : Bool) (a : ℕ) → (if m then nat_le 2 a else nat_lt a 2) ≡ true
    → ((m ≡ false) × (a < 2)) ⊎ ((m ≡ true) × (2 ≤ a))
none-fits true a h = inr (refl, nat_le-true 2 a h)
none-fits false a h = inl (refl, ltb-true a 2 h)

fits-none : (m : Bool) (a : ℕ) → ((m ≡ false) × (a < 2)) ⊎ ((m ≡ true) × (2 ≤ a))
    → (if m then nat_le 2 a else nat_lt a 2) ≡ true
fits-none m a (inl p) = rw p.0 (lt-ltb a 2 p.1)
fits-none m a (inr p) = rw p.0 (le-nat_le 2 a p.1)

-- pre-releases of v0.0.0
some-identifiers : (ids : List (List ℕ)) → has_identifiers ids ≡ true → ids ≢ []
some-identifiers [] h e = cc h
some-identifiers (i ∷ rest) h e = cc e

identifiers-some : (ids : List (List ℕ)) → ids ≢ [] → has_identifiers ids ≡ true
identifiers-some [] h = absurd (h refl)
identifiers-some (i ∷ rest) h = refl

zero-of : (v : SemanticVersion) → is_zero_pre_release v ≡ true → IsZeroPreRelease v
zero-of v h =
    let a = and-both _ _ h in
    let b = and-both _ _ a.0 in
    let c = and-both _ _ b.0 in
    record {
      major = eqb-true v.major 0 c.0;
      minor = eqb-true v.minor 0 c.1;
      patch = eqb-true v.patch 0 b.1;
      identifiers = some-identifiers v.identifiers a.1;
    }

of-zero : (v : SemanticVersion) → IsZeroPreRelease v → is_zero_pre_release v ≡ true
of-zero v z = rw (z.major, z.minor, z.patch) (identifiers-some v.identifiers z.identifiers)

-- with one
dot-fits : (n : ℕ) (v : SemanticVersion) → fits (suffix.Dot n) v ≡ true → Fits (suffix.Dot n) v
dot-fits n v h =
    let both = and-both _ _ h in
    let mark = unmarked v.marked both.1 in
    elim (or-either _ _ both.0) [
      | inl major ↦ (inl (eqb-true v.major n major), mark)
      | inr old ↦ let halves = and-both _ _ old in (inr (eqb-true n 1 halves.0, zero-of v halves.1), mark)
    ]

fits-dot : (n : ℕ) (v : SemanticVersion) → Fits (suffix.Dot n) v → fits (suffix.Dot n) v ≡ true
fits-dot n v (inl major, mark) = rw (eq-eqb v.major n major, mark) refl
fits-dot n v (inr old, mark) =
    let one : ((n == 1) && is_zero_pre_release v) ≡ true =
    and-intro (n == 1) (is_zero_pre_release v) (eq-eqb n 1 old.0) (of-zero v old.1) in
    let either : ((v.major == n) || ((n == 1) && is_zero_pre_release v)) ≡ true =
    or-second (v.major == n) ((n == 1) && is_zero_pre_release v) one in
    and-intro ((v.major == n) || ((n == 1) && is_zero_pre_release v)) (not v.marked) either (rw mark refl)

pub fits-exact : FitsIsExact
fits-exact suffix.None v = (none-fits v.marked v.major, fits-none v.marked v.major)
fits-exact (suffix.Slash n) v = (
  λ h. let both = and-both _ _ h in (eqb-true v.major n both.0, unmarked v.marked both.1),
  λ p. rw (eq-eqb v.major n p.0, p.1) refl,
)
fits-exact (suffix.Dot n) v = (dot-fits n v, fits-dot n v)
