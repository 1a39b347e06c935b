-- The computed stamp of a version is that of its form as a pseudo-version.
use Rattle.std.proofs.Common.{◌≡◌, ◌≢◌, ◌==◌, ◌&&◌, ◌≤◌, ◌++◌, ℕ, List, [], ◌∷◌, length, length-drop, take, drop}
use Rattle.std.proofs.Common.{reverse, Option, Some, None, Bool, true, false, refl, sym, ap, ◌∙◌, subst, inl, inr}
use Rattle.std.proofs.Common.{arith}
use Rattle.std.proofs.Math.Seq.{take-append_seam}
use Rattle.std.proofs.lemmas.Bool.{cases_Bool, eqb-true}
use Rattle.std.proofs.lemmas.List.{drop-drop, reverse-append, reverse-reverse, take-append-drop, take_all}
use Rattle.std.proofs.lemmas.Slice.Eq.{bytes_eq-Decides}
use Rattle.std.specs.List.{list_all}
use Rattle.std.specs.Prelude.{codes, if◌then◌else◌}
use Rattle.modver.specs.Class.{class_from, is_zero, may_precede, stamp_from, stamp_of, stamp_of_identifier}
use Rattle.modver.specs.Laws.{EachVersionHasItsClass, StampHasATime, StampOfIsExact}
use Rattle.modver.specs.Pseudo.{IsPseudo, IsStamped}
use Rattle.modver.specs.SemanticVersion.{SemanticVersion}
use Rattle.modver.specs.Time.{IsTime, fits_byte, fits_form, is_lower_hex, is_moment, time_of_stamp}
use Rattle.modver.specs.declared.version.Class.TheVariants as class
use Rattle.modver.proofs.DotParts.{reverse-some}
use Rattle.modver.proofs.Forms.{fits_form-append, fits_form-slice, length-fits}
use Rattle.modver.proofs.Times.{stamp-of_digits, stamp-passes}
use Rattle.modver.proofs.Conditions.{and-both, and-first, and-second, le-nat_le, nat_le-true}
use Rattle.modver.proofs.DotParts.{no-stamp}

-- ---- stamped identifiers

hex-fit : (form text : List ℕ) → list_all (λ f. f == 104) form ≡ true → fits_form form text ≡ true
    → list_all is_lower_hex text ≡ true
hex-fit [] [] d h = refl
hex-fit [] (b ∷ text) d h = cc h
hex-fit (f ∷ form) [] d h = cc h
hex-fit (f ∷ form) (b ∷ text) d h =
    let letter = and-first (f == 104) _ d in
    let is : f ≡ 104 = eqb-true f 104 letter in
    let byte : is_lower_hex b ≡ true = rw is at (and-first (fits_byte f b) _ h) in
    rw byte (hex-fit form text (and-second (f == 104) _ d) (and-second (fits_byte f b) _ h))

fit-hex : (form text : List ℕ) → list_all (λ f. f == 104) form ≡ true → length form ≡ length text
    → list_all is_lower_hex text ≡ true → fits_form form text ≡ true
fit-hex [] [] d e h = refl
fit-hex [] (b ∷ text) d e h = absurd (omega arith)
fit-hex (f ∷ form) [] d e h = absurd (omega arith)
fit-hex (f ∷ form) (b ∷ text) d e h =
    let is : f ≡ 104 = eqb-true f 104 (and-first (f == 104) _ d) in
    rw (is, and-first (is_lower_hex b) _ h)
    (fit-hex form text (and-second (f == 104) _ d) (omega arith) (and-second (is_lower_hex b) _ h))

-- the first byte of a text that fits a dash
dash : (text : List ℕ) → fits_form (codes "-") (take 1 text) ≡ true → text ≡ 45 ∷ drop 1 text
dash [] h = cc h
dash (b ∷ rest) h = let same : b ≡ 45 = eqb-true b 45 (and-first (b == 45) _ h) in ap (λ (x : ℕ). x ∷ rest) same

-- an identifier of the form of a stamp and a revision whose time exists is stamped by its first 14 bytes
form-stamped : (i : List ℕ) → fits_form (codes "dddddddddddddd-hhhhhhhhhhhh") i ≡ true
    → is_moment (time_of_stamp (take 14 i)) ≡ true → IsStamped i (take 14 i)
form-stamped i form moment =
    let f = codes "dddddddddddddd-hhhhhhhhhhhh" in
    let size : 27 ≡ length i = length-fits f i form in
    let stamp : fits_form (codes "dddddddddddddd") (take 14 i) ≡ true = fits_form-slice f i 0 14 form in
    let middle : drop 14 i ≡ 45 ∷ drop 1 (drop 14 i) = dash (drop 14 i) (fits_form-slice f i 14 1 form) in
    let revision : fits_form (codes "hhhhhhhhhhhh") (take 12 (drop 15 i)) ≡ true = fits_form-slice f i 15 12 form in
    let rest : length (drop 15 i) ≡ 12 = omega (arith, length-drop 15 i) in
    let whole : take 12 (drop 15 i) ≡ drop 15 i = take_all 12 (drop 15 i) (omega arith) in
    record {
      revision = drop 15 i;
      named = stamp-of_digits (take 14 i) stamp moment;
      same = sym (take-append-drop 14 i)
          ∙ ap (λ (t : List ℕ). take 14 i ++ t) (middle ∙ ap (λ (t : List ℕ). 45 ∷ t) (drop-drop 1 14 i));
      hexadecimal = (rest, hex-fit (codes "hhhhhhhhhhhh") (drop 15 i) refl (rw whole at revision));
    }

take-front : (s t : List ℕ) (n : ℕ) → length s ≡ n → take n (s ++ t) ≡ s
take-front s t n e = ap (λ (k : ℕ). take k (s ++ t)) (sym e) ∙ take-append_seam s t

stamped-of : (i stamp : List ℕ) → stamp_of_identifier i ≡ Some stamp → IsStamped i stamp
stamped-of i stamp h = elim (cases_Bool
    (fits_form (codes "dddddddddddddd-hhhhhhhhhhhh") i && is_moment (time_of_stamp (take 14 i)))) [
      | inl good ↦
          let same : take 14 i ≡ stamp = cc (rw good at h) in
          subst (λ (s : List ℕ). IsStamped i s) same (form-stamped i (and-first _ _ good) (and-second _ _ good))
      | inr bad ↦ cc (rw bad at h)
    ]

of-stamped : (i stamp : List ℕ) → IsStamped i stamp → stamp_of_identifier i ≡ Some stamp
of-stamped i stamp s =
    let given = stamp-passes stamp s.named in
    let front : take 14 i ≡ stamp =
    rw s.same (take-front stamp (45 ∷ s.revision) 14 (sym (length-fits (codes "dddddddddddddd") stamp given.0))) in
    let rest : fits_form (codes "-hhhhhhhhhhhh") (45 ∷ s.revision) ≡ true =
    fit-hex (codes "hhhhhhhhhhhh") s.revision refl (sym s.hexadecimal.0) s.hexadecimal.1 in
    let whole : fits_form (codes "dddddddddddddd-hhhhhhhhhhhh") i ≡ true = rw s.same
    (fits_form-append (codes "dddddddddddddd") (codes "-hhhhhhhhhhhh") stamp (45 ∷ s.revision) given.0 rest) in
    rw (whole, front, given.1) refl

-- ---- the three forms

zero-is : (i : List ℕ) → is_zero i ≡ true → i ≡ codes "0"
zero-is i h = (bytes_eq-Decides i (codes "0")).0 h

if-some : (b : Bool) (o : Option (List ℕ)) (s : List ℕ) → (if b then o else None) ≡ Some s → (b ≡ true) × (o ≡ Some s)
if-some true o s h = (refl, h)
if-some false o s h = cc h

-- from the identifiers, the last first, to the form
pseudo-from : (v : SemanticVersion) (back : List (List ℕ)) (stamp : List ℕ) → v.identifiers ≡ reverse back
    → stamp_from v.minor v.patch back ≡ Some stamp → IsPseudo v stamp
pseudo-from v [] stamp ids h = cc h
pseudo-from v (last ∷ []) stamp ids h =
    let halves = if-some _ _ stamp h in
    let zeros = and-both _ _ halves.0 in
    inl (record {
      last = last;
      identifiers = ids;
      numbers = (eqb-true v.minor 0 zeros.0, eqb-true v.patch 0 zeros.1);
      stamped = stamped-of last stamp halves.1;
    })
pseudo-from v (last ∷ before ∷ []) stamp ids h =
    let halves = if-some _ _ stamp h in
    let tests = and-both _ _ halves.0 in
    let zero = zero-is before tests.0 in
    let patch : 1 ≤ v.patch = nat_le-true 1 v.patch tests.1 in
    inr (inl (record {
      last = last;
      identifiers = ids
          ∙ ap (λ (z : List ℕ). z ∷ last ∷ []) zero;
      patch = patch;
      stamped = stamped-of last stamp halves.1;
    }))
pseudo-from v (last ∷ before ∷ more ∷ rest) stamp ids h =
    let halves = if-some _ _ stamp h in
    let zero = zero-is before halves.0 in
    let front = reverse (more ∷ rest) in
    let some = reverse-some more rest in
    let split : reverse (last ∷ before ∷ more ∷ rest) ≡ front ++ before ∷ last ∷ [] =
    reverse-append (last ∷ before ∷ []) (more ∷ rest) in
    inr (inr (record {
      front = front;
      last = last;
      some = λ e. cc (sym some.2 ∙ e);
      identifiers = ids ∙ split ∙ ap (λ (z : List ℕ). front ++ z ∷ last ∷ []) zero;
      stamped = stamped-of last stamp halves.1;
    }))

-- from the form to the stamp
front-may : (minor patch : ℕ) (front : List (List ℕ)) → front ≢ []
    → may_precede minor patch (codes "0" ∷ reverse front) ≡ true
front-may minor patch [] some = absurd (some refl)
front-may minor patch (x ∷ xs) some = let s = reverse-some x xs in rw s.2 refl

pub pseudo-stamp : (v : SemanticVersion) (stamp : List ℕ) → IsPseudo v stamp → stamp_of v ≡ Some stamp
unfolding stamp_of
pseudo-stamp v stamp (inl p) =
    rw (p.identifiers, p.numbers.0, p.numbers.1) (of-stamped p.last stamp p.stamped)
pseudo-stamp v stamp (inr (inl p)) =
    rw (p.identifiers, le-nat_le 1 v.patch p.patch) (of-stamped p.last stamp p.stamped)
pseudo-stamp v stamp (inr (inr p)) =
    let back : reverse (p.front ++ codes "0" ∷ p.last ∷ []) ≡ p.last ∷ codes "0" ∷ reverse p.front =
    reverse-append p.front (codes "0" ∷ p.last ∷ []) in
    rw (p.identifiers, back, front-may v.minor v.patch p.front p.some) (of-stamped p.last stamp p.stamped)

pub stamp-of : StampOfIsExact
unfolding stamp_of
stamp-of v stamp = (
  λ h. pseudo-from v (reverse v.identifiers) stamp (sym (reverse-reverse v.identifiers)) h,
  λ p. pseudo-stamp v stamp p,
)

-- ---- classes

stamped-time : (i stamp : List ℕ) → IsStamped i stamp → IsTime (time_of_stamp stamp)
stamped-time i stamp s =
    record { at = s.named.at; digits = s.named.digits; exists = s.named.exists; same = ap time_of_stamp s.named.same }

pub stamp-time : StampHasATime
stamp-time v stamp (inl p) = stamped-time p.last stamp p.stamped
stamp-time v stamp (inr (inl p)) = stamped-time p.last stamp p.stamped
stamp-time v stamp (inr (inr p)) = stamped-time p.last stamp p.stamped

none-not : (v : SemanticVersion) → stamp_of v ≡ None → (stamp : List ℕ) → ¬ (IsPseudo v stamp)
none-not v none stamp p = cc (none, pseudo-stamp v stamp p)

not-none : (v : SemanticVersion) (o : Option (List ℕ)) → stamp_of v ≡ o → ((stamp : List ℕ) → ¬ (IsPseudo v stamp))
    → o ≡ None
not-none v None e h = refl
not-none v (Some stamp) e h = absurd (h stamp ((stamp-of v stamp).0 e))

-- the class, from the identifiers and the stamp
is-pseudo : (ids : List (List ℕ)) (o : Option (List ℕ)) (time : List ℕ) → class_from ids o ≡ class.Pseudo time
    → (stamp : List ℕ) × (o ≡ Some stamp) × (time ≡ time_of_stamp stamp)
is-pseudo [] o time h = cc h
is-pseudo (i ∷ rest) None time h = cc h
is-pseudo (i ∷ rest) (Some stamp) time h = (stamp, refl, let same : time ≡ time_of_stamp stamp = cc h in same)

to-pseudo : (ids : List (List ℕ)) (o : Option (List ℕ)) (stamp : List ℕ) → (ids ≡ [] → o ≡ None) → o ≡ Some stamp
    → class_from ids o ≡ class.Pseudo (time_of_stamp stamp)
to-pseudo [] o stamp none e = cc (none refl, e)
to-pseudo (i ∷ rest) o stamp none e = rw e refl

is-pre : (ids : List (List ℕ)) (o : Option (List ℕ)) → class_from ids o ≡ class.Pre → (ids ≢ []) × (o ≡ None)
is-pre [] o h = cc h
is-pre (i ∷ rest) None h = (λ e. cc e, refl)
is-pre (i ∷ rest) (Some stamp) h = cc h

to-pre : (ids : List (List ℕ)) (o : Option (List ℕ)) → ids ≢ [] → o ≡ None → class_from ids o ≡ class.Pre
to-pre [] o some e = absurd (some refl)
to-pre (i ∷ rest) o some e = rw e refl

is-release : (ids : List (List ℕ)) (o : Option (List ℕ)) → class_from ids o ≡ class.Release → ids ≡ []
is-release [] o h = refl
is-release (i ∷ rest) None h = cc h
is-release (i ∷ rest) (Some stamp) h = cc h

to-release : (ids : List (List ℕ)) (o : Option (List ℕ)) → ids ≡ [] → class_from ids o ≡ class.Release
to-release ids o e = rw e refl

-- the computed class of a version is the class that it has
pub each-class : EachVersionHasItsClass
each-class v = record {
  pseudo = λ time. (
    λ h. let p = is-pseudo v.identifiers (stamp_of v) time h in (p.0, (stamp-of v p.0).0 p.1, p.2),
    λ p. to-pseudo v.identifiers (stamp_of v) p.0 (no-stamp v) (pseudo-stamp v p.0 p.1)
        ∙ ap (λ (t : List ℕ). class.Pseudo t) (sym p.2),
  );
  pre = (
    λ h. let p = is-pre v.identifiers (stamp_of v) h in (p.0, none-not v p.1),
    λ p. to-pre v.identifiers (stamp_of v) p.0 (not-none v (stamp_of v) refl p.1),
  );
  release = (λ h. is-release v.identifiers (stamp_of v) h, λ e. to-release v.identifiers (stamp_of v) e);
}
