-- The suffix that is computed of a text is the one that it has.
use Rattle.std.proofs.Common.{◌≡◌, ◌==◌, ◌&&◌, ◌||◌, ◌↔◌, ◌⊎◌, ◌^◌, ◌<◌, ◌≤◌, ◌++◌, ℕ, List, [], ◌∷◌, length, codes}
use Rattle.std.proofs.Common.{nat_eq, Option}
use Rattle.std.proofs.Common.{Some, None, Bool, true, false, ltb, refl, sym, ap, ◌∙◌, inl, inr, append_assoc, subst}
use Rattle.std.proofs.Common.{if◌then◌else◌}
use Rattle.std.proofs.lemmas.Bool.{and_from, and_parts, cases_Bool, eq-eqb, eqb-true, false_from_ne_true, le-ltb}
use Rattle.std.proofs.lemmas.Bool.{lt-ltb, ltb-false, ltb-true, or_cases, or_left, or_right}
use Rattle.std.proofs.lemmas.Fmt.{decimal_nonempty}
use Rattle.std.proofs.lemmas.List.Folds.{list_any-append}
use Rattle.std.specs.Char.{is_ascii_digit}
use Rattle.std.specs.Cmp.Lexicographic.{pointwise}
use Rattle.std.specs.Fmt.{decimal}
use Rattle.std.specs.List.{All, list_all, slice_split}
use Rattle.std.specs.Option.{option_map, unwrap_or}
use Rattle.std.specs.Prelude.{IsTrue}
use Rattle.modpath.specs.declared.major.Suffix.{Suffix}
use Rattle.modpath.specs.declared.major.Suffix.TheVariants as suffix
use Rattle.modpath.specs.ModulePath.{BeginsWith, EndsWith, HasSuffix, LooksVersioned}
use Rattle.modpath.specs.Path.{dot_suffix, dot_suffix_after, elements, first_element, number_of, slash_number}
use Rattle.modpath.specs.Path.{slash_suffix, suffix_of_elements}
use Rattle.modpath.specs.PathLaws.{SuffixesAreExact}
use Rattle.modpath.proofs.ElementLaw.{all_exact}
use Rattle.modpath.proofs.NumberLaw.{decimal-digits, numbers_are_exact}
use Rattle.modpath.proofs.ReservedLaw.{text_eq}
use Rattle.modpath.proofs.Separators.{Cut, cut, cut-last, digits-have_no, has, last_unique, split_first, split_none}
use Rattle.modpath.proofs.Suffixes.{dot-split, suffix-split}

pub same-suffix : (s t : Suffix) → Some s ≡ Some t → s ≡ t
same-suffix s t h = ap (λ o. unwrap_or o s) h

number-cases : (o : Option ℕ) → (o ≡ None) ⊎ ((n : ℕ) × (o ≡ Some n))
number-cases None = inl refl
number-cases (Some n) = inr (n, refl)

-- the decimal of a number has no byte that is no digit
decimal-has-no : (c : ℕ) → is_ascii_digit c ≡ false → (n : ℕ) → n < 2 ^ 64 → has c (decimal n) ≡ false
decimal-has-no c h n bound = digits-have_no c is_ascii_digit h (decimal n) (decimal-digits n bound)

-- a text has the separator at which it is cut
has-cut : (sep : ℕ) (front back : List ℕ) → has sep (front ++ sep ∷ back) ≡ true
has-cut sep front back = list_any-append (λ b. b == sep) front (sep ∷ back)
    ∙ or_right _ _ (or_left _ _ (eq-eqb sep sep refl))

-- ---- the dot suffix

-- a text after the last dot that gives a suffix is a `v` and the decimal of a number of at most 64 bits, and the
-- suffix is that number's
dot_after-to : (l : List ℕ) (s : Suffix) → dot_suffix_after l ≡ Some s
    → (n : ℕ) × (suffix.Dot n ≡ s) × (l ≡ 118 ∷ decimal n) × (n < 2 ^ 64)
dot_after-to [] s h = cc h
dot_after-to (b ∷ rest) s h = elim (cases_Bool (b == 118)) [
  | inr other ↦ cc (rw other at h)
  | inl v ↦
      let m : option_map suffix.Dot (number_of rest) ≡ Some s = rw v at h in
      elim (number-cases (number_of rest)) [
        | inl none ↦ cc (sym (ap (option_map suffix.Dot) none) ∙ m)
        | inr n ↦
            let d = (numbers_are_exact rest n.0).0 n.1 in (
              n.0,
              same-suffix (suffix.Dot n.0) s (sym (ap (option_map suffix.Dot) n.1) ∙ m),
              ap (λ x. x ∷ rest) (eqb-true b 118 v) ∙ ap (λ (l : List ℕ). 118 ∷ l) d.0,
              d.1,
            )
      ]
]

dot_after-from : (n : ℕ) → n < 2 ^ 64 → dot_suffix_after (118 ∷ decimal n) ≡ Some (suffix.Dot n)
dot_after-from n bound = ap (option_map suffix.Dot) ((numbers_are_exact (decimal n) n).1 (refl, bound))

dot-after-last : (e : List ℕ) (c : Cut 46 e) → dot_suffix e ≡ dot_suffix_after c.last
dot-after-last e c =
    dot-split e c.first c.rest
    (ap (slice_split (λ b. b == 46)) c.at_first ∙ split_first 46 c.first c.rest c.none_in_first)
    ∙ ap dot_suffix_after c.is_last

dot-to : (e : List ℕ) (s : Suffix) → dot_suffix e ≡ Some s
    → (n : ℕ) × (suffix.Dot n ≡ s) × EndsWith e (codes ".v" ++ decimal n) × (n < 2 ^ 64)
dot-to e s h = elim (cases_Bool (has 46 e)) [
  | inr none ↦ cc (rw (split_none 46 e none) at h)
  | inl some ↦
      let c = cut 46 e some in
      let d = dot_after-to c.last s (sym (dot-after-last e c) ∙ h) in
      (d.0, d.1, (c.front, c.at_last ∙ ap (λ (l : List ℕ). c.front ++ 46 ∷ l) d.2), d.3)
]

-- an element that ends with `.v` and the decimal of n has the dot suffix n, if n has at most 64 bits
dot-from : (e : List ℕ) (n : ℕ) → EndsWith e (codes ".v" ++ decimal n) → n < 2 ^ 64 → dot_suffix e ≡ Some (suffix.Dot n)
dot-from e n u bound =
    let some : has 46 e ≡ true = ap (has 46) u.1 ∙ has-cut 46 u.0 (118 ∷ decimal n) in
    let c = cut 46 e some in
    let last = last_unique 46 c.front c.last u.0 (118 ∷ decimal n) (sym c.at_last ∙ u.1) c.none_in_last
    (decimal-has-no 46 refl n bound) in
    dot-after-last e c ∙ ap dot_suffix_after last ∙ dot_after-from n bound

-- ---- the slash suffix

-- a `v` with digits and dots
record Numbered (e : List ℕ) : Type 0 where
  number : List ℕ
  ending : e ≡ 118 ∷ number
  some : 0 < length number
  each : All (λ b. IsTrue (is_ascii_digit b) ⊎ (b ≡ 46)) number

abbrev dotted : List ℕ → Bool
dotted text = list_all (λ d. is_ascii_digit d || (d == 46)) text

dotted_exact : (text : List ℕ) → (dotted text ≡ true) ↔ All (λ b. IsTrue (is_ascii_digit b) ⊎ (b ≡ 46)) text
dotted_exact text = all_exact (λ d. is_ascii_digit d || (d == 46)) (λ b. IsTrue (is_ascii_digit b) ⊎ (b ≡ 46))
    (λ b. (
      λ h. elim (or_cases _ _ h) [ inl digit ↦ inl digit | inr dot ↦ inr (eqb-true b 46 dot) ],
      λ u. elim u [ inl digit ↦ or_left _ _ digit | inr dot ↦ or_right _ _ (eq-eqb b 46 dot) ],
    )) text

abbrev numbered : ℕ → List ℕ → Bool
numbered b rest = (b == 118) && ltb 0 (length rest) && dotted rest

-- the test `numbered` passes exactly a `v` and then one or more digits and dots
numbered_exact : (b : ℕ) (rest : List ℕ) → (numbered b rest ≡ true) ↔ Numbered (b ∷ rest)
numbered_exact b rest = (
  λ h. let p = and_parts _ _ h in let q = and_parts _ _ p.0 in record {
    number = rest;
    ending = ap (λ x. x ∷ rest) (eqb-true b 118 q.0);
    some = ltb-true 0 (length rest) q.1;
    each = (dotted_exact rest).0 p.1;
  },
  λ u. numbered-from u.number u.ending u.some u.each,
)
  where
    first_byte : List ℕ → ℕ
    first_byte [] = 0
    first_byte (x ∷ xs) = x

    numbered-from : (number : List ℕ) → b ∷ rest ≡ 118 ∷ number → 0 < length number
        → All (λ x. IsTrue (is_ascii_digit x) ⊎ (x ≡ 46)) number → numbered b rest ≡ true
    numbered-from number ending some each =
        let v : b ≡ 118 = ap (λ (l : List ℕ). first_byte l) ending in
        let same : rest ≡ number = cc ending in
        rw same (and_from _ _ (and_from _ _ (eq-eqb b 118 v) (lt-ltb 0 (length number) some))
        ((dotted_exact number).1 each))

-- what the last element of a path tells of its suffix
abbrev Ending : List ℕ → Suffix → Type 0
Ending e (suffix.Dot n) = ⊥
Ending e (suffix.Slash n) = (e ≡ 118 ∷ decimal n) × (2 ≤ n) × (n < 2 ^ 64)
Ending e suffix.None = ¬ Numbered e

nil-numbered : Numbered [] → ⊥
nil-numbered u = nil-cons u.number u.ending
  where
    nil-cons : (rest : List ℕ) → ◌≡◌ {A = List ℕ} [] (118 ∷ rest) → ⊥
    nil-cons rest h = cc h

-- the slash suffix found in the last element of a path is the one that the element has
slash-to : (e : List ℕ) (s : Suffix) → slash_suffix e ≡ Some s → Ending e s
slash-to [] s h = subst (Ending []) (same-suffix suffix.None s h) nil-numbered
slash-to (b ∷ rest) s h = elim (cases_Bool (numbered b rest)) [
  | inr plain ↦ subst (Ending (b ∷ rest)) (same-suffix suffix.None s (rw plain at h))
      (λ u. cc ((numbered_exact b rest).1 u, plain))
  | inl looks ↦
      let m : slash_number (number_of rest) ≡ Some s = rw looks at h in
      let v : b ≡ 118 = eqb-true b 118 (and_parts _ _ (and_parts _ _ looks).0).0 in
      elim (number-cases (number_of rest)) [
        | inl none ↦ cc (sym (ap slash_number none) ∙ m)
        | inr n ↦ elim (cases_Bool (ltb n.0 2)) [
          | inl small ↦ cc (sym (small-none n.0 small) ∙ sym (ap slash_number n.1) ∙ m)
          | inr large ↦
              let d = (numbers_are_exact rest n.0).0 n.1 in
              subst (Ending (b ∷ rest))
              (same-suffix (suffix.Slash n.0) s (sym (large-some n.0 large) ∙ sym (ap slash_number n.1) ∙ m))
              (ap (λ x. x ∷ rest) v ∙ ap (λ (l : List ℕ). 118 ∷ l) d.0, ltb-false n.0 2 large, d.1)
        ]
      ]
]
  where
    small-none : (n : ℕ) → ltb n 2 ≡ true → slash_number (Some n) ≡ None
    small-none n h = rw h refl

    large-some : (n : ℕ) → ltb n 2 ≡ false → slash_number (Some n) ≡ Some (suffix.Slash n)
    large-some n h = rw h refl

decimal-dotted : (ds : List ℕ) → list_all is_ascii_digit ds ≡ true → dotted ds ≡ true
decimal-dotted [] h = refl
decimal-dotted (d ∷ ds) h =
    let p = and_parts _ _ h in
    and_from _ _ (or_left _ _ p.0) (decimal-dotted ds p.1)

-- the slash suffix that the last element of a path has is found
slash-from : (e : List ℕ) (s : Suffix) → Ending e s → slash_suffix e ≡ Some s
slash-from e (suffix.Dot n) u = absurd u
slash-from e (suffix.Slash n) u =
    let looks : numbered 118 (decimal n) ≡ true =
    and_from _ _ (lt-ltb 0 (length (decimal n)) (decimal_nonempty n u.2))
    (decimal-dotted (decimal n) (decimal-digits n u.2)) in
    let number : number_of (decimal n) ≡ Some n = (numbers_are_exact (decimal n) n).1 (refl, u.2) in
    ap slash_suffix u.0 ∙ rw (looks, number, le-ltb n 2 u.1) refl
slash-from [] suffix.None u = refl
slash-from (b ∷ rest) suffix.None u = elim (cases_Bool (numbered b rest)) [
  | inl looks ↦ absurd (u ((numbered_exact b rest).0 looks))
  | inr plain ↦ rw plain refl
]

-- ---- the last element of a text

-- an ending without slash is one of the last element
ends-last : (text back : List ℕ) (c : Cut 47 text) → has 47 back ≡ false → EndsWith text back → EndsWith c.last back
ends-last text back c none u = elim (cut-last 47 u.0) [
  | inl no_slash ↦
      let no : has 47 text ≡ false = ap (has 47) u.1 ∙ list_any-append (λ b. b == 47) u.0 back
      ∙ rw (no_slash, none) refl in
      let yes_slash : has 47 text ≡ true = ap (has 47) c.at_last ∙ has-cut 47 c.front c.last in
      cc (yes_slash, no)
  | inr l ↦
      let at : text ≡ l.0 ++ 47 ∷ (l.1 ++ back)
      = u.1 ∙ ap (λ (f : List ℕ). f ++ back) l.2 ∙ append_assoc l.0 (47 ∷ l.1) back in
      let no_more : has 47 (l.1 ++ back) ≡ false = list_any-append (λ b. b == 47) l.1 back ∙ rw (l.3, none) refl in
      (l.1, last_unique 47 c.front c.last l.0 (l.1 ++ back) (sym c.at_last ∙ at) c.none_in_last no_more)
]

last-ends : (text back : List ℕ) (c : Cut 47 text) → EndsWith c.last back → EndsWith text back
last-ends text back c u = (
  c.front ++ 47 ∷ u.0,
  c.at_last ∙ ap (λ (l : List ℕ). c.front ++ 47 ∷ l) u.1
      ∙ sym (append_assoc c.front (47 ∷ u.0) back),
)

dotted-has-no : (ds : List ℕ) → dotted ds ≡ true → has 47 ds ≡ false
dotted-has-no ds h = digits-have_no 47 (λ d. is_ascii_digit d || (d == 46)) refl ds h

versioned-last : (text : List ℕ) (c : Cut 47 text) → LooksVersioned text → Numbered c.last
versioned-last text c u = record {
  number = u.number;
  ending = last_unique 47 c.front c.last u.ending.0 (118 ∷ u.number) (sym c.at_last ∙ u.ending.1) c.none_in_last
      (dotted-has-no u.number ((dotted_exact u.number).1 u.each));
  some = u.some;
  each = u.each;
}

last-versioned : (text : List ℕ) (c : Cut 47 text) → Numbered c.last → LooksVersioned text
last-versioned text c u = record {
  number = u.number;
  ending = (c.front, c.at_last ∙ ap (λ (l : List ℕ). c.front ++ 47 ∷ l) u.ending);
  some = u.some;
  each = u.each;
}

-- ---- the first element of a text

abbrev is_gopkg : List ℕ → Bool
is_gopkg first = pointwise nat_eq first (codes "gopkg.in")

gopkg-to : (text : List ℕ) (c : Cut 47 text) → is_gopkg c.first ≡ true → BeginsWith text (codes "gopkg.in/")
gopkg-to text c h =
    (c.rest, c.at_first ∙ ap (λ (f : List ℕ). f ++ 47 ∷ c.rest) ((text_eq c.first (codes "gopkg.in")).0 h))

gopkg-from : (text : List ℕ) (c : Cut 47 text) → BeginsWith text (codes "gopkg.in/") → is_gopkg c.first ≡ true
gopkg-from text c u =
    let mine = split_first 47 c.first c.rest c.none_in_first in
    let other = split_first 47 (codes "gopkg.in") u.0 refl in
    let both = sym mine ∙ ap (slice_split (λ b. b == 47)) (sym c.at_first ∙ u.1) ∙ other in
    (text_eq c.first (codes "gopkg.in")).1 (ap first_element both)

-- ---- the suffix of a text

suffix-whole : (text : List ℕ) → has 47 text ≡ false → suffix_of_elements (elements text) ≡ Some suffix.None
suffix-whole text none = ap suffix_of_elements (split_none 47 text none)

suffix-cut : (text : List ℕ) (c : Cut 47 text)
    → suffix_of_elements (elements text) ≡ (if is_gopkg c.first then dot_suffix c.last else slash_suffix c.last)
suffix-cut text c =
    suffix-split text c.first c.rest
    (ap (slice_split (λ b. b == 47)) c.at_first ∙ split_first 47 c.first c.rest c.none_in_first)
    ∙ ap (λ (l : List ℕ). if is_gopkg c.first then dot_suffix l else slash_suffix l) c.is_last

whole-none : (text : List ℕ) → has 47 text ≡ false → HasSuffix text suffix.None
whole-none text none = (
  λ u. cc (sym (ap (has 47) u.1) ∙ none),
  λ u. cc (sym (ap (has 47) u.ending.1 ∙ has-cut 47 u.ending.0 (118 ∷ u.number)) ∙ none),
)

ending-suffix : (text : List ℕ) (c : Cut 47 text) → is_gopkg c.first ≡ false → (s : Suffix) → Ending c.last s
    → HasSuffix text s
ending-suffix text c other (suffix.Dot n) u = absurd u
ending-suffix text c other (suffix.Slash n) u =
    (λ b. cc (gopkg-from text c b, other), (c.front, c.at_last ∙ ap (λ (l : List ℕ). c.front ++ 47 ∷ l) u.0), u.1, u.2)
ending-suffix text c other suffix.None u = (λ b. cc (gopkg-from text c b, other), λ v. u (versioned-last text c v))

-- the computed suffix of a text is a suffix that the text has
suffix-to : (text : List ℕ) (s : Suffix) → suffix_of_elements (elements text) ≡ Some s → HasSuffix text s
suffix-to text s h = elim (cases_Bool (has 47 text)) [
  | inr none ↦ subst (HasSuffix text) (same-suffix suffix.None s (sym (suffix-whole text none) ∙ h))
      (whole-none text none)
  | inl some ↦
      let c = cut 47 text some in
      let m = sym (suffix-cut text c) ∙ h in
      elim (cases_Bool (is_gopkg c.first)) [
        | inl gopkg ↦
            let d = dot-to c.last s (rw gopkg at m) in
            subst (HasSuffix text) d.1 (gopkg-to text c gopkg, last-ends text (codes ".v" ++ decimal d.0) c d.2, d.3)
        | inr other ↦ ending-suffix text c other s (slash-to c.last s (rw other at m))
      ]
]

-- the suffix that a text has is its computed suffix
suffix-from : (text : List ℕ) (s : Suffix) → HasSuffix text s → suffix_of_elements (elements text) ≡ Some s
suffix-from text (suffix.Dot n) u =
    let some : has 47 text ≡ true = ap (has 47) u.0.1 in
    let c = cut 47 text some in
    let last = ends-last text (codes ".v" ++ decimal n) c (decimal-has-no 47 refl n u.2) u.1 in
    suffix-cut text c ∙ rw (gopkg-from text c u.0) (dot-from c.last n last u.2)
suffix-from text (suffix.Slash n) u =
    let some : has 47 text ≡ true = ap (has 47) u.1.1 ∙ has-cut 47 u.1.0 (118 ∷ decimal n) in
    let c = cut 47 text some in
    let other : is_gopkg c.first ≡ false = false_from_ne_true (is_gopkg c.first) (λ g. u.0 (gopkg-to text c g)) in
    let last = last_unique 47 c.front c.last u.1.0 (118 ∷ decimal n) (sym c.at_last ∙ u.1.1) c.none_in_last
    (decimal-has-no 47 refl n u.3) in
    suffix-cut text c ∙ rw other (slash-from c.last (suffix.Slash n) (last, u.2, u.3))
suffix-from text suffix.None u = elim (cases_Bool (has 47 text)) [
  | inr none ↦ suffix-whole text none
  | inl some ↦
      let c = cut 47 text some in
      let other : is_gopkg c.first ≡ false = false_from_ne_true (is_gopkg c.first) (λ g. u.0 (gopkg-to text c g)) in
      suffix-cut text c ∙ rw other (slash-from c.last suffix.None (λ v. u.1 (last-versioned text c v)))
]

pub suffixes_are_exact : SuffixesAreExact
suffixes_are_exact text s = (suffix-to text s, suffix-from text s)
