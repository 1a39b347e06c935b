-- The computed orders are those of the standard's words.
use Rattle.std.proofs.Common.{◌≡◌, ◌⊎◌, ◌<◌, ◌++◌, ℕ, List, [], ◌∷◌, Bool, true, refl, sym, ap, ◌∙◌, subst, inl, inr}
use Rattle.std.proofs.lemmas.Bool.{cases_Bool}
use Rattle.std.specs.Cmp.Lexicographic.{slice_cmp}
use Rattle.std.specs.FinMap.{nat_cmp-IsAntisymmetric}
use Rattle.std.specs.List.{list_all}
use Rattle.std.specs.Ordering.{nat_cmp, ordering_then}
use Rattle.std.specs.Str.Parse.{digits_value}
use Rattle.std.specs.declared.cmp.Ordering.{Ordering}
use Rattle.std.specs.declared.cmp.Ordering.TheVariants.{Equal, Greater, Less}
use Rattle.modver.specs.Laws.{PrecedenceIsSemVer}
use Rattle.modver.specs.Precedence.{IsBelow, identifier_cmp, pre_release_cmp}
use Rattle.modver.specs.SemVerOrder.{HasLowerPrecedence, IsLexicallyLower, IsLowerIdentifier, IsLowerPreRelease}
use Rattle.modver.specs.SemanticVersion.{IsVersion, SemanticVersion, is_identifier, is_numeric}
use Rattle.modver.proofs.StrictOrders.{identifier-tied}
use Rattle.modver.proofs.Conditions.{and-first, and-second, less-nat, nat_cmp-eq, nat_cmp-lt, then-equal}

-- ---- numbers

-- ---- lists

-- a comparison says, of the things that pass a test, what a relation says
record Tells {A : Type 0} (p : A → Bool) (R : A → A → Ordering) (B : A → A → Type 0) : Type 0 where
  pub below : (x y : A) → p x ≡ true → p y ≡ true → R x y ≡ Less → B x y
  pub less : (x y : A) → p x ≡ true → p y ≡ true → B x y → R x y ≡ Less
  pub tied : (x y : A) → p x ≡ true → p y ≡ true → R x y ≡ Equal → x ≡ y
  pub itself : (x : A) → R x x ≡ Equal

-- two lists stay in lexical order if each gets the same first item
more-common : {A : Type 0} {B : A → A → Type 0} (x : A) (xs ys : List A) → IsLexicallyLower B xs ys
    → IsLexicallyLower B (x ∷ xs) (x ∷ ys)
more-common x xs ys (inl g) = inl (record { next = g.next; rest = g.rest; longer = ap (λ l. x ∷ l) g.longer })
more-common x xs ys (inr d) = inr (record {
  common = x ∷ d.common;
  left = d.left;
  left_rest = d.left_rest;
  right = d.right;
  right_rest = d.right_rest;
  left_is = ap (λ l. x ∷ l) d.left_is;
  right_is = ap (λ l. x ∷ l) d.right_is;
  lower = d.lower;
})

then-less : (r s : Ordering) → ordering_then r s ≡ Less → (r ≡ Less) ⊎ ((r ≡ Equal) × (s ≡ Less))
then-less Less s h = inl refl
then-less Equal s h = inr (refl, h)
then-less Greater s h = cc h

-- lists that a comparison item by item puts in order are in lexical order of the relation that the comparison decides
less-lists : {A : Type 0} (p : A → Bool) (R : A → A → Ordering) (B : A → A → Type 0) → Tells p R B → (xs ys : List A)
    → list_all p xs ≡ true → list_all p ys ≡ true
    → slice_cmp R xs ys ≡ Less → IsLexicallyLower B xs ys
less-lists p R B t [] [] a b h = cc h
less-lists p R B t [] (y ∷ ys) a b h = inl (record { next = y; rest = ys; longer = refl })
less-lists p R B t (x ∷ xs) [] a b h = cc h
less-lists p R B t (x ∷ xs) (y ∷ ys) a b h = elim (then-less (R x y) (slice_cmp R xs ys) h) [
  | inl less ↦ inr (record {
    common = [];
    left = x;
    left_rest = xs;
    right = y;
    right_rest = ys;
    left_is = refl;
    right_is = refl;
    lower = t.below x y (and-first _ _ a) (and-first _ _ b) less;
  })
  | inr both ↦
      let same : x ≡ y = t.tied x y (and-first _ _ a) (and-first _ _ b) both.0 in
      let later = more-common {B = B} x xs ys (less-lists p R B t xs ys (and-second _ _ a) (and-second _ _ b) both.1) in
      subst (λ z. IsLexicallyLower B (x ∷ xs) (z ∷ ys)) same later
]

goes-on : {A : Type 0} (R : A → A → Ordering) → ((x : A) → R x x ≡ Equal) → (xs : List A) (next : A) (rest : List A)
    → slice_cmp R xs (xs ++ next ∷ rest) ≡ Less
goes-on R itself [] next rest = refl
goes-on R itself (x ∷ xs) next rest = rw (itself x) (goes-on R itself xs next rest)

differs : {A : Type 0} (R : A → A → Ordering) → ((x : A) → R x x ≡ Equal) → (common : List A) (x y : A) (xs ys : List A)
    → R x y ≡ Less
    → slice_cmp R (common ++ x ∷ xs) (common ++ y ∷ ys) ≡ Less
differs R itself [] x y xs ys h = rw h refl
differs R itself (c ∷ common) x y xs ys h = rw (itself c) (differs R itself common x y xs ys h)

-- what all elements pass, the one at a position does
all-at : {A : Type 0} (p : A → Bool) (common : List A) (x : A) (rest : List A) → list_all p (common ++ x ∷ rest) ≡ true
    → p x ≡ true
all-at p [] x rest h = and-first _ _ h
all-at p (c ∷ common) x rest h = all-at p common x rest (and-second (p c) _ h)

lists-less : {A : Type 0} (p : A → Bool) (R : A → A → Ordering) (B : A → A → Type 0) → Tells p R B → (xs ys : List A)
    → list_all p xs ≡ true → list_all p ys ≡ true
    → IsLexicallyLower B xs ys → slice_cmp R xs ys ≡ Less
lists-less p R B t xs ys a b (inl g) = rw g.longer (goes-on R t.itself xs g.next g.rest)
lists-less p R B t xs ys a b (inr d) =
    let left = all-at p d.common d.left d.left_rest (rw d.left_is at a) in
    let right = all-at p d.common d.right d.right_rest (rw d.right_is at b) in
    rw (d.left_is, d.right_is)
    (differs R t.itself d.common d.left d.right d.left_rest d.right_rest (t.less d.left d.right left right d.lower))

-- ---- texts

nat-itself : (n : ℕ) → nat_cmp n n ≡ Equal
nat-itself n = nat_cmp-eq n n refl

bytes-tell : Tells (λ (b : ℕ). true) nat_cmp (λ (a : ℕ) (b : ℕ). a < b)
bytes-tell = record {
  below = λ x y p q h. less-nat x y h;
  less = λ x y p q h. nat_cmp-lt x y h;
  tied = λ x y p q h. nat_cmp-IsAntisymmetric x y h;
  itself = nat-itself;
}

any-byte : (xs : List ℕ) → list_all (λ (b : ℕ). true) xs ≡ true
any-byte [] = refl
any-byte (x ∷ xs) = any-byte xs

-- texts in the order of their bytes
pub bytes-lower : (xs ys : List ℕ) → slice_cmp nat_cmp xs ys ≡ Less → IsLexicallyLower (λ (a : ℕ) (b : ℕ). a < b) xs ys
bytes-lower xs ys h = less-lists (λ (b : ℕ). true) nat_cmp (λ (a : ℕ) (b : ℕ). a < b) bytes-tell xs ys (any-byte xs)
    (any-byte ys) h

pub lower-bytes : (xs ys : List ℕ) → IsLexicallyLower (λ (a : ℕ) (b : ℕ). a < b) xs ys → slice_cmp nat_cmp xs ys ≡ Less
lower-bytes xs ys h = lists-less (λ (b : ℕ). true) nat_cmp (λ (a : ℕ) (b : ℕ). a < b) bytes-tell xs ys (any-byte xs)
    (any-byte ys) h

-- ---- identifiers

itself-list : {A : Type 0} (R : A → A → Ordering) → ((x : A) → R x x ≡ Equal) → (xs : List A)
    → slice_cmp R xs xs ≡ Equal
itself-list R itself [] = refl
itself-list R itself (x ∷ xs) = rw (itself x) (itself-list R itself xs)

identifier-itself : (x : List ℕ) → identifier_cmp x x ≡ Equal
identifier-itself x = elim (cases_Bool (is_numeric x)) [
  | inl n ↦ rw (n, nat-itself (digits_value 10 x)) refl
  | inr n ↦ rw n (itself-list nat_cmp nat-itself x)
]

-- an identifier that compares as less than another is lower
identifier-below : (x y : List ℕ) → identifier_cmp x y ≡ Less → IsLowerIdentifier x y
identifier-below x y h = elim (cases_Bool (is_numeric x)) [
  | inl nx ↦ elim (cases_Bool (is_numeric y)) [
    | inl ny ↦ inl (
      nx,
      ny,
      less-nat _ _
          (sym (then-equal (nat_cmp (digits_value 10 x) (digits_value 10 y))) ∙ rw (nx, ny) at h),
    )
    | inr ny ↦ inr (inr (nx, ny))
  ]
  | inr nx ↦ elim (cases_Bool (is_numeric y)) [
    | inl ny ↦ cc (rw (nx, ny) at h)
    | inr ny ↦ inr (inl (
      nx,
      ny,
      less-lists (λ (b : ℕ). true) nat_cmp (λ (a : ℕ) (b : ℕ). a < b) bytes-tell x y (any-byte x) (any-byte y)
          (rw (nx, ny) at h),
    ))
  ]
]

identifier-less : (x y : List ℕ) → IsLowerIdentifier x y → identifier_cmp x y ≡ Less
identifier-less x y (inl n) = rw (n.0, n.1) (rw (nat_cmp-lt _ _ n.2) refl)
identifier-less x y (inr (inl w)) =
    rw (w.0, w.1) (lists-less (λ (b : ℕ). true) nat_cmp (λ (a : ℕ) (b : ℕ). a < b) bytes-tell x y (any-byte x)
    (any-byte y) w.2)
identifier-less x y (inr (inr m)) = rw (m.0, m.1) refl

identifiers-tell : Tells is_identifier identifier_cmp IsLowerIdentifier
identifiers-tell = record {
  below = λ x y p q h. identifier-below x y h;
  less = λ x y p q h. identifier-less x y h;
  tied = identifier-tied;
  itself = identifier-itself;
}

-- ---- pre-releases

pre_release-below : (xs ys : List (List ℕ)) → list_all is_identifier xs ≡ true → list_all is_identifier ys ≡ true
    → pre_release_cmp xs ys ≡ Less → IsLowerPreRelease xs ys
pre_release-below [] [] p q h = cc h
pre_release-below [] (y ∷ ys) p q h = cc h
pre_release-below (x ∷ xs) [] p q h = λ e. cc e
pre_release-below (x ∷ xs) (y ∷ ys) p q h =
    less-lists is_identifier identifier_cmp IsLowerIdentifier identifiers-tell (x ∷ xs) (y ∷ ys) p q h

pre_release-less : (xs ys : List (List ℕ)) → list_all is_identifier xs ≡ true → list_all is_identifier ys ≡ true
    → IsLowerPreRelease xs ys → pre_release_cmp xs ys ≡ Less
pre_release-less [] [] p q h = absurd (h refl)
pre_release-less [] (y ∷ ys) p q h = absurd h
pre_release-less (x ∷ xs) [] p q h = refl
pre_release-less (x ∷ xs) (y ∷ ys) p q h =
    lists-less is_identifier identifier_cmp IsLowerIdentifier identifiers-tell (x ∷ xs) (y ∷ ys) p q h

-- ---- versions

-- a version that is below another has lower precedence in the words of SemVer
below-semver : (u v : SemanticVersion) → IsVersion u → IsVersion v → IsBelow u v → HasLowerPrecedence u v
below-semver u v p q h = elim (then-less _ _ h) [
  | inl major ↦ inl (less-nat u.major v.major major)
  | inr a ↦ elim (then-less _ _ a.1) [
    | inl minor ↦ inr (inl (nat_cmp-IsAntisymmetric u.major v.major a.0, less-nat u.minor v.minor minor))
    | inr b ↦ elim (then-less _ _ b.1) [
      | inl patch ↦ inr (inr (inl (
        nat_cmp-IsAntisymmetric u.major v.major a.0,
        nat_cmp-IsAntisymmetric u.minor v.minor b.0,
        less-nat u.patch v.patch patch,
      )))
      | inr c ↦ inr (inr (inr (
        nat_cmp-IsAntisymmetric u.major v.major a.0,
        nat_cmp-IsAntisymmetric u.minor v.minor b.0,
        nat_cmp-IsAntisymmetric u.patch v.patch c.0,
        pre_release-below u.identifiers v.identifiers p.identifiers q.identifiers c.1,
      )))
    ]
  ]
]

semver-below : (u v : SemanticVersion) → IsVersion u → IsVersion v → HasLowerPrecedence u v → IsBelow u v
semver-below u v p q (inl major) = rw (nat_cmp-lt u.major v.major major) refl
semver-below u v p q (inr (inl a)) = rw (nat_cmp-eq u.major v.major a.0, nat_cmp-lt u.minor v.minor a.1) refl
semver-below u v p q (inr (inr (inl a))) =
    rw (nat_cmp-eq u.major v.major a.0, nat_cmp-eq u.minor v.minor a.1, nat_cmp-lt u.patch v.patch a.2) refl
semver-below u v p q (inr (inr (inr a))) =
    rw (nat_cmp-eq u.major v.major a.0, nat_cmp-eq u.minor v.minor a.1, nat_cmp-eq u.patch v.patch a.2)
    (pre_release-less u.identifiers v.identifiers p.identifiers q.identifiers a.3)

pub precedence-semver : PrecedenceIsSemVer
precedence-semver u v p q = (below-semver u v p q, semver-below u v p q)
