-- The test of a Go version passes just those that have the form of one.
use Rattle.std.proofs.Common.{◌≡◌, ◌↔◌, ℕ, zero, suc, ◌+◌, ◌<◌, ◌≤◌, true, false, ◌==◌, ◌&&◌, not, cond, ltb, Option}
use Rattle.std.proofs.Common.{Some, None, List, [], ◌∷◌, ◌++◌, length, take, drop, codes, arith}
use Rattle.std.proofs.Common.{refl, ap, sym, ◌∙◌, subst, append_assoc, length-append, inl, inr, ⊎_elim, nat_eq, rules}
use Rattle.std.proofs.Common.{tests}
use Rattle.std.specs.List.{list_all, starts_with}
use Rattle.std.specs.Char.{is_ascii_digit}
use Rattle.std.proofs.lemmas.Slice.Eq.{bytes_eq-Decides}
use Rattle.std.proofs.lemmas.List.{take_at, drop_at}
use Rattle.std.proofs.lemmas.Bool.{and_parts, and_from, or_cases, cases_Bool, cases_lt, ltb-true, lt-ltb, le-ltb}
use Rattle.std.proofs.lemmas.Bool.{eqb-true}
use Rattle.std.proofs.lemmas.List.Sums.{prefix_len-le-length}
use Rattle.std.specs.Option.{unwrap_or}
use Rattle.gomod.specs.GoVersion.{is_decimal, is_tail, is_minor, digits_len, dot_at, is_go_version}
use Rattle.gomod.specs.GoVersions.{IsTail, IsGoVersion}

split_at : (n : ℕ) (xs : List ℕ) → take n xs ++ drop n xs ≡ xs
split_at zero [] = refl
split_at zero (x ∷ xs) = refl
split_at (suc n) [] = refl
split_at (suc n) (x ∷ xs) = ap (λ l. x ∷ l) (split_at n xs)

-- a text round its first dot
dot_split : (text : List ℕ) → dot_at text < length text
    → text ≡ take (dot_at text) text ++ 46 ∷ drop (dot_at text + 1) text
dot_split [] h = absurd (omega (arith, h))
dot_split (b ∷ bs) h =
    ⊎_elim
    (λ yes.
    let here : dot_at (b ∷ bs) ≡ 0 = rw yes refl in
    subst (λ n. b ∷ bs ≡ take n (b ∷ bs) ++ 46 ∷ drop (n + 1) (b ∷ bs)) (sym here)
    (ap (λ x. x ∷ bs) (eqb-true b 46 yes)))
    (λ no.
    let here : dot_at (b ∷ bs) ≡ suc (dot_at bs) = rw no (omega arith) in
    let number : suc (dot_at bs + 1) ≡ suc (dot_at bs) + 1 = omega arith in
    let more = dot_split bs (omega (arith, h, here)) in
    subst (λ n. b ∷ bs ≡ take n (b ∷ bs) ++ 46 ∷ drop (n + 1) (b ∷ bs)) (sym here)
    (ap (λ l. b ∷ l) more ∙ ap (λ n. b ∷ (take (dot_at bs) bs ++ 46 ∷ drop n (b ∷ bs))) number))
    (cases_Bool (b == 46))

digit_no_dot : (b : ℕ) → is_ascii_digit b ≡ true → (b == 46) ≡ false
digit_no_dot b h = search (rules, tests)

dot_at-digits : (a r : List ℕ) → list_all is_ascii_digit a ≡ true → dot_at (a ++ 46 ∷ r) ≡ length a
dot_at-digits [] r h = refl
dot_at-digits (b ∷ a) r h =
    let halves = and_parts (is_ascii_digit b) (list_all is_ascii_digit a) h in
    let no = digit_no_dot b halves.0 in
    let more = dot_at-digits a r halves.1 in
    let here : dot_at (b ∷ (a ++ 46 ∷ r)) ≡ dot_at (a ++ 46 ∷ r) + 1 = rw no (omega arith) in
    omega (arith, more, here)

digits_len-front : (b tail : List ℕ) → list_all is_ascii_digit b ≡ true → digits_len tail ≡ 0
    → digits_len (b ++ tail) ≡ length b
digits_len-front [] tail h none = none
digits_len-front (x ∷ b) tail h none =
    let halves = and_parts (is_ascii_digit x) (list_all is_ascii_digit b) h in
    let yes = halves.0 in
    let more = digits_len-front b tail halves.1 none in
    let here : digits_len (x ∷ (b ++ tail)) ≡ digits_len (b ++ tail) + 1 = rw yes (omega arith) in
    omega (arith, more, here)

decimal_digits : (a : List ℕ) → is_decimal a ≡ true → list_all is_ascii_digit a ≡ true
unfolding is_decimal
decimal_digits [] h = refl
decimal_digits (b ∷ bs) h = (and_parts (list_all is_ascii_digit (b ∷ bs)) _ h).0

tail_no_digit : (tail : List ℕ) → IsTail tail → digits_len tail ≡ 0
tail_no_digit tail h =
    ⊎_elim (λ none. ap digits_len none)
    (λ x. ⊎_elim (λ e. ap digits_len e) (λ y. ⊎_elim (λ e. ap digits_len e) (λ e. ap digits_len e) y) x.2)
    h

-- what may follow a minor number passes the computed test
is_tail-from : (tail : List ℕ) → IsTail tail → is_tail tail ≡ true
unfolding is_tail
is_tail-from tail h =
    ⊎_elim (λ none. ap is_tail none)
    (λ x.
    let decimal = x.1 in
    ⊎_elim
    (λ e. ap is_tail e ∙ rw decimal refl)
    (λ y. ⊎_elim (λ e. ap is_tail e ∙ rw decimal refl) (λ e. ap is_tail e ∙ rw decimal refl) y)
    x.2)
    h

starts : (tail p : List ℕ) → starts_with nat_eq tail p ≡ true → tail ≡ p ++ drop (length p) tail
starts tail p h =
    let front = (bytes_eq-Decides p (take (length p) tail)).0 h in
    sym (split_at (length p) tail) ∙ ap (λ l. l ++ drop (length p) tail) (sym front)

-- a text that passes the computed test may follow a minor number
tail_form : (tail : List ℕ) → is_tail tail ≡ true → IsTail tail
unfolding is_tail
tail_form tail h =
    ⊎_elim
    (λ a. ⊎_elim
    (λ b. ⊎_elim
    (λ none. inl ((bytes_eq-Decides tail []).0 none))
    (λ dot. (let x = and_parts (starts_with nat_eq tail (codes ".")) (is_decimal (drop 1 tail)) dot in
    inr (drop 1 tail, x.1, inl (starts tail (codes ".") x.0))))
    (or_cases _ _ b))
    (λ rc. (let x = and_parts (starts_with nat_eq tail (codes "rc")) (is_decimal (drop 2 tail)) rc in
    inr (drop 2 tail, x.1, inr (inl (starts tail (codes "rc") x.0)))))
    (or_cases _ _ a))
    (λ beta. (let x = and_parts (starts_with nat_eq tail (codes "beta")) (is_decimal (drop 4 tail)) beta in
    inr (drop 4 tail, x.1, inr (inr (starts tail (codes "beta") x.0)))))
    (or_cases _ _ h)

minor_from : (b tail : List ℕ) → is_decimal b ≡ true → IsTail tail → is_minor (b ++ tail) ≡ true
unfolding is_minor
minor_from b tail hb ht =
    let len = digits_len-front b tail (decimal_digits b hb) (tail_no_digit tail ht) in
    and_from (is_decimal (take (digits_len (b ++ tail)) (b ++ tail)))
    (is_tail (drop (digits_len (b ++ tail)) (b ++ tail)))
    (ap (λ n. is_decimal (take n (b ++ tail))) len ∙ ap is_decimal (take_at b tail (length b) refl) ∙ hb)
    (ap (λ n. is_tail (drop n (b ++ tail))) len ∙ ap is_tail (drop_at b tail (length b) refl) ∙ is_tail-from tail ht)

-- two decimals with a dot between them and a tail after them pass the test of a Go version
version_from : (a b tail : List ℕ) → is_decimal a ≡ true → is_decimal b ≡ true → IsTail tail
    → is_go_version (a ++ 46 ∷ (b ++ tail)) ≡ true
unfolding is_go_version
version_from a b tail ha hb ht =
    let rest : List ℕ = b ++ tail in
    let len : dot_at (a ++ 46 ∷ rest) ≡ length a = dot_at-digits a rest (decimal_digits a ha) in
    let size = length-append a (46 ∷ rest) in
    let cut : drop (length a + 1) (a ++ 46 ∷ rest) ≡ rest =
    ap (drop (length a + 1)) (sym (append_assoc a (46 ∷ []) rest))
    ∙ drop_at (a ++ 46 ∷ []) rest (length a + 1) (length-append a (46 ∷ [])) in
    and_from _ _
    (and_from _ _
    (lt-ltb (dot_at (a ++ 46 ∷ rest)) (length (a ++ 46 ∷ rest)) (omega (arith, len, size)))
    (ap (λ n. is_decimal (take n (a ++ 46 ∷ rest))) len ∙ ap is_decimal (take_at a (46 ∷ rest) (length a) refl) ∙ ha))
    (ap (λ n. is_minor (drop (n + 1) (a ++ 46 ∷ rest))) len ∙ ap is_minor cut ∙ minor_from b tail hb ht)

-- a text that passes the test of a Go version has the form of one
version_form : (text : List ℕ) → is_go_version text ≡ true → IsGoVersion text
unfolding is_go_version is_minor
version_form text h =
    let outer = and_parts _ _ h in
    let inner = and_parts _ _ outer.0 in
    let rest : List ℕ = drop (dot_at text + 1) text in
    let behind = and_parts (is_decimal (take (digits_len rest) rest)) (is_tail (drop (digits_len rest) rest)) outer.1 in
    record {
      major = take (dot_at text) text;
      minor = take (digits_len rest) rest;
      tail = drop (digits_len rest) rest;
      is_major = inner.1;
      is_minor = behind.0;
      is_tail = tail_form (drop (digits_len rest) rest) behind.1;
      spelled = dot_split text (ltb-true (dot_at text) (length text) inner.0)
          ∙ ap (λ l. take (dot_at text) text ++ 46 ∷ l) (sym (split_at (digits_len rest) rest));
    }

-- ---- what a search returns

-- the index of the first byte that passes
first_at : (n len i : ℕ) → Some i ≡ cond (ltb n len) (Some n) None → (i ≡ n) × (n < len)
first_at n len i h = elim (cases_lt n len) [
  | inl lt ↦ (ap (λ o. unwrap_or o 0) (rw (lt-ltb n len lt) at h), lt)
  | inr le ↦ cc (rw (le-ltb n len le) at h)
]

-- a text without a dot
pub no_dot : (text : List ℕ)
    → ◌≡◌ {A = Option ℕ} None (cond (ltb (dot_at text) (length text)) (Some (dot_at text)) None)
    → false ≡ is_go_version text
unfolding is_go_version
no_dot text h = elim (cases_lt (dot_at text) (length text)) [
  | inl lt ↦ cc (rw (lt-ltb (dot_at text) (length text) lt) at h)
  | inr le ↦ rw (le-ltb (dot_at text) (length text) le) refl
]

-- a text with its first dot at an index
pub dot_is : (text : List ℕ) (i : ℕ) → Some i ≡ cond (ltb (dot_at text) (length text)) (Some (dot_at text)) None
    → (is_decimal (take i text) && is_minor (drop (i + 1) text)) ≡ is_go_version text
unfolding is_go_version
dot_is text i h =
    let found = first_at (dot_at text) (length text) i h in
    rw (found.0, lt-ltb (dot_at text) (length text) found.1) refl

pub dot_within : (text : List ℕ) (i : ℕ) → Some i ≡ cond (ltb (dot_at text) (length text)) (Some (dot_at text)) None
    → i + 1 ≤ length text
dot_within text i h = let found = first_at (dot_at text) (length text) i h in omega (arith, found.0, found.1)

-- a text by the number of digits that it begins with
pub minor_is : (rest : List ℕ) (n : ℕ) → n ≡ digits_len rest
    → (is_decimal (take n rest) && is_tail (drop n rest)) ≡ is_minor rest
unfolding is_minor
minor_is rest n h = rw h refl

-- the number of digits, where the search for another byte returns its index or none
pub digits_are : (text : List ℕ)
    → unwrap_or (cond (ltb (digits_len text) (length text)) (Some (digits_len text)) None) (length text)
    ≡ digits_len text
digits_are text = elim (cases_lt (digits_len text) (length text)) [
  | inl lt ↦ rw (lt-ltb (digits_len text) (length text) lt) refl
  | inr le ↦ (let most = prefix_len-le-length (λ b. not (not (is_ascii_digit b))) text in
      rw (le-ltb (digits_len text) (length text) le) (omega (arith, le, most)))
]

pub is_go_version-exact : (text : List ℕ) → (is_go_version text ≡ true) ↔ IsGoVersion text
is_go_version-exact text = (
  λ h. version_form text h,
  λ v. ap is_go_version v.spelled ∙ version_from v.major v.minor v.tail v.is_major v.is_minor v.is_tail,
)
