-- The order of the bytes of keys is that of what they are made of.
use Rattle.std.proofs.Common.{get_or, ◌≡◌, ◌≢◌, ◌<◌, ◌+◌, ◌*◌, ◌^◌, ◌++◌, ℕ, zero, suc, List, [], ◌∷◌, length, true}
use Rattle.std.proofs.Common.{append_assoc, refl, sym, ap, ◌∙◌, inl, inr, arith}
use Rattle.std.proofs.lemmas.Bool.{cases_Bool, cases_lt}
use Rattle.std.proofs.lemmas.Bool.Decides.{nat_tests}
use Rattle.std.proofs.lemmas.Nat.{from_be_bytes-to_be_bytes_8}
use Rattle.std.specs.Cmp.Lexicographic.{slice_cmp}
use Rattle.std.specs.Int.{bytes_high_first, byte_at, from_be_bytes, to_be_bytes, w64}
use Rattle.std.specs.List.{flat_map, list_all}
use Rattle.std.specs.Ordering.{nat_cmp, ordering_then}
use Rattle.std.specs.Str.Parse.{digits_value}
use Rattle.std.specs.declared.cmp.Ordering.{Ordering}
use Rattle.std.specs.declared.cmp.Ordering.TheVariants.{Equal, Greater, Less}
use Rattle.modver.specs.KeyLaws.{bytes_cmp}
use Rattle.modver.specs.Keys.{AreBytes, head_of, identifier_key, order_key_of, padded, pre_release_key}
use Rattle.modver.specs.Precedence.{identifier_cmp, precedence, pre_release_cmp}
use Rattle.modver.specs.SemanticVersion.{IsVersion, SemanticVersion, is_build_identifier, is_identifier}
use Rattle.modver.specs.SemanticVersion.{is_identifier_byte, is_numeric}
use Rattle.modver.proofs.Conditions.{and-first, and-second, nat_cmp-eq, nat_cmp-gt, nat_cmp-lt, then-equal}
use Rattle.modver.proofs.Numerals.{then-assoc}
use Rattle.modver.proofs.Orders.{numbers}

-- ---- lists, one behind another

-- lists of one length come first
pub first-lists : (xs ys s t : List ℕ) → length xs ≡ length ys
    → bytes_cmp (xs ++ s) (ys ++ t) ≡ ordering_then (bytes_cmp xs ys) (bytes_cmp s t)
first-lists [] [] s t e = refl
first-lists [] (y ∷ ys) s t e = absurd (omega arith)
first-lists (x ∷ xs) [] s t e = absurd (omega arith)
first-lists (x ∷ xs) (y ∷ ys) s t e =
    ap (ordering_then (nat_cmp x y)) (first-lists xs ys s t (omega arith))
    ∙ sym (then-assoc (nat_cmp x y) (bytes_cmp xs ys) (bytes_cmp s t))

-- ---- numbers in 8 bytes

-- the number that bytes write behind another
abbrev after : ℕ → List ℕ → ℕ
after n [] = n
after n (b ∷ bs) = after (n * 256 + b) bs

-- a byte more on each side
byte-step : (m n a b : ℕ) → a < 256 → b < 256
    → nat_cmp (m * 256 + a) (n * 256 + b) ≡ ordering_then (nat_cmp m n) (nat_cmp a b)
byte-step m n a b x y = elim (cases_lt m n) [
  | inl lt ↦ rw (nat_cmp-lt m n lt) (nat_cmp-lt (m * 256 + a) (n * 256 + b) (omega arith))
  | inr le ↦ elim (cases_lt n m) [
    | inl gt ↦ rw (nat_cmp-gt m n gt) (nat_cmp-gt (m * 256 + a) (n * 256 + b) (omega arith))
    | inr ge ↦
        let e : m ≡ n = omega arith in
        rw (nat_cmp-eq m n e) (elim (cases_lt a b) [
          | inl lt ↦ nat_cmp-lt (m * 256 + a) (n * 256 + b) (omega arith) ∙ sym (nat_cmp-lt a b lt)
          | inr le2 ↦ elim (cases_lt b a) [
            | inl gt ↦ nat_cmp-gt (m * 256 + a) (n * 256 + b) (omega arith) ∙ sym (nat_cmp-gt a b gt)
            | inr ge2 ↦ nat_cmp-eq (m * 256 + a) (n * 256 + b) (omega arith) ∙ sym (nat_cmp-eq a b (omega arith))
          ]
        ])
  ]
]

-- as many bytes on each side
after-order : (m n : ℕ) (xs ys : List ℕ) → AreBytes xs → AreBytes ys → length xs ≡ length ys
    → nat_cmp (after m xs) (after n ys) ≡ ordering_then (nat_cmp m n) (bytes_cmp xs ys)
after-order m n [] [] p q e = sym (then-equal (nat_cmp m n))
after-order m n [] (y ∷ ys) p q e = absurd (omega arith)
after-order m n (x ∷ xs) [] p q e = absurd (omega arith)
after-order m n (x ∷ xs) (y ∷ ys) p q e =
    after-order (m * 256 + x) (n * 256 + y) xs ys p.1 q.1 (omega arith)
    ∙ ap (λ (o : Ordering). ordering_then o (bytes_cmp xs ys)) (byte-step m n x y p.0 q.0)
    ∙ then-assoc (nat_cmp m n) (nat_cmp x y) (bytes_cmp xs ys)

bytes-small : (k n : ℕ) → AreBytes (bytes_high_first k n)
bytes-small zero n = tt
bytes-small (suc zero) n = (omega arith, tt)
bytes-small (suc (suc k)) n = (omega arith, bytes-small (suc k) n)

-- what 8 bytes write
eight : (a b c d e f g h : ℕ)
    → after 0 (a ∷ b ∷ c ∷ d ∷ e ∷ f ∷ g ∷ h ∷ []) ≡ from_be_bytes w64 (a ∷ b ∷ c ∷ d ∷ e ∷ f ∷ g ∷ h ∷ [])
eight a b c d e f g h = omega arith

after-number : (n : ℕ) → n < 2 ^ 64 → after 0 (to_be_bytes w64 n) ≡ n
after-number n h = eight (byte_at 7 n) (byte_at 6 n) (byte_at 5 n) (byte_at 4 n) (byte_at 3 n) (byte_at 2 n)
    (byte_at 1 n) (byte_at 0 n) ∙ from_be_bytes-to_be_bytes_8 n h

number-bytes : (m n : ℕ) → m < 2 ^ 64 → n < 2 ^ 64 → bytes_cmp (to_be_bytes w64 m) (to_be_bytes w64 n) ≡ nat_cmp m n
number-bytes m n p q =
    let order : nat_cmp (after 0 (to_be_bytes w64 m)) (after 0 (to_be_bytes w64 n))
    ≡ bytes_cmp (to_be_bytes w64 m) (to_be_bytes w64 n)
    = after-order 0 0 (to_be_bytes w64 m) (to_be_bytes w64 n) (bytes-small 8 m) (bytes-small 8 n) refl in
    sym order ∙ ap (λ (x : ℕ). nat_cmp x (after 0 (to_be_bytes w64 n))) (after-number m p)
    ∙ ap (nat_cmp m) (after-number n q)

-- a number, and what stands behind it
number-first : (m n : ℕ) (s t : List ℕ) → m < 2 ^ 64 → n < 2 ^ 64
    → bytes_cmp (to_be_bytes w64 m ++ s) (to_be_bytes w64 n ++ t) ≡ ordering_then (nat_cmp m n) (bytes_cmp s t)
number-first m n s t p q =
    first-lists (to_be_bytes w64 m) (to_be_bytes w64 n) s t refl
    ∙ ap (λ (o : Ordering). ordering_then o (bytes_cmp s t)) (number-bytes m n p q)

-- ---- identifiers

-- the bytes of an identifier are not 0
pub some-byte : (b : ℕ) → is_identifier_byte b ≡ true → 0 < b
some-byte b h = grind (arith, nat_tests)

-- lists without zeros come first, where 0 ends them
ended-lists : (xs ys s t : List ℕ) → list_all is_identifier_byte xs ≡ true → list_all is_identifier_byte ys ≡ true
    → bytes_cmp ((xs ++ 0 ∷ []) ++ s) ((ys ++ 0 ∷ []) ++ t) ≡ ordering_then (bytes_cmp xs ys) (bytes_cmp s t)
ended-lists [] [] s t p q = refl
ended-lists [] (y ∷ ys) s t p q = let some = some-byte y (and-first _ _ q) in rw (nat_cmp-lt 0 y some) refl
ended-lists (x ∷ xs) [] s t p q = let some = some-byte x (and-first _ _ p) in rw (nat_cmp-gt x 0 some) refl
ended-lists (x ∷ xs) (y ∷ ys) s t p q =
    ap (ordering_then (nat_cmp x y)) (ended-lists xs ys s t (and-second _ _ p) (and-second _ _ q))
    ∙ sym (then-assoc (nat_cmp x y) (bytes_cmp xs ys) (bytes_cmp s t))

pub identifier-bytes : (x : List ℕ) → is_identifier x ≡ true → list_all is_identifier_byte x ≡ true
identifier-bytes x h = and-second _ _ (and-first (is_build_identifier x) _ h)

-- numeric identifiers of any lengths
numeric-lists : (x y s t : List ℕ) → is_identifier x ≡ true → is_identifier y ≡ true → is_numeric x ≡ true
    → is_numeric y ≡ true
    → ordering_then (nat_cmp (length x) (length y)) (bytes_cmp (x ++ s) (y ++ t))
    ≡ ordering_then (ordering_then (nat_cmp (digits_value 10 x) (digits_value 10 y)) Equal) (bytes_cmp s t)
numeric-lists x y s t p q nx ny = elim (cases_lt (length x) (length y)) [
  | inl lt ↦ rw (← numbers x y p q nx ny, nat_cmp-lt (length x) (length y) lt) refl
  | inr le ↦ elim (cases_lt (length y) (length x)) [
    | inl gt ↦ rw (← numbers x y p q nx ny, nat_cmp-gt (length x) (length y) gt) refl
    | inr ge ↦
        let e : length x ≡ length y = omega arith in
        rw (← numbers x y p q nx ny, nat_cmp-eq (length x) (length y) e) (first-lists x y s t e)
  ]
]

-- the keys of two identifiers, and what stands behind them
identifier-first : (x y s t : List ℕ) → is_identifier x ≡ true → is_identifier y ≡ true
    → bytes_cmp (identifier_key x ++ s) (identifier_key y ++ t) ≡ ordering_then (identifier_cmp x y) (bytes_cmp s t)
identifier-first x y s t p q = elim (cases_Bool (is_numeric x)) [
  | inl nx ↦ elim (cases_Bool (is_numeric y)) [
    | inl ny ↦ rw (nx, ny) (numeric-lists x y s t p q nx ny)
    | inr ny ↦ rw (nx, ny) refl
  ]
  | inr nx ↦ elim (cases_Bool (is_numeric y)) [
    | inl ny ↦ rw (nx, ny) refl
    | inr ny ↦ rw (nx, ny) (ended-lists x y s t (identifier-bytes x p) (identifier-bytes y q))
  ]
]

-- no identifier begins as the end of the identifiers does, nor as a release does

end-below : (y t : List ℕ) → bytes_cmp (0 ∷ []) (identifier_key y ++ t) ≡ Less
end-below y t = elim (cases_Bool (is_numeric y)) [ inl ny ↦ rw ny refl | inr ny ↦ rw ny refl ]

end-above : (x s : List ℕ) → bytes_cmp (identifier_key x ++ s) (0 ∷ []) ≡ Greater
end-above x s = elim (cases_Bool (is_numeric x)) [ inl nx ↦ rw nx refl | inr nx ↦ rw nx refl ]

release-below : (y t : List ℕ) → bytes_cmp (identifier_key y ++ t) (3 ∷ []) ≡ Less
release-below y t = elim (cases_Bool (is_numeric y)) [ inl ny ↦ rw ny refl | inr ny ↦ rw ny refl ]

release-above : (x s : List ℕ) → bytes_cmp (3 ∷ []) (identifier_key x ++ s) ≡ Greater
release-above x s = elim (cases_Bool (is_numeric x)) [ inl nx ↦ rw nx refl | inr nx ↦ rw nx refl ]

-- ---- pre-releases and releases

-- the key of an identifier, those of others, and their end
pub cut : (x : List ℕ) (xs : List (List ℕ))
    → flat_map identifier_key (x ∷ xs) ++ 0 ∷ [] ≡ identifier_key x ++ (flat_map identifier_key xs ++ 0 ∷ [])
cut x xs = append_assoc (identifier_key x) (flat_map identifier_key xs) (0 ∷ [])

-- the keys of two lists of identifiers, each ended by 0, compare as the lists do from the left
identifiers-order : (xs ys : List (List ℕ)) → list_all is_identifier xs ≡ true → list_all is_identifier ys ≡ true
    → bytes_cmp (flat_map identifier_key xs ++ 0 ∷ []) (flat_map identifier_key ys ++ 0 ∷ [])
    ≡ slice_cmp identifier_cmp xs ys
identifiers-order [] [] p q = refl
identifiers-order [] (y ∷ ys) p q = ap (bytes_cmp (0 ∷ [])) (cut y ys)
    ∙ end-below y (flat_map identifier_key ys ++ 0 ∷ [])
identifiers-order (x ∷ xs) [] p q = ap (λ (l : List ℕ). bytes_cmp l (0 ∷ [])) (cut x xs)
    ∙ end-above x (flat_map identifier_key xs ++ 0 ∷ [])
identifiers-order (x ∷ xs) (y ∷ ys) p q =
    let s = flat_map identifier_key xs ++ 0 ∷ [] in
    let t = flat_map identifier_key ys ++ 0 ∷ [] in
    ap (λ (l : List ℕ). bytes_cmp l (flat_map identifier_key (y ∷ ys) ++ 0 ∷ [])) (cut x xs)
    ∙ ap (bytes_cmp (identifier_key x ++ s)) (cut y ys)
    ∙ identifier-first x y s t (and-first _ _ p) (and-first _ _ q)
    ∙ ap (ordering_then (identifier_cmp x y)) (identifiers-order xs ys (and-second _ _ p) (and-second _ _ q))

pub pre_release-order : (xs ys : List (List ℕ)) → list_all is_identifier xs ≡ true → list_all is_identifier ys ≡ true
    → bytes_cmp (pre_release_key xs) (pre_release_key ys) ≡ pre_release_cmp xs ys
pre_release-order [] [] p q = refl
pre_release-order [] (y ∷ ys) p q = ap (bytes_cmp (3 ∷ [])) (cut y ys)
    ∙ release-above y (flat_map identifier_key ys ++ 0 ∷ [])
pre_release-order (x ∷ xs) [] p q = ap (λ (l : List ℕ). bytes_cmp l (3 ∷ [])) (cut x xs)
    ∙ release-below x (flat_map identifier_key xs ++ 0 ∷ [])
pre_release-order (x ∷ xs) (y ∷ ys) p q = identifiers-order (x ∷ xs) (y ∷ ys) p q

-- ---- versions

pub order-key : (u v : SemanticVersion) → IsVersion u → IsVersion v
    → bytes_cmp (order_key_of u) (order_key_of v) ≡ precedence u v
unfolding order_key_of
order-key u v p q =
    let pre = pre_release-order u.identifiers v.identifiers p.identifiers q.identifiers in
    let patch = number-first u.patch v.patch (pre_release_key u.identifiers) (pre_release_key v.identifiers) p.patch
    q.patch in
    let minor = number-first u.minor v.minor (to_be_bytes w64 u.patch ++ pre_release_key u.identifiers)
    (to_be_bytes w64 v.patch ++ pre_release_key v.identifiers) p.minor q.minor in
    number-first u.major v.major (to_be_bytes w64 u.minor ++ (to_be_bytes w64 u.patch ++ pre_release_key u.identifiers))
    (to_be_bytes w64 v.minor ++ (to_be_bytes w64 v.patch ++ pre_release_key v.identifiers)) p.major q.major
    ∙ ap (ordering_then (nat_cmp u.major v.major))
    (minor ∙ ap (ordering_then (nat_cmp u.minor v.minor))
    (patch ∙ ap (ordering_then (nat_cmp u.patch v.patch)) pre))

-- ---- the first bytes

-- the bytes at 0 to 7, or zeros, are the first eight
pub eight-bytes : (x : List ℕ)
    → get_or x 0 0 ∷ get_or x 1 0 ∷ get_or x 2 0 ∷ get_or x 3 0 ∷ get_or x 4 0 ∷ get_or x 5 0 ∷ get_or x 6 0
    ∷ get_or x 7 0 ∷ [] ≡ padded 8 x
eight-bytes [] = refl
eight-bytes (a ∷ []) = refl
eight-bytes (a ∷ b ∷ []) = refl
eight-bytes (a ∷ b ∷ c ∷ []) = refl
eight-bytes (a ∷ b ∷ c ∷ d ∷ []) = refl
eight-bytes (a ∷ b ∷ c ∷ d ∷ e ∷ []) = refl
eight-bytes (a ∷ b ∷ c ∷ d ∷ e ∷ f ∷ []) = refl
eight-bytes (a ∷ b ∷ c ∷ d ∷ e ∷ f ∷ g ∷ []) = refl
eight-bytes (a ∷ b ∷ c ∷ d ∷ e ∷ f ∷ g ∷ h ∷ rest) = refl

-- an empty key is lowest
no-lower : (xs : List ℕ) → bytes_cmp xs [] ≡ Less → ⊥
no-lower [] e = cc e
no-lower (x ∷ xs) e = cc e

no-higher : (ys : List ℕ) → bytes_cmp [] ys ≡ Greater → ⊥
no-higher [] e = cc e
no-higher (y ∷ ys) e = cc e

-- what the first bytes decide
padded-less : (n : ℕ) (x y : List ℕ) → bytes_cmp (padded n x) (padded n y) ≡ Less → bytes_cmp x y ≡ Less
padded-less zero x y e = cc e
padded-less (suc n) [] [] e = padded-less n [] [] e
padded-less (suc n) [] (b ∷ ys) e = refl
padded-less (suc n) (a ∷ xs) [] e = elim (cases_lt 0 a) [
  | inl gt ↦ cc (rw (nat_cmp-gt a 0 gt) at e)
  | inr le ↦ absurd (no-lower xs (padded-less n xs [] (rw (nat_cmp-eq a 0 (omega arith)) at e)))
]
padded-less (suc n) (a ∷ xs) (b ∷ ys) e = elim (cases_lt a b) [
  | inl lt ↦ rw (nat_cmp-lt a b lt) refl
  | inr le ↦ elim (cases_lt b a) [
    | inl gt ↦ cc (rw (nat_cmp-gt a b gt) at e)
    | inr ge ↦
        let same = nat_cmp-eq a b (omega arith) in
        rw same (padded-less n xs ys (rw same at e))
  ]
]

-- lists whose first bytes compare as greater compare so whole
padded-greater : (n : ℕ) (x y : List ℕ) → bytes_cmp (padded n x) (padded n y) ≡ Greater → bytes_cmp x y ≡ Greater
padded-greater zero x y e = cc e
padded-greater (suc n) [] [] e = padded-greater n [] [] e
padded-greater (suc n) (a ∷ xs) [] e = refl
padded-greater (suc n) [] (b ∷ ys) e = elim (cases_lt 0 b) [
  | inl lt ↦ cc (rw (nat_cmp-lt 0 b lt) at e)
  | inr le ↦ absurd (no-higher ys (padded-greater n [] ys (rw (nat_cmp-eq 0 b (omega arith)) at e)))
]
padded-greater (suc n) (a ∷ xs) (b ∷ ys) e = elim (cases_lt a b) [
  | inl lt ↦ cc (rw (nat_cmp-lt a b lt) at e)
  | inr le ↦ elim (cases_lt b a) [
    | inl gt ↦ rw (nat_cmp-gt a b gt) refl
    | inr ge ↦
        let same = nat_cmp-eq a b (omega arith) in
        rw same (padded-greater n xs ys (rw same at e))
  ]
]

pub padded-length : (n : ℕ) (x : List ℕ) → length (padded n x) ≡ n
padded-length zero x = refl
padded-length (suc n) [] = ap suc (padded-length n [])
padded-length (suc n) (b ∷ rest) = ap suc (padded-length n rest)

after-eight : (x : List ℕ) → after 0 (padded 8 x) ≡ head_of x
unfolding head_of
after-eight x = rw (← eight-bytes x)
    (eight (get_or x 0 0) (get_or x 1 0) (get_or x 2 0) (get_or x 3 0) (get_or x 4 0) (get_or x 5 0) (get_or x 6 0)
    (get_or x 7 0))

heads-order : (x y : List ℕ) → AreBytes (padded 8 x) → AreBytes (padded 8 y)
    → nat_cmp (head_of x) (head_of y) ≡ bytes_cmp (padded 8 x) (padded 8 y)
heads-order x y p q =
    ap (λ (n : ℕ). nat_cmp n (head_of y)) (sym (after-eight x))
    ∙ ap (nat_cmp (after 0 (padded 8 x))) (sym (after-eight y))
    ∙ after-order 0 0 (padded 8 x) (padded 8 y) p q (padded-length 8 x ∙ sym (padded-length 8 y))

-- two keys compare as their first 8 bytes do, if those differ
pub heads-decide : (x y : List ℕ) (o : Ordering) → AreBytes (padded 8 x) → AreBytes (padded 8 y)
    → nat_cmp (head_of x) (head_of y) ≡ o → o ≢ Equal → bytes_cmp x y ≡ o
heads-decide x y Less p q e some = padded-less 8 x y (sym (heads-order x y p q) ∙ e)
heads-decide x y Equal p q e some = absurd (some refl)
heads-decide x y Greater p q e some = padded-greater 8 x y (sym (heads-order x y p q) ∙ e)
