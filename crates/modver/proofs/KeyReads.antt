-- The identifiers that are read in a key are those that it was made of.
use Rattle.std.proofs.Common.{get_or, ◌≡◌, ◌≤◌, ◌<◌, ◌+◌, ◌++◌, ℕ, zero, suc, List, [], ◌∷◌, length, length-append}
use Rattle.std.proofs.Common.{drop, true, false, append_assoc, add-one, refl, sym, ap, ◌∙◌, inl, inr, arith}
use Rattle.std.proofs.Math.ListN.{drop_of_length-le}
use Rattle.std.proofs.Math.Seq.{drop-append_seam, take-append_seam}
use Rattle.std.proofs.lemmas.Bool.{cases_Bool}
use Rattle.std.proofs.lemmas.Bool.Decides.{nat_tests}
use Rattle.std.proofs.lemmas.Cmp.{nat_list_cmp_total, tied_itself}
use Rattle.std.proofs.lemmas.List.{append-nil}
use Rattle.std.proofs.lemmas.Nat.{be_bytes_8}
use Rattle.std.specs.Int.{from_be_bytes, to_be_bytes, w64}
use Rattle.std.specs.List.{flat_map, list_all, position_or_len}
use Rattle.std.specs.Prelude.{nat_eq}
use Rattle.std.specs.declared.cmp.Ordering.TheVariants.{Equal}
use Rattle.modver.specs.Keys.{AreBytes, front_identifiers, head_of, identifier_key, identifiers_in, identifiers_in_head}
use Rattle.modver.specs.Keys.{padded, pre_release_key}
use Rattle.modver.specs.Precedence.{pre_release_cmp}
use Rattle.modver.specs.SemanticVersion.{is_identifier, is_identifier_byte, is_numeric}
use Rattle.modver.proofs.Conditions.{and-first, and-second}
use Rattle.modver.proofs.KeyOrders.{cut, identifier-bytes, padded-length, pre_release-order, some-byte}

-- ---- one identifier

-- the first 0 stands behind the bytes of an identifier
first-zero : (x s : List ℕ) → list_all is_identifier_byte x ≡ true → position_or_len (nat_eq 0) (x ++ 0 ∷ s) ≡ length x
first-zero [] s h = refl
first-zero (b ∷ x) s h =
    let some = some-byte b (and-first _ _ h) in
    let differs : nat_eq 0 b ≡ false = grind (arith, nat_tests) in
    rw differs (ap (λ (n : ℕ). 1 + n) (first-zero x s (and-second _ _ h)) ∙ omega arith)

behind : (x s : List ℕ) (b : ℕ) → drop (length x + 1) (x ++ b ∷ s) ≡ s
behind x s b = rw add-one (past x)
  where
    past : (x : List ℕ) → drop (suc (length x)) (x ++ b ∷ s) ≡ s
    past [] = refl
    past (a ∷ x) = past x

-- the identifier at the front, and what follows it
reads-first : (x s : List ℕ) (n : ℕ) → is_identifier x ≡ true
    → front_identifiers (suc n) (identifier_key x ++ s) ≡ x ∷ front_identifiers n s
reads-first x s n h = elim (cases_Bool (is_numeric x)) [
  | inl nx ↦ rw nx (rw (take-append_seam x s, add-one, drop-append_seam x s) refl)
  | inr nx ↦ rw (
    nx,
    append_assoc x (0 ∷ []) s,
    first-zero x s (identifier-bytes x h),
    take-append_seam x (0 ∷ s),
    behind x s 0,
  ) refl
]

-- ---- a key

reads-identifiers : (xs : List (List ℕ)) (n : ℕ) (s : List ℕ) → list_all is_identifier xs ≡ true → length xs ≤ n
    → front_identifiers n ((flat_map identifier_key xs ++ 0 ∷ []) ++ s) ≡ xs
reads-identifiers [] zero s p h = refl
reads-identifiers [] (suc n) s p h = refl
reads-identifiers (x ∷ xs) zero s p h = absurd (omega arith)
reads-identifiers (x ∷ xs) (suc n) s p h =
    let t = flat_map identifier_key xs ++ 0 ∷ [] in
    ap (λ (l : List ℕ). front_identifiers (suc n) (l ++ s)) (cut x xs)
    ∙ ap (front_identifiers (suc n)) (append_assoc (identifier_key x) t s)
    ∙ reads-first x (t ++ s) n (and-first _ _ p)
    ∙ ap (λ (l : List (List ℕ)). x ∷ l) (reads-identifiers xs n s (and-second _ _ p) (omega arith))

-- the identifiers of a key are read in it, whatever follows it
reads-key : (xs : List (List ℕ)) (n : ℕ) (s : List ℕ) → list_all is_identifier xs ≡ true → length xs ≤ n
    → front_identifiers n (pre_release_key xs ++ s) ≡ xs
reads-key [] zero s p h = refl
reads-key [] (suc n) s p h = refl
reads-key (x ∷ xs) n s p h = reads-identifiers (x ∷ xs) n s p h

identifier-size : (x : List ℕ) → 1 ≤ length (identifier_key x)
identifier-size x = elim (cases_Bool (is_numeric x)) [ inl nx ↦ rw nx (omega arith) | inr nx ↦ rw nx (omega arith) ]

-- a key has as many bytes as it has identifiers, and more
identifiers-size : (xs : List (List ℕ)) → length xs ≤ length (flat_map identifier_key xs ++ 0 ∷ [])
identifiers-size [] = omega arith
identifiers-size (x ∷ xs) =
    rw (cut x xs, length-append (identifier_key x) (flat_map identifier_key xs ++ 0 ∷ []))
    (omega (arith, identifier-size x, identifiers-size xs))

key-size : (xs : List (List ℕ)) → length xs ≤ length (pre_release_key xs)
key-size [] = omega arith
key-size (x ∷ xs) = identifiers-size (x ∷ xs)

pub identifiers_in-key : (xs : List (List ℕ)) → list_all is_identifier xs ≡ true
    → identifiers_in (pre_release_key xs) ≡ xs
unfolding identifiers_in
identifiers_in-key xs p =
    ap (front_identifiers (length (pre_release_key xs))) (sym (append-nil (pre_release_key xs)))
    ∙ reads-key xs (length (pre_release_key xs)) [] p (key-size xs)

-- ---- the first bytes of a key

-- a key and zeros, or a key, are its first bytes and the others
padding : (n : ℕ) (x : List ℕ) → (z : List ℕ) × (x ++ z ≡ padded n x ++ drop n x)
padding zero [] = ([], refl)
padding zero (b ∷ x) = ([], append-nil (b ∷ x))
padding (suc n) [] = (padded (suc n) [] ++ [], refl)
padding (suc n) (b ∷ x) = let r = padding n x in (r.0, ap (λ (l : List ℕ). b ∷ l) r.1)

-- the first bytes of a key that has no more are the key and zeros
padding-short : (n : ℕ) (x : List ℕ) → length x ≤ n → (z : List ℕ) × (padded n x ≡ x ++ z)
padding-short n x h =
    let r = padding n x in
    (r.0, sym (r.1 ∙ ap (λ (l : List ℕ). padded n x ++ l) (drop_of_length-le x h) ∙ append-nil (padded n x)))

identifiers_in-padded : (n : ℕ) (xs : List (List ℕ)) → list_all is_identifier xs ≡ true
    → length (pre_release_key xs) ≤ n
    → identifiers_in (padded n (pre_release_key xs)) ≡ xs
unfolding identifiers_in
identifiers_in-padded n xs p h =
    let r = padding-short n (pre_release_key xs) h in
    let size : length xs ≤ length (padded n (pre_release_key xs)) =
    omega (arith, key-size xs, padded-length n (pre_release_key xs)) in
    ap (front_identifiers (length (padded n (pre_release_key xs)))) r.1
    ∙ reads-key xs (length (padded n (pre_release_key xs))) r.0 p size

-- a key that has no more bytes begins no other key
same-front : (n : ℕ) (xs ys : List (List ℕ)) → list_all is_identifier xs ≡ true → list_all is_identifier ys ≡ true
    → length (pre_release_key xs) ≤ n → padded n (pre_release_key xs) ≡ padded n (pre_release_key ys) → xs ≡ ys
same-front n xs ys p q h e =
    let r = padding-short n (pre_release_key xs) h in
    let s = padding n (pre_release_key ys) in
    let end = drop n (pre_release_key ys) in
    let m = length xs + length ys in
    let same : pre_release_key xs ++ (r.0 ++ end) ≡ pre_release_key ys ++ s.0
    = sym (append_assoc (pre_release_key xs) r.0 end) ∙ ap (λ (l : List ℕ). l ++ end) (sym r.1 ∙ e) ∙ sym s.1 in
    sym (reads-key xs m (r.0 ++ end) p (omega arith)) ∙ ap (front_identifiers m) same
    ∙ reads-key ys m s.0 q (omega arith)

-- ---- the head of a key

small-bytes : (bs : List ℕ) → AreBytes bs → (i : ℕ) → get_or bs i 0 < 256
small-bytes [] p i = omega arith
small-bytes (b ∷ bs) p zero = p.0
small-bytes (b ∷ bs) p (suc i) = small-bytes bs p.1 i

-- a head writes the first 8 bytes
head-bytes : (x : List ℕ) → AreBytes (padded 8 x) → to_be_bytes w64 (head_of x) ≡ padded 8 x
unfolding head_of
head-bytes x p = be_bytes_8 (padded 8 x) (from_be_bytes w64 (padded 8 x)) (padded-length 8 x)
    (small-bytes (padded 8 x) p) refl

-- the head of a key of at most 8 bytes has its identifiers
pub identifiers_in-head : (xs : List (List ℕ)) → list_all is_identifier xs ≡ true
    → AreBytes (padded 8 (pre_release_key xs)) → length (pre_release_key xs) ≤ 8
    → identifiers_in_head (head_of (pre_release_key xs)) ≡ xs
unfolding identifiers_in_head
identifiers_in-head xs p b h = ap identifiers_in (head-bytes (pre_release_key xs) b) ∙ identifiers_in-padded 8 xs p h

-- equal heads are of equal identifiers, if one of the keys has at most 8 bytes
pub same-heads : (xs ys : List (List ℕ)) → list_all is_identifier xs ≡ true → list_all is_identifier ys ≡ true
    → AreBytes (padded 8 (pre_release_key xs)) → AreBytes (padded 8 (pre_release_key ys))
    → length (pre_release_key xs) ≤ 8 → head_of (pre_release_key xs) ≡ head_of (pre_release_key ys) → xs ≡ ys
same-heads xs ys p q b d h e =
    same-front 8 xs ys p q h
    (sym (head-bytes (pre_release_key xs) b) ∙ ap (to_be_bytes w64) e ∙ head-bytes (pre_release_key ys) d)

-- pre-releases of the same identifiers tie
pub same-pre_releases : (xs ys : List (List ℕ)) → list_all is_identifier xs ≡ true → xs ≡ ys
    → pre_release_cmp xs ys ≡ Equal
same-pre_releases xs ys p e =
    ap (pre_release_cmp xs) (sym e) ∙ sym (pre_release-order xs xs p p)
    ∙ tied_itself nat_list_cmp_total (pre_release_key xs)
