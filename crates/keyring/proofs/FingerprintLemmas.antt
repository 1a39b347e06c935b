-- What a fingerprint and a SHA-256 are made of.
use Rattle.std.proofs.Common.{◌≡◌, ◌≤◌, ◌*◌, ◌/◌, ◌%◌, ℕ, zero, suc, Bool, true, List, [], ◌∷◌, length, take, get_or}
use Rattle.std.proofs.Common.{arith, refl, length-take, ltb-true}
use Rattle.std.specs.Int.{to_be_bytes, w32}
use Rattle.std.specs.Prelude.{not, ◌&&◌, nat_eq, nat_lt, slice_index}
use Rattle.std.specs.List.{list_all}
use Rattle.std.specs.Str.{IsAscii}
use Rattle.std.proofs.lemmas.Bool.{and_parts, and_from}
use Rattle.std.proofs.lemmas.List.{length-append}
use Rattle.hex.specs.Hex.{encode_lower, encode_with, lower_digits}
use Rattle.hex.proofs.HexLemmas.{IsAscii-encode_with, length-encode_with}
use Rattle.sha2.specs.Sha256.{digest_bytes, sha256}
use Rattle.keyring.specs.KeyList.{fingerprint, hex_digest}

-- what 0 and each item of a list pass, the item at each place does
passes_at : (p : ℕ → Bool) → p 0 ≡ true → (xs : List ℕ) → list_all p xs ≡ true → (i : ℕ) → p (get_or xs i 0) ≡ true
passes_at p passes [] all i = passes
passes_at p passes (x ∷ xs) all zero = (and_parts _ _ all).0
passes_at p passes (x ∷ xs) all (suc i) = passes_at p passes xs (and_parts _ _ all).1 i

-- what each digit passes, each byte of a text of digits does
encoded : (p : ℕ → Bool) → p 0 ≡ true → (digits : List ℕ) → list_all p digits ≡ true → (xs : List ℕ)
    → list_all p (encode_with digits xs) ≡ true
unfolding encode_with
encoded p passes digits all [] = refl
encoded p passes digits all (b ∷ rest) =
    and_from _ _ (passes_at p passes digits all (b / 16))
    (and_from _ _ (passes_at p passes digits all (b % 16)) (encoded p passes digits all rest))

-- no byte of a text of digits is a space or the end of a line
digits_word : (bs : List ℕ) → list_all (λ b. not (nat_eq b 32) && not (nat_eq b 10)) (encode_lower bs) ≡ true
digits_word bs = encoded (λ b. not (nat_eq b 32) && not (nat_eq b 10)) refl lower_digits refl bs

digits_ascii : (bs : List ℕ) → IsAscii (encode_lower bs)
digits_ascii bs = IsAscii-encode_with lower_digits bs
    (λ i. ltb-true _ _ (passes_at (λ b. nat_lt b 128) refl lower_digits refl i))

-- ---- a fingerprint

pub fingerprint_word : (k : List ℕ) → list_all (λ b. not (nat_eq b 32) && not (nat_eq b 10)) (fingerprint k) ≡ true
fingerprint_word k = digits_word (take 8 (sha256 k))

pub fingerprint_ascii : (k : List ℕ) → IsAscii (fingerprint k)
fingerprint_ascii k = digits_ascii (take 8 (sha256 k))

pub fingerprint_few : (k : List ℕ) → length (fingerprint k) ≤ 16
fingerprint_few k = omega (
  arith,
  length-encode_with lower_digits (take 8 (sha256 k)),
  length-take 8 (sha256 k),
)

-- ---- a SHA-256

pub hex_digest_word : (k : List ℕ) → list_all (λ b. not (nat_eq b 32) && not (nat_eq b 10)) (hex_digest k) ≡ true
hex_digest_word k = digits_word (sha256 k)

pub hex_digest_ascii : (k : List ℕ) → IsAscii (hex_digest k)
hex_digest_ascii k = digits_ascii (sha256 k)

words_length : (h : List ℕ) (n : ℕ) → length (digest_bytes h n) ≡ 4 * n
unfolding digest_bytes
words_length h zero = refl
words_length h (suc n) =
    let four : length (to_be_bytes w32 (slice_index h n)) ≡ 4 = refl in
    let before = words_length h n in
    let both = length-append (digest_bytes h n) (to_be_bytes w32 (slice_index h n)) in
    omega (arith, four, before, both)

sha256_length : (k : List ℕ) → length (sha256 k) ≡ 32
unfolding sha256
sha256_length k = words_length _ 8

pub hex_digest_few : (k : List ℕ) → length (hex_digest k) ≤ 64
hex_digest_few k = omega (arith, length-encode_with lower_digits (sha256 k), sha256_length k)
