-- The hash of a go.mod needs no escape in JSON.
use Rattle.std.proofs.Common.{◌≡◌, ◌<◌, ◌++◌, ℕ, zero, suc, true, List, [], ◌∷◌, length, refl, arith}
use Rattle.std.specs.Prelude.{◌%◌, ◌/◌, ◌*◌, ◌+◌, codes, replicate, slice_index}
use Rattle.std.specs.Int.{to_be_bytes, w32}
use Rattle.std.specs.List.{AllByRecursion}
use Rattle.std.proofs.lemmas.Bool.{and_from, agree_below_at}
use Rattle.base64.specs.Engines.{standard}
use Rattle.base64.specs.GeneralPurpose.{encode_of}
use Rattle.base64.specs.Rfc4648.{encode_symbols, padding_len}
use Rattle.gosum.specs.Sum.{file_line, hash_of}
use Rattle.sha2.specs.Sha256.{digest_bytes, sha256}
use Rattle.catalog.specs.Json.{AreUnescaped, is_unescaped}
use Rattle.catalog.proofs.Unescaped.{both_unescaped}

-- ---- the bytes of a digest

abbrev AreBytes : List ℕ → Type 0
AreBytes bs = AllByRecursion (λ b. b < 256) bs

all_bytes : (a b : List ℕ) → AreBytes a → AreBytes b → AreBytes (a ++ b)
all_bytes [] b x y = y
all_bytes (c ∷ a) b x y = (x.0, all_bytes a b x.1 y)

word_bytes : (n : ℕ) → AreBytes (to_be_bytes w32 n)
word_bytes n = (omega arith, (omega arith, (omega arith, (omega arith, tt))))

digest_is_bytes : (h : List ℕ) (n : ℕ) → AreBytes (digest_bytes h n)
unfolding digest_bytes
digest_is_bytes h zero = tt
digest_is_bytes h (suc n) =
    all_bytes (digest_bytes h n) (to_be_bytes w32 (slice_index h n)) (digest_is_bytes h n)
    (word_bytes (slice_index h n))

sha256_bytes : (m : List ℕ) → AreBytes (sha256 m)
unfolding sha256
sha256_bytes m = digest_is_bytes _ 8

-- ---- their base64

abbrev symbols : List ℕ
symbols = standard.encode_table

symbol : (i : ℕ) → i < 64 → is_unescaped (slice_index symbols i) ≡ true
symbol i small = agree_below_at (λ k. is_unescaped (slice_index symbols k)) (λ k. true) 64 i refl small

symbols_unescaped : (bs : List ℕ) → AreBytes bs → AreUnescaped (encode_symbols symbols bs)
unfolding encode_symbols
symbols_unescaped [] h = refl
symbols_unescaped (a ∷ []) h =
    let small = h.0 in
    and_from _ _ (symbol (a / 4) (omega arith)) (and_from _ _ (symbol (a % 4 * 16) (omega arith)) refl)
symbols_unescaped (a ∷ b ∷ []) h =
    let small = h.0 in
    let low = h.1.0 in
    and_from _ _ (symbol (a / 4) (omega arith))
    (and_from _ _ (symbol (a % 4 * 16 + b / 16) (omega arith))
    (and_from _ _ (symbol (b % 16 * 4) (omega arith)) refl))
symbols_unescaped (a ∷ b ∷ c ∷ rest) h =
    let small = h.0 in
    let low = h.1.0 in
    let last = h.1.1.0 in
    and_from _ _ (symbol (a / 4) (omega arith))
    (and_from _ _ (symbol (a % 4 * 16 + b / 16) (omega arith))
    (and_from _ _ (symbol (b % 16 * 4 + c / 64) (omega arith))
    (and_from _ _ (symbol (c % 64) (omega arith)) (symbols_unescaped rest h.1.1.1))))

padding_unescaped : (n : ℕ) → AreUnescaped (replicate n 61)
padding_unescaped zero = refl
padding_unescaped (suc n) = padding_unescaped n

encoded_unescaped : (bs : List ℕ) → AreBytes bs → AreUnescaped (encode_of standard bs)
encoded_unescaped bs h =
    both_unescaped (encode_symbols symbols bs) (replicate (padding_len (length bs)) 61) (symbols_unescaped bs h)
    (padding_unescaped (padding_len (length bs)))

pub hash_unescaped : (gomod : List ℕ) → AreUnescaped (hash_of gomod)
hash_unescaped gomod =
    both_unescaped (codes "h1:") (encode_of standard (sha256 (file_line gomod))) refl
    (encoded_unescaped (sha256 (file_line gomod)) (sha256_bytes (file_line gomod)))
