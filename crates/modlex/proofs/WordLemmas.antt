-- What stands between two marks, and without its backslashes.
use Rattle.std.proofs.Common.{◌≡◌, ◌≢◌, ℕ, suc, ◌+◌, ◌-◌, ◌<◌, true, ◌==◌, eq-eqb, List, [], ◌∷◌, ◌++◌, length, take}
use Rattle.std.proofs.Common.{drop, get_or}
use Rattle.std.proofs.Common.{arith, refl, ap, sym, ◌∙◌, Option, Some, None, MatchOption, IfSome, lit<, append_assoc}
use Rattle.std.proofs.Common.{append-nil}
use denote.Ref.{Bor}
use lib.Utf8.{encode}
use Rattle.std.proofs.lemmas.Bool.{ne_eqb}
use Rattle.std.proofs.lemmas.Str.{inside_one, length-encode, len_utf8_bounds, len_utf8_ascii}
use Rattle.std.specs.Option.{unwrap_or}
use Rattle.std.specs.Str.Pattern.{FindsCharPrefix, FindsCharSuffix}
use Rattle.std.proofs.lemmas.Str.Pattern.{strip_prefix_char, strip_suffix_char, IsSplitOnceResult, split_parts}
use Rattle.modlex.specs.Words.{without_first, without_last, inside, plain_text, HasBackslash}

same_byte : (b : ℕ) → (b == b) ≡ true
same_byte b = eq-eqb b b refl

pub without_first-there : (mark : ℕ) (rest : List ℕ) → without_first mark (mark ∷ rest) ≡ rest
without_first-there mark rest = rw (same_byte mark) refl

pub without_first-absent : (mark : ℕ) (text : List ℕ) → ((rest : List ℕ) → text ≢ mark ∷ rest)
    → without_first mark text ≡ text
without_first-absent mark [] absent = refl
without_first-absent mark (b ∷ bs) absent = rw (ne_eqb b mark (λ e. absent bs (ap (λ x. x ∷ bs) e))) refl

pub without_last-there : (mark : ℕ) (front : List ℕ) → without_last mark (front ++ mark ∷ []) ≡ front
without_last-there mark [] = rw (same_byte mark) refl
without_last-there mark (b ∷ []) = ap (λ l. b ∷ l) (without_last-there mark [])
without_last-there mark (b ∷ c ∷ bs) = ap (λ l. b ∷ l) (without_last-there mark (c ∷ bs))

pub without_last-absent : (mark : ℕ) (text : List ℕ) → ((front : List ℕ) → text ≢ front ++ mark ∷ [])
    → without_last mark text ≡ text
without_last-absent mark [] absent = refl
without_last-absent mark (b ∷ []) absent = rw (ne_eqb b mark (λ e. absent [] (ap (λ x. x ∷ []) e))) refl
without_last-absent mark (b ∷ c ∷ bs) absent =
    ap (λ l. b ∷ l) (without_last-absent mark (c ∷ bs) (λ front e. absent (b ∷ front) (ap (λ l. b ∷ l) e)))

-- what `strip_prefix` and `strip_suffix` with the text as their default give
pub without_first-stripped : (mark : ℕ) (text left : Bor (List ℕ)) (r : Option (Bor (List ℕ)))
    → MatchOption r (FindsCharPrefix mark text.now None) (λ x. (n : ℕ)
    × FindsCharPrefix mark text.now (Some n) × (x.now ≡ drop n text.now) × (length x.now + n ≡ length text.now))
    → mark < 128 → left ≡ unwrap_or r text → left.now ≡ without_first mark text.now
without_first-stripped mark text left None h small is = ap (λ x. x.now) is
    ∙ sym (without_first-absent mark text.now (strip_prefix_char mark text.now None h small))
without_first-stripped mark text left (Some x) h small is = ap (λ x. x.now) is
    ∙ sym (ap (without_first mark) (strip_prefix_char mark text.now (Some x) h small) ∙ without_first-there mark x.now)

pub without_last-stripped : (mark : ℕ) (text left : Bor (List ℕ)) (r : Option (Bor (List ℕ)))
    → MatchOption r (FindsCharSuffix mark text.now None)
    (λ x. (n : ℕ) × FindsCharSuffix mark text.now (Some n) × (x.now ≡ take (length text.now - n) text.now)
    × (length x.now + n ≡ length text.now))
    → mark < 128 → left ≡ unwrap_or r text → left.now ≡ without_last mark text.now
without_last-stripped mark text left None h small is = ap (λ x. x.now) is
    ∙ sym (without_last-absent mark text.now (strip_suffix_char mark text.now None h small))
without_last-stripped mark text left (Some x) h small is = ap (λ x. x.now) is
    ∙ sym (ap (without_last mark) (strip_suffix_char mark text.now (Some x) h small) ∙ without_last-there mark x.now)

-- no byte is a backslash
pub record IsPlain (xs : List ℕ) : Type 0 where
  pub none : (i : ℕ) → i < length xs → get_or xs i 0 ≡ 92 → ⊥

plain_text-other : (b : ℕ) (bs : List ℕ) → (b ≡ 92 → ⊥) → plain_text (b ∷ bs) ≡ b ∷ plain_text bs
plain_text-other b [] other = rw (ne_eqb b 92 other) refl
plain_text-other b (c ∷ bs) other = rw (ne_eqb b 92 other) refl

pub plain_text-plain : (xs rest : List ℕ) → IsPlain xs → plain_text (xs ++ rest) ≡ xs ++ plain_text rest
plain_text-plain [] rest plain = refl
plain_text-plain (b ∷ xs) rest plain =
    plain_text-other b (xs ++ rest) (plain.none 0 (omega arith))
    ∙ ap (λ l. b ∷ l) (plain_text-plain xs rest
    (record { none = λ i inside is. plain.none (suc i) (omega arith) is }))

plain_text-char_bytes : (xs rest : List ℕ) → 0 < length xs
    → ((k : ℕ) → suc k < length xs → get_or xs (suc k) 0 ≡ 92 → ⊥)
    → plain_text (92 ∷ (xs ++ rest)) ≡ xs ++ plain_text rest
plain_text-char_bytes [] rest some plain = absurd (omega arith)
plain_text-char_bytes (b ∷ xs) rest some plain =
    ap (λ l. b ∷ l) (plain_text-plain xs rest (record { none = λ i inside is. plain i (omega arith) is }))

no_backslash_behind : (c k : ℕ) → suc k < length (encode c) → get_or (encode c) (suc k) 0 ≡ 92 → ⊥
no_backslash_behind c k inside is =
    let c_is : c ≡ get_or (encode c) (suc k) 0 =
    inside_one c [] (encode c) (suc k) (sym (append-nil (encode c))) inside (omega (arith, is)) in
    let one = length-encode c ∙ len_utf8_ascii c (omega (arith, c_is, is)) in
    omega (arith, one, inside)

pub plain_text-char : (c : ℕ) (rest : List ℕ) → plain_text (92 ∷ (encode c ++ rest)) ≡ encode c ++ plain_text rest
plain_text-char c rest =
    plain_text-char_bytes (encode c) rest (omega (arith, length-encode c, (len_utf8_bounds c).0))
    (no_backslash_behind c)

-- what `split_once` at a backslash says
pub cut_escapes : (text : List ℕ) (r : Option (Bor (List ℕ) × Bor (List ℕ))) → IsSplitOnceResult 92 text r
    → MatchOption r (plain_text text ≡ text) (λ x. plain_text text ≡ x.0.now ++ plain_text (92 ∷ x.1.now))
cut_escapes text None h =
    ap plain_text (sym (append-nil text))
    ∙ plain_text-plain text [] (record { none = split_parts 92 text None h (lit< tt) }) ∙ append-nil text
cut_escapes text (Some x) h =
    let halves = split_parts 92 text (Some x) h (lit< tt) in
    ap plain_text halves.0 ∙ plain_text-plain x.0.now (92 ∷ x.1.now) (record { none = halves.1 })

pub cut_has_escape : (text : List ℕ) (r : Option (Bor (List ℕ) × Bor (List ℕ))) → IsSplitOnceResult 92 text r
    → IfSome r (λ _. HasBackslash text)
cut_has_escape text None h = tt
cut_has_escape text (Some x) h = (x.0.now, x.1.now, (split_parts 92 text (Some x) h (lit< tt)).0)

-- one turn: what stands before a backslash, and the character after it
pub escape_turn : (before behind others whole : List ℕ) (c : ℕ) (out next last rest : List ℕ)
    → out ++ plain_text rest ≡ whole
    → plain_text rest ≡ before ++ plain_text (92 ∷ behind) → behind ≡ encode c ++ others → next ≡ out ++ before
    → last ≡ next ++ encode c → last ++ plain_text others ≡ whole
escape_turn before behind others whole c out next last rest so_far cut first next_is last_is =
    ap (λ l. l ++ plain_text others) (last_is ∙ ap (λ l. l ++ encode c) next_is)
    ∙ append_assoc (out ++ before) (encode c) (plain_text others)
    ∙ append_assoc out before (encode c ++ plain_text others)
    ∙ ap (λ l. out ++ l) (ap (λ l. before ++ l)
    (sym (plain_text-char c others) ∙ ap (λ l. plain_text (92 ∷ l)) (sym first)) ∙ sym cut)
    ∙ so_far
