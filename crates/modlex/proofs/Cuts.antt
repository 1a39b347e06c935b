-- Where a line may be cut: beside an ASCII byte.
use Rattle.std.proofs.Common.{◌≡◌, ℕ, ◌+◌, ◌-◌, ◌<◌, ◌≤◌, true, false, List, ◌∷◌, length, get_or, IsUtf8, arith, subst}
use Rattle.std.proofs.Common.{sym, ap, rules, tests, add-one, zero, suc}
use Rattle.std.specs.Str.{IsCharBoundary}
use Rattle.std.proofs.lemmas.Str.{IsCharBoundary-after_ascii}
use Rattle.modlex.specs.Bytes.{is_name_byte, is_slash_and}

-- a name goes on at bytes from 128 on
pub non_name_ascii : (b : ℕ) → is_name_byte b ≡ false → b < 128
unfolding is_name_byte
non_name_ascii b h = search (rules, tests)

pub slash_ascii : (second b : ℕ) (bs : List ℕ) → is_slash_and second b bs ≡ true → b < 128
unfolding is_slash_and
slash_ascii second b bs h = search (rules, tests)

pub ruleset name_ends = (non_name_ascii, slash_ascii)

-- behind a mark
pub cut_mark : (b : ℕ) (bytes bs : List ℕ) → bytes ≡ b ∷ bs → b < 128 → IsUtf8 bytes → IsCharBoundary bytes 1
cut_mark b bytes bs is ascii utf8 =
    IsCharBoundary-after_ascii bytes 0 utf8 (omega (arith, ap length is))
    (subst (λ k. k < 128) (sym (ap (λ l. get_or l 0 0) is)) ascii)

-- behind a string's closing mark
pub cut_string : (b : ℕ) (bs : List ℕ) (n : ℕ) → IsUtf8 (b ∷ bs) → 0 < n → n ≤ length bs → get_or bs (n - 1) 0 < 128
    → IsCharBoundary (b ∷ bs) (n + 1)
cut_string b bs zero utf8 positive within ascii = absurd (omega arith)
cut_string b bs (suc m) utf8 positive within ascii =
    let before : suc m - 1 ≡ m = omega arith in
    IsCharBoundary-after_ascii (b ∷ bs) (suc m) utf8 (omega arith) (subst (λ k. get_or bs k 0 < 128) before ascii)

-- before what ends a name
pub cut_name : (b : ℕ) (bs : List ℕ) (n : ℕ) → n ≤ length bs → (n < length bs → get_or bs n 0 < 128)
    → IsCharBoundary (b ∷ bs) (n + 1)
cut_name b bs n within ascii =
    (omega arith, λ inside lead. absurd (omega (arith, rw add-one at lead, ascii (omega arith))))

pub ruleset cuts = (cut_string, cut_name)
