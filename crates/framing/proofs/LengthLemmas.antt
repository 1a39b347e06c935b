-- Length values.
use Rattle.std.proofs.Common.{◌≡◌, ℕ, ◌<◌, Bool, true, false, ◌&&◌, not, nat_lt, nat_le, nat_eq, List, length, get_or}
use Rattle.std.proofs.Common.{slice_index, refl, sym, ◌∙◌, arith}
use Rattle.std.specs.List.{list_all}
use Rattle.std.specs.Char.{IsAsciiDigit, is_ascii_digit}
use Rattle.std.proofs.lemmas.Bool.{false≢true}
use Rattle.std.proofs.lemmas.List.Folds.{list_all_at}
use Rattle.framing.specs.Length.{is_length}

last_of : (a b c d : Bool) → (a && b && not c && d) ≡ true → d ≡ true
last_of true true false d e = e
last_of false b c d e = cc
last_of true false c d e = cc
last_of true true true d e = cc

holds : (b : Bool) → (b ≡ false → ⊥) → b ≡ true
holds true never = refl
holds false never = absurd (never refl)

-- each byte of a length value is a digit
pub digit_at : (text : List ℕ) → is_length text ≡ true → (i : ℕ) → i < length text → IsAsciiDigit (get_or text i 0)
digit_at text is i below =
    let all = last_of (nat_lt 0 (length text)) (nat_le (length text) 10)
    (nat_lt 1 (length text) && nat_eq (slice_index text 0) 48) (list_all is_ascii_digit text) is in
    let digit = holds (is_ascii_digit (get_or text i 0))
    (λ no. false≢true (sym (list_all_at is_ascii_digit text i 0 below no) ∙ all)) in
    grind (arith, digit)
