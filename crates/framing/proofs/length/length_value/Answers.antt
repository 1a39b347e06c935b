use Rattle.std.proofs.Common.{◌≡◌, ℕ, ◌+◌, ◌*◌, ◌^◌, arith, get_or, refl, add-one, sym, ◌∙◌}
use Rattle.std.specs.Char.{IsAsciiDigit}
use Rattle.std.proofs.lemmas.Int.Digits.{digits_value_more}
use Rattle.std.proofs.Math.Nat.{pow-succ'}
use Rattle.std.proofs.lemmas.Str.{digit_value_digit}
use Rattle.framing.proofs.LengthLemmas.{digit_at}
use Rattle.framing.proofs.length.length_value.Goals as goal

pub loop-digit-preserved : goal.loop-digit-preserved
loop-digit-preserved c =
    let i = c.loop-digit.digit-index in
    let text = c.args.text.now in
    let digit : IsAsciiDigit (get_or text i 0) =
    digit_at text (sym c.is_length.ensures ∙ c.if-not-is_length.false) i c.loop-digit-test.true in
    let value = digit_value_digit (get_or text i 0) digit in
    record {
      value = rw (digits_value_more 10 text i c.loop-digit-test.true)
          (omega (arith, c.loop-digit.invariant.value, value));
      small = omega (arith, c.loop-digit.invariant.small, digit, power i);
    }
  where
    power : (i : ℕ) → 10 ^ (i + 1) ≡ 10 * 10 ^ i
    power i = rw (add-one, pow-succ' 10 i) refl
