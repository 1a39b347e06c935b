-- The first line of a reserve is cut at its title, and then at the first place where its end stands.
use Rattle.std.proofs.Common.{ℕ, zero, suc, ◌≡◌, ◌≢◌, ◌<◌, ◌≤◌, ◌+◌, ◌^◌, ◌==◌, Bool, true, false, cond}
use Rattle.std.proofs.Common.{List, [], ◌∷◌, ◌++◌, length, length-append, drop, take, get_or, Some, IfSome}
use Rattle.std.proofs.Common.{Result, Ok, Err, ap, sym, subst, refl, inl, inr, ◌∙◌, arith, tests, rules}
use Rattle.std.specs.Result.{result_ok}
use Rattle.std.specs.Str.{IsUtf8}
use Rattle.std.specs.Str.Parse.{AllDigits, IsNumeral, ParsesUnsigned, digits_value, without_leading_plus}
use Rattle.std.specs.Str.Pattern.{FindsText, FindsTextPrefix, LacksTextAt, SplitsAroundMatch, StripsPrefix}
use Rattle.std.proofs.lemmas.Bool.{cases_lt}
use Rattle.std.proofs.lemmas.List.{append_cancel_left, drop_at, get_or-drop, get_or_append_left}
use Rattle.std.proofs.lemmas.List.{take_at, take-append-drop}
use Rattle.std.proofs.lemmas.Str.Parse.{digit_at}
use Rattle.runner.specs.Reserve.{IsFirstLine, line_end, title}

-- no byte is a space
abbrev HasNoSpace : List ℕ → Type 0
HasNoSpace text = (i : ℕ) → i < length text → get_or text i 0 ≢ 32

digits_have_none : (ds : List ℕ) → AllDigits 10 ds → HasNoSpace ds
digits_have_none ds are i inside is = absurd (omega (arith, digit_at ds i are inside, is))

signed_have_none : (c : ℕ) (cs : List ℕ) (plus : Bool) → (c == 43) ≡ plus → AllDigits 10 (drop (cond plus 1 0) (c ∷ cs))
    → HasNoSpace (c ∷ cs)
signed_have_none c cs true is are zero inside = λ space.
    absurd (let plus : c ≡ 43 = search (rules, tests) in omega (arith, plus, space))
signed_have_none c cs true is are (suc i) inside = digits_have_none cs are i (omega arith)
signed_have_none c cs false is are i inside = digits_have_none (c ∷ cs) are i inside

number_has_none : (number : List ℕ) → AllDigits 10 (without_leading_plus number) → HasNoSpace number
number_has_none [] are = λ i inside. absurd (omega arith)
number_has_none (c ∷ cs) are = signed_have_none c cs (c == 43) refl are

-- a number with no space, and the end behind it, are cut there
cut_at_number : (text number rest front behind : List ℕ) → text ≡ number ++ (line_end ++ rest) → HasNoSpace number
    → SplitsAroundMatch (FindsText line_end) text front behind → front ≡ number
cut_at_number text number rest front behind is none cut = cut.3 ∙ (ap (λ n. take n text) (sym same)
    ∙ (ap (take (length number)) is ∙ take_at number (line_end ++ rest) (length number) refl))
  where
    at : drop (length number) text ≡ line_end ++ rest
    at = ap (drop (length number)) is ∙ drop_at number (line_end ++ rest) (length number) refl

    no_later : cut.0 ≤ length number
    no_later = elim (cases_lt (length number) cut.0) [
      | inl below ↦ absurd (cut.2.0 (length number) below rest at)
      | inr le ↦ le
    ]

    first : cut.0 ≡ cut.0 + 0
    first = omega arith

    no_earlier : length number ≤ cut.0
    no_earlier = elim (cases_lt cut.0 (length number)) [
      | inl below ↦ absurd (none cut.0 below (sym (get_or_append_left number (line_end ++ rest) 0 cut.0 below)
          ∙ (ap (λ l. get_or l cut.0 0) (sym is) ∙ (ap (λ n. get_or text n 0) first
          ∙ (sym (get_or-drop cut.0 text 0 0) ∙ ap (λ l. get_or l 0 0) cut.2.1.split)))))
      | inr le ↦ le
    ]

    same : length number ≡ cut.0
    same = omega (arith, no_later, no_earlier)

module _ (front text : List ℕ) (same : text ≡ front) where
  -- without the title it is no such line
  pub no_title : (bytes : ℕ) → LacksTextAt title text 0 → IsFirstLine front bytes → ⊥
  no_title bytes lacks it = lacks (it.number ++ (line_end ++ it.rest)) (same ∙ it.line)

  module _ (rest : List ℕ) (titled : StripsPrefix (FindsTextPrefix title) text rest) where
    begins : front ≡ title ++ rest
    begins = sym same ∙ (titled.1.1 ∙ ap (λ l. title ++ l) (sym titled.2))

    behind_title : (bytes : ℕ) (it : IsFirstLine front bytes) → rest ≡ it.number ++ (line_end ++ it.rest)
    behind_title bytes it = append_cancel_left title rest (it.number ++ (line_end ++ it.rest)) (sym begins ∙ it.line)

    -- nor without its end
    pub no_end : (bytes : ℕ) → ((i : ℕ) → i ≤ length rest → LacksTextAt line_end rest i) → IsFirstLine front bytes → ⊥
    no_end bytes lacks it =
        let is = behind_title bytes it in
        lacks (length it.number) (omega (arith, ap length is, length-append it.number (line_end ++ it.rest))) it.rest
        (ap (drop (length it.number)) is ∙ drop_at it.number (line_end ++ it.rest) (length it.number) refl)

    module _ {E : Type 0} (number behind : List ℕ) (ended : SplitsAroundMatch (FindsText line_end) rest number behind)
        (told : Result ℕ E) (parsed : ParsesUnsigned 64 10 number told) where
      pub found_line : IsUtf8 front → IfSome (result_ok told) (λ bytes. IsUtf8 front × IsFirstLine front bytes)
      found_line utf8 = by told parsed
        where
          ends : rest ≡ number ++ (line_end ++ behind)
          ends = sym (take-append-drop ended.0 rest) ∙ (ap (λ l. take ended.0 rest ++ l) ended.2.1.split
              ∙ (ap (λ l. l ++ (line_end ++ drop ended.1 rest)) (sym ended.3)
              ∙ ap (λ l. number ++ (line_end ++ l)) (sym ended.4)))

          by : (told : Result ℕ E) → ParsesUnsigned 64 10 number told
              → IfSome (result_ok told) (λ bytes. IsUtf8 front × IsFirstLine front bytes)
          by (Ok n) it = (
            utf8,
            record {
              number = number;
              rest = behind;
              line = begins ∙ ap (λ l. title ++ l) ends;
              digits = it.0.0;
              value = it.1;
            },
          )
          by (Err e) it = tt

      pub only_line : (bytes : ℕ) → bytes < 2 ^ 64 → IsFirstLine front bytes → result_ok told ≡ Some bytes
      only_line bytes small it = by told parsed
        where
          same_number : number ≡ it.number
          same_number = cut_at_number rest it.number it.rest number behind (behind_title bytes it)
              (number_has_none it.number it.digits.1) ended

          by : (told : Result ℕ E) → ParsesUnsigned 64 10 number told → result_ok told ≡ Some bytes
          by (Ok n) is =
              ap Some (is.1 ∙ (ap (λ l. digits_value 10 (without_leading_plus l)) same_number ∙ sym it.value))
          by (Err e) is = absurd (is (
            subst (λ l. IsNumeral 10 (without_leading_plus l)) (sym same_number) it.digits,
            subst (λ n. n < 2 ^ 64) (it.value
                ∙ sym (ap (λ l. digits_value 10 (without_leading_plus l)) same_number)) small,
          ))
