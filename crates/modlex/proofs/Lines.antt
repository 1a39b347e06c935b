-- Where a newline cuts a text into lines.
use Rattle.std.proofs.Common.{◌≡◌, ℕ, suc, ◌<◌, false, ◌==◌, List, [], ◌∷◌, ◌++◌, length, get_or, arith, refl, ap, ◌∙◌}
use Rattle.std.proofs.Common.{rules, tests, Option, Some, None, MatchOption, lit<}
use denote.Ref.{Bor}
use Rattle.std.proofs.lemmas.Str.Pattern.{IsSplitOnceResult, split_parts}
use Rattle.modlex.specs.Lines.{lines}

-- no byte is a newline
pub record IsOneLine (l : List ℕ) : Type 0 where
  pub none : (i : ℕ) → i < length l → get_or l i 0 ≡ 10 → ⊥

not_newline : (b : ℕ) → (b ≡ 10 → ⊥) → (b == 10) ≡ false
not_newline b h = search (rules, tests)

tail_is_one : (b : ℕ) (l : List ℕ) → IsOneLine (b ∷ l) → IsOneLine l
tail_is_one b l one = record { none = λ i inside is. one.none (suc i) (omega arith) is }

pub lines-one : (l : List ℕ) → IsOneLine l → lines l ≡ l ∷ []
lines-one [] one = refl
lines-one (b ∷ l) one =
    let other = not_newline b (one.none 0 (omega arith)) in
    simp (other, lines-one l (tail_is_one b l one))

pub lines-newline : (l rest : List ℕ) → IsOneLine l → lines (l ++ 10 ∷ rest) ≡ l ∷ lines rest
lines-newline [] rest one = refl
lines-newline (b ∷ l) rest one =
    let other = not_newline b (one.none 0 (omega arith)) in
    simp (other, lines-newline l rest (tail_is_one b l one))

-- what `split_once` at a newline says of the lines
pub cut_lines : (text : List ℕ) (r : Option (Bor (List ℕ) × Bor (List ℕ))) → IsSplitOnceResult 10 text r
    → MatchOption r (lines text ≡ text ∷ []) (λ x. lines text ≡ x.0.now ∷ lines x.1.now)
cut_lines text None h = lines-one text (record { none = split_parts 10 text None h (lit< tt) })
cut_lines text (Some x) h =
    let halves = split_parts 10 text (Some x) h (lit< tt) in
    ap lines halves.0 ∙ lines-newline x.0.now x.1.now (record { none = halves.1 })
