-- Texts cut at a byte.
use Rattle.std.proofs.Common.{◌≡◌, ◌==◌, ℕ, ◌+◌, ◌-◌, List, length, take, drop, Option, Some, None, nat_lt, refl, sym}
use Rattle.std.proofs.Common.{ap, ◌∙◌, inl, inr}
use Rattle.std.proofs.lemmas.Bool.{cases_Bool}
use Rattle.std.specs.List.{position, position_or_len}
use Rattle.wire.specs.ModuleVersion.{around}
use Rattle.framing.proofs.BegunLemmas.{slice_to_end}

-- a text around what a search found
pub around-none : (byte : ℕ) (text : List ℕ) (found : Option ℕ) → found ≡ position (λ b. b == byte) text → found ≡ None
    → around byte text ≡ None
unfolding around
around-none byte text found is none = elim (cases_Bool (nat_lt (position_or_len (λ b. b == byte) text) (length text))) [
  | inl inside ↦ cc (none, rw inside at is)
  | inr outside ↦ rw outside refl
]

-- a text whose search found a byte at `at` is cut there
pub around-some : (byte at : ℕ) (text : List ℕ) (found : Option ℕ) → found ≡ position (λ b. b == byte) text
    → found ≡ Some at
    → around byte text ≡ Some (take at text, take (length text - (at + 1)) (drop (at + 1) text))
unfolding around
around-some byte at text found is some =
    elim (cases_Bool (nat_lt (position_or_len (λ b. b == byte) text) (length text))) [
      | inl inside ↦
          let here : at ≡ position_or_len (λ b. b == byte) text = cc (some, rw inside at is) in
          let halves : ℕ → Option (List ℕ × List ℕ) = λ n. Some (take n text, drop (n + 1) text) in
          rw inside (ap halves (sym here)
          ∙ ap (λ (rest : List ℕ). Some (take at text, rest)) (sym (slice_to_end (at + 1) text)))
      | inr outside ↦ cc (some, rw outside at is)
    ]
