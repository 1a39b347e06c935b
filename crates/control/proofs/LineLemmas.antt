-- Bytes among others, and the reads of a line.
use Rattle.std.proofs.Common.{◌≡◌, ◌∙◌, ℕ, ◌+◌, Bool, true, false, IsTrue, ◌↔◌, ◌⊎◌, ◌++◌, List, [], get_or, arith}
use Rattle.std.proofs.Common.{inl, inr, refl, subst, sym}
use Rattle.std.specs.List.{Contains, IsAnyAnswer}
use Rattle.std.proofs.Math.Dec.{eqb}
use Rattle.std.proofs.lemmas.Bool.{false≢true, eqb-true, eqb-false}
use Rattle.histories.specs.Account.{Account, Gives}
use Rattle.histories.specs.Calls.{Reads}
use Rattle.histories.proofs.AccountLemmas.{Gives-kept, Gives-none, Gives-trans}
use Rattle.control.specs.Line.{AsksOnce, AsksWhileOpen, HasEnough, HasTried}

-- a search finds a byte just if the bytes contain it
pub has_byte : (x : ℕ) (bytes : List ℕ) (r : Bool) → IsAnyAnswer (λ y b. eqb y x ≡ b) bytes r
    → IsTrue r ↔ Contains bytes x
has_byte x bytes true found = (λ is. (found.0, found.1, eqb-true (get_or bytes found.0 x) x (found.2 x)), λ there. refl)
has_byte x bytes false none = (
  λ is. absurd (false≢true is),
  λ there.
      absurd (eqb-false (get_or bytes there.0 x) x (none there.0 x (omega arith) there.1) there.2),
)

-- ---- reads of a line

-- no line has ended in no bytes
pub none_enough : (most : ℕ) → ¬ HasEnough most []
none_enough most (inl there) = omega (arith, there.1)
none_enough most (inr long) = omega (arith, long)

-- so many reads, and then one
pub tried_on : (tries : ℕ) (r₀ r₁ r₂ : Reads) → HasTried tries r₀ r₁ → HasTried 1 r₁ r₂ → HasTried (tries + 1) r₀ r₂
tried_on tries r₀ r₁ r₂ (inl failed, rose) (one, more) =
    (inl (omega (arith, failed, more)), omega (arith, rose, more))
tried_on tries r₀ r₁ r₂ (inr begun, rose) (inl failed, more) =
    (inl (omega (arith, rose, failed)), omega (arith, rose, more))
tried_on tries r₀ r₁ r₂ (inr begun, rose) (inr one, more) =
    (inr (omega (arith, begun, one)), omega (arith, rose, more))

module _ (most : ℕ) where
  -- at first no read began
  pub asks_none : (u : Account) (r : Reads) → AsksWhileOpen most u u r r
  asks_none u r = inl ((refl, refl), Gives-none u)

  -- one more read while no line has ended
  pub asks_on : (u₀ u₁ u₂ : Account) (r₀ r₁ r₂ : Reads) (got : List ℕ) → Gives u₀ u₁ got → ¬ HasEnough most got
      → AsksWhileOpen most u₀ u₁ r₀ r₁ → AsksOnce u₁ u₂ r₁ r₂ → AsksWhileOpen most u₀ u₂ r₀ r₂
  asks_on u₀ u₁ u₂ r₀ r₁ r₂ got far unended asked (inr gives) =
      inr (got, Gives-trans u₀ u₁ u₂ got r₂.last far gives, unended)
  asks_on u₀ u₁ u₂ r₀ r₁ r₂ got far unended (inl (none, gave)) (inl (same, kept)) =
      inl ((same.0 ∙ none.0, same.1 ∙ none.1), Gives-kept u₀ u₁ u₂ [] gave kept)
  asks_on u₀ u₁ u₂ r₀ r₁ r₂ got far unended (inr (early, gave, before)) (inl (same, kept)) = inr (
    early,
    subst (λ (l : List ℕ). Gives u₀ u₂ (early ++ l)) (sym same.1) (Gives-kept u₀ u₁ u₂ (early ++ r₁.last) gave kept),
    before,
  )

  -- where more has to be read, no line has ended
  pub still_open : (got got_new : List ℕ) → ¬ HasEnough most got → (got_new ≡ got) ⊎ (¬ HasEnough most got_new)
      → ¬ HasEnough most got_new
  still_open got got_new unended (inl same) = λ enough. unended (subst (HasEnough most) same enough)
  still_open got got_new unended (inr still) = still
