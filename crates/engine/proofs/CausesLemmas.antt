-- Which calls of a reader were made, and why a call failed.
use Rattle.std.proofs.Common.{◌≡◌, ℕ, ◌≤◌, inl, inr, List, [], ◌++◌, Option, Result, Ok, Err, IfOk, IfErr, refl, sym}
use Rattle.std.proofs.Common.{◌∙◌, subst, arith}
use Rattle.histories.specs.Account.{Account, Gives}
use Rattle.histories.specs.Calls.{Reads, Writes}
use Rattle.histories.proofs.AccountLemmas.{Gives-none, Gives-trans, Gives-kept}
use Rattle.framing.specs.Framing.{Framing, IsUnfinished}
use Rattle.engine.specs.Causes.{AsksWhileUnfinished, FailsWith, GivesNone, IsCausedIn, IsUnreadable, Spends}
use Rattle.engine.specs.Session.{EndsBy, ReadSoFar}
use Rattle.engine.specs.Written.{Writes as Written}
use Rattle.engine.specs.declared.fault.Io.{Io}
use Rattle.engine.specs.declared.fault.Io.TheVariants as io
use Rattle.engine.specs.declared.session.Handled.{Handled}

-- at first no read began
pub asks_none : (held : List ℕ) (u : Account) (r : Reads) → AsksWhileUnfinished held u u r r
asks_none held u r = inl ((refl, refl), Gives-none u)

module _
    (old now : Framing) (u₀ u₁ u₂ : Account) (reads reads_now : ℕ) (far : ReadSoFar old now u₀ u₁ reads reads_now)
    (waits : IsUnfinished now.held) (r₀ r₁ r₂ : Reads) where
  -- one more read begins while the bytes held are unfinished
  pub asks_read : Gives u₁ u₂ r₂.last → AsksWhileUnfinished old.held u₀ u₂ r₀ r₂
  asks_read gives = inr (
    far.bytes,
    Gives-trans u₀ u₁ u₂ far.bytes r₂.last far.consumed gives,
    subst IsUnfinished far.held waits,
  )

  -- so it is if the read fails
  pub asks_failed : AsksWhileUnfinished old.held u₀ u₁ r₀ r₁ → GivesNone r₁ r₂ → Gives u₁ u₂ []
      → AsksWhileUnfinished old.held u₀ u₂ r₀ r₂
  asks_failed asked (inr none) kept = asks_read (subst (Gives u₁ u₂) (sym none) kept)
  asks_failed (inl (none, gave)) (inl same) kept =
      inl ((same.0 ∙ none.0, same.1 ∙ none.1), Gives-kept u₀ u₁ u₂ [] gave kept)
  asks_failed (inr (early, gave, unfinished)) (inl same) kept = inr (
    early,
    subst (λ (l : List ℕ). Gives u₀ u₂ (early ++ l)) (sym same.1) (Gives-kept u₀ u₁ u₂ (early ++ r₁.last) gave kept),
    unfinished,
  )

module _ (left : ℕ) (r₀ r₁ : Reads) (w₀ w₁ : Writes) where
  -- a read that failed has a cause
  pub caused_unread : (e : Io) → e ≡ io.Read → IsUnreadable left r₀ r₁ → IsCausedIn left r₀ r₁ w₀ w₁ e
  caused_unread io.Read is cause = cause
  caused_unread io.Write is cause = cc

  -- a write that failed has a cause
  pub caused_unwritten : {T : Type 0} (out out' : Option (List ℕ)) (text : List ℕ) (result : Result T Io)
      → Written out out' text result → FailsWith w₀.failed w₁.failed result → IfErr result (IsCausedIn left r₀ r₁ w₀ w₁)
  caused_unwritten out out' text (Ok x) writes fails = tt
  caused_unwritten out out' text (Err io.Read) writes fails = absurd (wrong writes.0)
    where
      wrong : io.Read ≡ io.Write → ⊥
      wrong is = cc
  caused_unwritten out out' text (Err io.Write) writes fails = fails

-- what the session failed of is a cause for the stream
pub caused_later : (most left : ℕ) (r₀ r₁ r₂ : Reads) (w₀ w₁ w₂ : Writes) (e : Io) → Spends most left r₀ r₁
    → r₀.failed ≤ r₁.failed
    → w₀.failed ≤ w₁.failed → IsCausedIn left r₁ r₂ w₁ w₂ e → IsCausedIn most r₀ r₂ w₀ w₂ e
caused_later most left r₀ r₁ r₂ w₀ w₁ w₂ io.Read spent reads writes (inl failed) = inl (omega (arith, reads, failed))
caused_later most left r₀ r₁ r₂ w₀ w₁ w₂ io.Read spent reads writes (inr all) = inr (omega (arith, spent, all))
caused_later most left r₀ r₁ r₂ w₀ w₁ w₂ io.Write spent reads writes failed = omega (arith, writes, failed)

-- if a flush failed, that is a cause
pub caused_unflushed : {T : Type 0} (most : ℕ) (r₀ r₁ : Reads) (w₀ w₁ w₂ : Writes) (result : Result T Io)
    → w₀.failed ≤ w₁.failed
    → IfErr result (λ e. e ≡ io.Write) → FailsWith w₁.failed w₂.failed result
    → IfErr result (IsCausedIn most r₀ r₁ w₀ w₂)
caused_unflushed most r₀ r₁ w₀ w₁ w₂ (Ok x) writes which fails = tt
caused_unflushed most r₀ r₁ w₀ w₁ w₂ (Err e) writes which fails =
    subst (IsCausedIn most r₀ r₁ w₀ w₂) (sym which) (omega (arith, writes, fails))

-- what the session failed of is a cause for the stream, and so is a flush that failed after it
pub caused_ended : (most : ℕ) (r₀ r₁ : Reads) (w₀ w₁ w₂ : Writes) (handled : Result Handled Io)
    (result : Result (Option ℕ) Io)
    → IfErr handled (IsCausedIn most r₀ r₁ w₀ w₁) → w₀.failed ≤ w₁.failed → w₁.failed ≤ w₂.failed → EndsBy handled result
    → IfOk handled (λ _. FailsWith w₁.failed w₂.failed result) → IfErr result (IsCausedIn most r₀ r₁ w₀ w₂)
caused_ended most r₀ r₁ w₀ w₁ w₂ (Ok handled) (Ok status) cause before after ends fails = tt
caused_ended most r₀ r₁ w₀ w₁ w₂ (Ok handled) (Err e) cause before after ends fails =
    subst (IsCausedIn most r₀ r₁ w₀ w₂) (sym ends) (omega (arith, before, fails))
caused_ended most r₀ r₁ w₀ w₁ w₂ (Err e) result cause before after ends fails =
    subst (λ (x : Result (Option ℕ) Io). IfErr x (IsCausedIn most r₀ r₁ w₀ w₂)) (sym ends) (still e cause)
  where
    still : (e : Io) → IsCausedIn most r₀ r₁ w₀ w₁ e → IsCausedIn most r₀ r₁ w₀ w₂ e
    still io.Read cause = cause
    still io.Write cause = omega (arith, cause, after)
