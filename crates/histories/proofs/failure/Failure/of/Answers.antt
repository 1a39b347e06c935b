use Rattle.std.proofs.Common.{◌≡◌, ◌⊎◌, inl, inr, refl, subst, sym}
use Rattle.std.specs.declared.io.ErrorKind.{ErrorKind}
use Rattle.std.specs.declared.io.ErrorKind.TheVariants as kind
use Rattle.histories.specs.Failure.{failure_of}
use Rattle.histories.specs.declared.failure.Failure.TheVariants.{Late, Broken}
use Rattle.histories.proofs.failure.Failure.of.Goals as goal

-- an error that says that nothing came in time
is_late : (k : ErrorKind) → (k ≡ kind.WouldBlock) ⊎ (k ≡ kind.TimedOut) → Late ≡ failure_of k
unfolding failure_of
is_late k (inl is) = rw is refl
is_late k (inr is) = rw is refl

-- an error of another kind
is_broken : (k : ErrorKind) → ¬ (k ≡ kind.WouldBlock) → ¬ (k ≡ kind.TimedOut) → ¬ (k ≡ kind.Interrupted)
    → Broken ≡ failure_of k
unfolding failure_of
is_broken kind.WouldBlock one two three = absurd (one refl)
is_broken kind.TimedOut one two three = absurd (two refl)
is_broken kind.Interrupted one two three = absurd (three refl)
is_broken _ one two three = refl

pub returns-in-WouldBlock : goal.returns-in-WouldBlock
returns-in-WouldBlock c =
    is_late _ (subst (λ k. (k ≡ kind.WouldBlock) ⊎ (k ≡ kind.TimedOut)) c.kind.ensures c.in-WouldBlock.is)

pub returns-in-Interrupted : goal.returns-in-Interrupted
unfolding failure_of
returns-in-Interrupted c = rw (sym c.kind.ensures, c.in-Interrupted.is) refl

pub returns-in_default : goal.returns-in_default
returns-in_default c =
    let other = c.in_default in
    is_broken _ (subst (λ k. ¬ (k ≡ kind.WouldBlock)) c.kind.ensures other.not-WouldBlock)
    (subst (λ k. ¬ (k ≡ kind.TimedOut)) c.kind.ensures other.not-TimedOut)
    (subst (λ k. ¬ (k ≡ kind.Interrupted)) c.kind.ensures other.not-Interrupted)
