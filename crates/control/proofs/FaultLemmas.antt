-- Faults that were told, and those of them that are remembered.
use Rattle.std.proofs.Common.{◌≡◌, ◌≤◌, ◌<◌, ◌++◌, ℕ, true, false, List, [], ◌∷◌, Option, Result, Ok, Err, inl, inr}
use Rattle.std.proofs.Common.{arith, refl, sym, ◌∙◌}
use Rattle.std.proofs.lemmas.Bool.{false≢true}
use Rattle.std.specs.List.{list_any}
use Rattle.std.specs.Prelude.{bytes_eq, if◌then◌else◌, is_ok, vec_len}
use Rattle.std.specs.declared.time.Instant.{Instant}
use Rattle.control.specs.Faults.{Admits, IsHeldBack, Remembers, remembered}
use Rattle.control.specs.declared.faults.Fault.{Fault}
use Rattle.control.specs.declared.faults.RecentFaults.{RecentFaults}

-- a fault was pushed, or memory ran out for it
pub remembers : {T E : Type 0} (pushed : Result T E) (told told_new : List Fault) (fault : Fault)
    → told_new ≡ (if is_ok pushed then told ++ fault ∷ [] else told) → Remembers told told_new fault.line fault.at
remembers (Ok done) told told_new fault is = inr (fault, refl, refl, is)
remembers (Err e) told told_new fault is = inl is

module _ (now : Option Instant) (old left : RecentFaults) (line : List ℕ)
    (forgets : left.told.items ≡ remembered now old.told.items) where
  -- a line is held back
  pub holds_back : IsHeldBack left line → Admits now old left line false
  holds_back held = record { left = left; forgets = forgets; held = λ no. (held, refl); free = λ yes. cc }

  -- a line is not held back, and is remembered
  pub lets_through : (new : RecentFaults) → vec_len left.told < 20
      → list_any (λ (fault : Fault). bytes_eq fault.line line) left.told.items ≡ false
      → Remembers left.told.items new.told.items line now → Admits now old new line true
  lets_through new few none told = record {
    left = left;
    forgets = forgets;
    held = λ no. cc;
    free = λ yes. (
      λ held. elim held [
        | inl it ↦ false≢true (sym none ∙ it)
        | inr full ↦ omega (arith, few, full)
      ],
      told,
    );
  }
