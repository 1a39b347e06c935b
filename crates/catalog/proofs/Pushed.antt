-- A text that was appended piece by piece.
use Rattle.std.proofs.Common.{◌≡◌, ◌∙◌, ◌++◌, ℕ, List, Result, Ok, Err, ap, append_assoc}
use Rattle.std.specs.Prelude.{OnOk}

-- one piece was appended and then another, or that failed
pub after_one : {T E : Type 0} (result : Result T E) (old a b mid new : List ℕ) → mid ≡ old ++ a
    → OnOk result (new ≡ mid ++ b) → OnOk result (new ≡ old ++ (a ++ b))
after_one (Ok x) old a b mid new first last = last ∙ ap (λ l. l ++ b) first ∙ append_assoc old a b
after_one (Err e) old a b mid new first last = tt
