-- What gives random bytes.
use Rattle.std.specs.Prelude.{ℕ, ◌≡◌, ◌+◌, List, [], ◌∷◌, ◌++◌, Result, Ok, Err}

-- what was drawn from it
pub record Drawn : Type 0 where
  -- the bytes that each call gave, the oldest first
  pub given : List (List ℕ)
  -- how many calls failed
  pub failed : ℕ

-- nothing was drawn so far
abbrev pub no_draws : Drawn
no_draws = record { given = []; failed = 0 }

-- these bytes were drawn after those before
abbrev pub Gives : Drawn → Drawn → List ℕ → Type 0
Gives drawn drawn_new bytes = (drawn_new.given ≡ drawn.given ++ bytes ∷ []) × (drawn_new.failed ≡ drawn.failed)

-- a call failed, and gave nothing
abbrev pub GivesNone : Drawn → Drawn → Type 0
GivesNone drawn drawn_new = (drawn_new.given ≡ drawn.given) × (drawn_new.failed ≡ drawn.failed + 1)

-- one of both
abbrev pub Draws : {E : Type 0} → Drawn → Drawn → Result (List ℕ) E → Type 0
Draws drawn drawn_new (Ok bytes) = Gives drawn drawn_new bytes
Draws drawn drawn_new (Err e) = GivesNone drawn drawn_new
