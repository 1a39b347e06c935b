-- What shows the time.
use Rattle.std.specs.Prelude.{ℕ, ◌≡◌, List, [], ◌∷◌, ◌++◌, Option}

-- the clock was read once more, and showed this time, or none, because it could not be read
abbrev pub Shows : List (Option (List ℕ)) → List (Option (List ℕ)) → Option (List ℕ) → Type 0
Shows times times_new time = times_new ≡ times ++ time ∷ []
