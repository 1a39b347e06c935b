-- How much of a text a writer got.
use Rattle.std.specs.Prelude.{◌≡◌, ◌≢◌, ℕ, List, [], ◌++◌, Option, Result, MatchResult}
use Rattle.std.specs.Io.KnownBytes.{Appends}
use Rattle.engine.specs.declared.fault.Io.{Io}
use Rattle.engine.specs.declared.fault.Io.TheVariants as io

-- the text begins with these bytes, and has more
abbrev pub IsBeginning : List ℕ → List ℕ → Type 0
IsBeginning front text = (rest : List ℕ) × (rest ≢ []) × (text ≡ front ++ rest)

-- the writer got a beginning of the text, and not all of it
abbrev pub WritesBeginning : Option (List ℕ) → Option (List ℕ) → List ℕ → Type 0
WritesBeginning old new text = (front : List ℕ) × IsBeginning front text × Appends old new front

-- the writer got the whole text, or the write failed and it got a beginning
abbrev pub Writes : {T : Type 0} → Option (List ℕ) → Option (List ℕ) → List ℕ → Result T Io → Type 0
Writes old new text result =
    MatchResult result (λ _. Appends old new text) (λ e. (e ≡ io.Write) × WritesBeginning old new text)
