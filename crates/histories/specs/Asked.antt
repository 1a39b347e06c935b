-- What a stream was asked. Lists have the last first.
use Rattle.std.specs.Prelude.{◌≡◌, ℕ, List, ◌∷◌, ◌++◌, take, Result, Ok, Err}
use Rattle.std.specs.declared.time.Instant.{Instant}
use Rattle.histories.specs.declared.ask.Ask.{Ask}
use Rattle.histories.specs.declared.ask.Ask.TheVariants.{Refused, Shows, Unshown}

-- From old to new it was asked this, once, and nothing else. It did that, or it refused it or failed.
abbrev pub AsksFor : {A E : Type 0} → Ask → List Ask → List Ask → Result A E → Type 0
AsksFor ask old new (Ok a) = new ≡ ask ∷ old
AsksFor ask old new (Err e) = new ≡ Refused ∷ ask ∷ old

-- From old to new its clock was read, once, and nothing else was asked. The clock showed this, or it could not be read.
abbrev pub LooksAt : {E : Type 0} → List Ask → List Ask → Result Instant E → Type 0
LooksAt old new (Ok now) = new ≡ Shows now ∷ old
LooksAt old new (Err e) = new ≡ Unshown ∷ old

-- From old to new the first n of these bytes passed, or none if that failed.
abbrev pub Passes : {E : Type 0} → List ℕ → List ℕ → Result ℕ E → List ℕ → Type 0
Passes old new (Ok n) buf = new ≡ old ++ take n buf
Passes old new (Err e) buf = new ≡ old
