-- What is known of the bytes that a reader gave, and of those that it still has.
use Rattle.std.specs.Prelude.{◌≡◌, ℕ, ◌<◌, Bool, false, List, [], ◌++◌, length, take, Option, Some, None, Result, Ok}
use Rattle.std.specs.Prelude.{Err, IsTrue, ⊤}
use Rattle.std.specs.Io.KnownBytes.{Consumes, IsAtEnd}

pub record Account : Type 0 where
  -- the bytes that it gave
  pub heard : List ℕ
  -- it said that there are no more
  pub is_over : Bool
  -- the bytes that it still has, if they are known
  pub left : Option (List ℕ)

-- it gave nothing so far
abbrev pub new_account : Option (List ℕ) → Account
new_account left = record { heard = []; is_over = false; left = left }

-- Nothing has passed: the reader gave nothing and may give more, and the writer took nothing.
abbrev pub IsUnused : Account → Option (List ℕ) → Type 0
IsUnused came told = (came ≡ new_account came.left) × (told ≡ Some [])

-- these bytes may come after those that it gave: any bytes, or none if it said that there are no more
abbrev pub MayFollow : Account → List ℕ → Type 0
MayFollow a more = IsTrue a.is_over → more ≡ []

-- a reader that said that there are no more has none, if its bytes are known
abbrev pub IsSound : Account → Type 0
IsSound a = IsTrue a.is_over → IsAtEnd a.left

-- From old to new it gave these bytes: none if it had said before that there are no more.
pub record Gives (old new : Account) (bytes : List ℕ) : Type 0 where
  pub heard : new.heard ≡ old.heard ++ bytes
  pub left : Consumes old.left new.left bytes
  pub over : IsTrue old.is_over → IsTrue new.is_over × (bytes ≡ [])
  pub sound : IsSound old → IsSound new

-- A read into these bytes: it gave the first n of them, and said that there are no more exactly if it gave none where
-- there was room. If it failed, it gave nothing.
abbrev pub GivesTo : {E : Type 0} → Account → Account → Result ℕ E → List ℕ → Type 0
GivesTo old new (Ok n) buf =
    Gives old new (take n buf) × (n ≡ 0 → 0 < length buf → IsTrue new.is_over) × (0 < n → new.is_over ≡ old.is_over)
GivesTo old new (Err e) buf = Gives old new [] × (new.is_over ≡ old.is_over)

-- ---- readers whose bytes are known

-- the bytes that a reader still has, or none if they are not known
abbrev pub left_of : Option (List ℕ) → List ℕ
left_of None = []
left_of (Some bytes) = bytes

-- the input is what the reader has, if that is known
abbrev pub IsKnownInput : Option (List ℕ) → List ℕ → Type 0
IsKnownInput None input = ⊤
IsKnownInput (Some bytes) input = input ≡ bytes
