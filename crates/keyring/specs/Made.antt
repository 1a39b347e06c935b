-- The key that random bytes make.
use Rattle.std.specs.Prelude.{ℕ, ◌+◌, ◌-◌, ◌%◌, List, [], ◌∷◌, length, take, nat_lt, if◌then◌else◌, Option, Some, None}

-- the letter of a number below 36: a to z, and then 0 to 9
abbrev pub letter : ℕ → ℕ
letter n = if nat_lt n 26 then 97 + n else 48 + (n - 26)

-- The letters that bytes give. The bytes below 252 are seven for each of the 36 letters; the others give none.
abbrev pub letters_of : List ℕ → List ℕ
letters_of [] = []
letters_of (b ∷ bs) = if nat_lt b 252 then letter (b % 36) ∷ letters_of bs else letters_of bs

-- the first 26 letters of the bytes, or none if they give fewer
abbrev pub key_of : List ℕ → Option (List ℕ)
key_of bs = if nat_lt (length (letters_of bs)) 26 then None else Some (take 26 (letters_of bs))
