-- Team names and keys.
use Rattle.std.specs.Prelude.{ℕ, List, [], ◌∷◌, Bool, false, not, ◌&&◌, ◌||◌, nat_eq, nat_le, length, bytes_eq, codes}
use Rattle.std.specs.List.{list_all}

-- the shelf that every shelf sees
abbrev pub common : List ℕ
common = codes "common"

-- whether the byte is one of a-z
abbrev pub is_lower : ℕ → Bool
is_lower c = nat_le 97 c && nat_le c 122

-- whether the byte is one of 0-9
abbrev pub is_digit : ℕ → Bool
is_digit c = nat_le 48 c && nat_le c 57

-- whether the byte is one of a-z0-9
abbrev pub is_key_byte : ℕ → Bool
is_key_byte c = is_lower c || is_digit c

-- whether the byte is one of a-z0-9-
abbrev pub is_name_byte : ℕ → Bool
is_name_byte c = is_lower c || is_digit c || nat_eq c 45

-- whether the first byte is one of a-z
abbrev pub begins_lower : List ℕ → Bool
begins_lower [] = false
begins_lower (c ∷ cs) = is_lower c

-- whether the text has 1 to 32 bytes of a-z0-9-, begins with a letter, and is not `common`
abbrev pub is_team_name : List ℕ → Bool
is_team_name t =
    nat_le (length t) 32 && begins_lower t && list_all is_name_byte t && not (bytes_eq t common)

-- whether the text has 16 to 64 bytes of a-z0-9
abbrev pub is_key : List ℕ → Bool
is_key k = nat_le 16 (length k) && nat_le (length k) 64 && list_all is_key_byte k
