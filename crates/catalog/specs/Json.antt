-- A part of JSON: ASCII without white space, escapes, signs, fractions and exponents. (RFC 8259, sections 2 to 7.)
use Rattle.std.specs.Prelude.{ℕ, ◌≡◌, ◌≤◌, ◌||◌, ◌&&◌, nat_le, Bool, true, List, [], ◌∷◌, ◌++◌, codes, map}
use Rattle.std.specs.Char.{is_ascii_digit}
use Rattle.std.specs.List.{join_with_byte, list_all}

-- ---- strings and numbers

-- a character that a string may hold without an escape, if it is ASCII: %x20-21 / %x23-5B / %x5D-7F
abbrev pub is_unescaped : ℕ → Bool
is_unescaped b = (nat_le 32 b && nat_le b 33) || ((nat_le 35 b && nat_le b 91) || (nat_le 93 b && nat_le b 127))

-- such characters, and a string of characters: these between quotation marks
abbrev pub AreUnescaped : List ℕ → Type 0
AreUnescaped chars = list_all is_unescaped chars ≡ true

abbrev pub string_text : List ℕ → List ℕ
string_text chars = codes "\"" ++ (chars ++ codes "\"")

-- a `0`, or a digit from 1 to 9 and then digits
pub data IsInt : List ℕ → Type 0 where
  zero : IsInt (codes "0")
  positive : (d : ℕ) (ds : List ℕ) → 49 ≤ d → d ≤ 57 → list_all is_ascii_digit ds ≡ true → IsInt (d ∷ ds)

-- ---- arrays and objects

-- an array of the texts of values
abbrev pub array_text : List (List ℕ) → List ℕ
array_text values = codes "[" ++ (join_with_byte 44 values ++ codes "]")

-- a name, and the text of a value
pub record Member : Type 0 where
  pub name : List ℕ
  pub value : List ℕ

abbrev pub member_text : Member → List ℕ
member_text m = string_text m.name ++ (codes ":" ++ m.value)

abbrev pub object_text : List Member → List ℕ
object_text members = codes "{" ++ (join_with_byte 44 (map member_text members) ++ codes "}")

-- ---- values

mutual
  -- the text is a value
  pub data IsValue : List ℕ → Type 0 where
    literal_true : IsValue (codes "true")
    number : (digits : List ℕ) → IsInt digits → IsValue digits
    string : (chars : List ℕ) → AreUnescaped chars → IsValue (string_text chars)
    array : (values : List (List ℕ)) → AreValues values → IsValue (array_text values)
    object : (members : List Member) → AreMembers members → IsValue (object_text members)

  -- each text is a value
  pub data AreValues : List (List ℕ) → Type 0 where
    no_value : AreValues []
    value : (v : List ℕ) (vs : List (List ℕ)) → IsValue v → AreValues vs → AreValues (v ∷ vs)

  -- each name needs no escape, and the text behind it is a value
  pub data AreMembers : List Member → Type 0 where
    no_member : AreMembers []
    member : (m : Member) (ms : List Member) → AreUnescaped m.name → IsValue m.value → AreMembers ms
        → AreMembers (m ∷ ms)

-- ---- lines

-- an object whose members have these names, in this order, and an end of line
pub record IsObjectLine (names : List (List ℕ)) (text : List ℕ) : Type 0 where
  pub members : List Member
  pub values : AreMembers members
  pub named : map (λ m. m.name) members ≡ names
  pub spelled : text ≡ object_text members ++ codes "\n"
