-- Module paths in the standard's words: each rule is a relation on texts. `Path` has their computed
-- forms. (Go Modules Reference, "Module paths" and "Major version suffixes".)
use Rattle.std.specs.Prelude.{ℕ, ◌≡◌, ◌⊎◌, ◌^◌, ◌<◌, ◌≤◌, List, [], ◌∷◌, ◌++◌, length, map, codes, IsTrue}
use Rattle.std.specs.Char.{is_ascii_alphanumeric, is_ascii_digit, is_ascii_lowercase, to_ascii_uppercase}
use Rattle.std.specs.Fmt.{decimal}
use Rattle.std.specs.List.{All, Contains, join_with_byte}
use Rattle.modpath.specs.declared.major.Suffix.{Suffix}
use Rattle.modpath.specs.declared.major.Suffix.TheVariants as suffix
use Rattle.modpath.specs.declared.path.PathFault.{PathFault}
use Rattle.modpath.specs.declared.path.PathFault.TheVariants as fault
use Rattle.modpath.specs.Path.{elements, first_element, stem}

-- a text begins, or ends, with another
abbrev pub BeginsWith : List ℕ → List ℕ → Type 0
BeginsWith text front = (rest : List ℕ) × (text ≡ front ++ rest)

abbrev pub EndsWith : List ℕ → List ℕ → Type 0
EndsWith text back = (front : List ℕ) × (text ≡ front ++ back)

-- ---- elements

-- the texts between the slashes of a text: joined by slashes they are the text, and none of them has a slash
pub record AreBetweenSlashes (text : List ℕ) (es : List (List ℕ)) : Type 0 where
  pub joined : join_with_byte 47 es ≡ text
  pub no_slash : All (λ e. ¬ Contains e 47) es

-- the text before the first dot of an element, or all of it if it has no dot
pub record IsStem (e name : List ℕ) : Type 0 where
  pub no_dot : ¬ Contains name 46
  pub beginning : (e ≡ name) ⊎ BeginsWith e (name ++ codes ".")

-- an ASCII letter or digit, or one of `-`, `.`, `_`, `~`
abbrev pub IsElementByte : ℕ → Type 0
IsElementByte b = IsTrue (is_ascii_alphanumeric b) ⊎ Contains (codes "-._~") b

-- one or more element bytes
pub record HasElementBytes (e : List ℕ) : Type 0 where
  pub some : 0 < length e
  pub each : All IsElementByte e

-- a dot is the first or the last byte
abbrev pub HasDotEnd : List ℕ → Type 0
HasDotEnd e = BeginsWith e (codes ".") ⊎ EndsWith e (codes ".")

-- the names that no element may have in front of its first dot
abbrev pub reserved_names : List (List ℕ)
reserved_names =
    codes "CON" ∷ codes "PRN" ∷ codes "AUX" ∷ codes "NUL"
    ∷ codes "COM1" ∷ codes "COM2" ∷ codes "COM3" ∷ codes "COM4" ∷ codes "COM5" ∷ codes "COM6" ∷ codes "COM7"
    ∷ codes "COM8" ∷ codes "COM9"
    ∷ codes "LPT1" ∷ codes "LPT2" ∷ codes "LPT3" ∷ codes "LPT4" ∷ codes "LPT5" ∷ codes "LPT6" ∷ codes "LPT7"
    ∷ codes "LPT8" ∷ codes "LPT9"
    ∷ []

-- a reserved name, in any case
abbrev pub IsReserved : List ℕ → Type 0
IsReserved name = Contains reserved_names (map to_ascii_uppercase name)

-- a name ends with a tilde and one or more digits
pub record EndsInTildeNumber (name : List ℕ) : Type 0 where
  pub digits : List ℕ
  pub ending : EndsWith name (codes "~" ++ digits)
  pub some : 0 < length digits
  pub each : All (λ b. IsTrue (is_ascii_digit b)) digits

-- an element of a path
pub record IsElement (e : List ℕ) : Type 0 where
  pub bytes : HasElementBytes e
  pub no_dot_end : ¬ HasDotEnd e
  pub not_reserved : ¬ IsReserved (stem e)
  pub no_tilde_number : ¬ EndsInTildeNumber (stem e)

-- ---- the first element

-- a lower-case letter, a digit, a dash or a dot
abbrev pub IsFirstElementByte : ℕ → Type 0
IsFirstElementByte b = IsTrue (is_ascii_lowercase b) ⊎ IsTrue (is_ascii_digit b) ⊎ Contains (codes "-.") b

-- an element that may be the first of a module path: bytes of that kind, with a dot, and no dash in front
pub record IsFirstElement (e : List ℕ) : Type 0 where
  pub bytes : All IsFirstElementByte e
  pub dot : Contains e 46
  pub no_dash : ¬ BeginsWith e (codes "-")

-- ---- major version suffixes

-- the last of two or more elements is a `v` and then one or more digits and dots, as if it were a version
pub record LooksVersioned (text : List ℕ) : Type 0 where
  pub number : List ℕ
  pub ending : EndsWith text (codes "/v" ++ number)
  pub some : 0 < length number
  pub each : All (λ b. IsTrue (is_ascii_digit b) ⊎ (b ≡ 46)) number

-- the major version suffix that a path has: `.vN` below `gopkg.in/`, otherwise `/vN` with N from 2 on, or none
abbrev pub HasSuffix : List ℕ → Suffix → Type 0
HasSuffix text (suffix.Dot n) = BeginsWith text (codes "gopkg.in/") × EndsWith text (codes ".v" ++ decimal n)
    × (n < 2 ^ 64)
HasSuffix text (suffix.Slash n) =
    (¬ BeginsWith text (codes "gopkg.in/")) × EndsWith text (codes "/v" ++ decimal n) × (2 ≤ n) × (n < 2 ^ 64)
HasSuffix text suffix.None = (¬ BeginsWith text (codes "gopkg.in/")) × (¬ LooksVersioned text)

-- ---- paths

-- 1 to 255 bytes
pub record HasPathLength (text : List ℕ) : Type 0 where
  pub some : 0 < length text
  pub short : length text ≤ 255

-- a loose path
pub record IsLooseModulePath (text : List ℕ) : Type 0 where
  pub size : HasPathLength text
  pub each : All IsElement (elements text)
  pub major : (s : Suffix) × HasSuffix text s

-- a module path
pub record IsModulePath (text : List ℕ) : Type 0 where
  pub loose : IsLooseModulePath text
  pub first : IsFirstElement (first_element (elements text))

-- ---- faults

-- the first rule of elements that an element breaks
abbrev pub BreaksElement : List ℕ → PathFault → Type 0
BreaksElement e fault.Element = ¬ HasElementBytes e
BreaksElement e fault.DotEnd = HasElementBytes e × HasDotEnd e
BreaksElement e fault.Reserved = HasElementBytes e × (¬ HasDotEnd e) × IsReserved (stem e)
BreaksElement e fault.Tilde = HasElementBytes e × (¬ HasDotEnd e) × (¬ IsReserved (stem e)) × EndsInTildeNumber (stem e)
BreaksElement e fault.Empty = ⊥
BreaksElement e fault.TooLong = ⊥
BreaksElement e fault.First = ⊥
BreaksElement e fault.Suffix = ⊥

-- the first rule that the leftmost bad element of a list breaks
pub record BreaksLeftmost (es : List (List ℕ)) (f : PathFault) : Type 0 where
  pub front : List (List ℕ)
  pub element : List ℕ
  pub back : List (List ℕ)
  pub split : es ≡ front ++ element ∷ back
  pub before : All IsElement front
  pub breaks : BreaksElement element f

-- a text has the length and the elements of a path
abbrev pub HasPathElements : List ℕ → Type 0
HasPathElements text = HasPathLength text × All IsElement (elements text)

-- the first rule of loose paths that a text breaks
abbrev pub BreaksLoose : List ℕ → PathFault → Type 0
BreaksLoose text fault.Empty = length text ≡ 0
BreaksLoose text fault.TooLong = 255 < length text
BreaksLoose text fault.Element = HasPathLength text × BreaksLeftmost (elements text) fault.Element
BreaksLoose text fault.DotEnd = HasPathLength text × BreaksLeftmost (elements text) fault.DotEnd
BreaksLoose text fault.Reserved = HasPathLength text × BreaksLeftmost (elements text) fault.Reserved
BreaksLoose text fault.Tilde = HasPathLength text × BreaksLeftmost (elements text) fault.Tilde
BreaksLoose text fault.First = ⊥
BreaksLoose text fault.Suffix = HasPathElements text × (¬ ((s : Suffix) × HasSuffix text s))

-- the first rule of module paths that a text breaks
abbrev pub BreaksPath : List ℕ → PathFault → Type 0
BreaksPath text fault.Empty = BreaksLoose text fault.Empty
BreaksPath text fault.TooLong = BreaksLoose text fault.TooLong
BreaksPath text fault.Element = BreaksLoose text fault.Element
BreaksPath text fault.DotEnd = BreaksLoose text fault.DotEnd
BreaksPath text fault.Reserved = BreaksLoose text fault.Reserved
BreaksPath text fault.Tilde = BreaksLoose text fault.Tilde
BreaksPath text fault.First = HasPathElements text × (¬ IsFirstElement (first_element (elements text)))
BreaksPath text fault.Suffix =
    HasPathElements text × IsFirstElement (first_element (elements text)) × (¬ ((s : Suffix) × HasSuffix text s))
