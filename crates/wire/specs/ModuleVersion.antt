-- Module paths and versions in their escaped forms, around `/@`. (Go Modules Reference, "GOPROXY protocol".)
use Rattle.std.specs.Prelude.{◌≡◌, ◌==◌, ℕ, ◌-◌, nat_lt, Bool, true, false, ◌&&◌, List, [], ◌∷◌, ◌++◌}
use Rattle.std.specs.Prelude.{length, take, drop, bytes_eq, codes, Option, Some, None, is_none, not, option_map}
use Rattle.std.specs.Prelude.{if◌then◌else◌}
use Rattle.std.specs.Char.{is_ascii_uppercase}
use Rattle.std.specs.Option.{option_and_then}
use Rattle.std.specs.List.{before_first, after_first, position_or_len}
use Rattle.std.specs.Str.{is_utf8}
use Rattle.modpath.specs.Escape.{escape_fault, escaped}
use Rattle.modpath.specs.Path.{IsPath, is_path}
use Rattle.modver.specs.Reading.{IsCanonical, version_of}
use Rattle.modver.specs.SemanticVersion.{SemanticVersion, version_text}
use Rattle.wire.specs.declared.module_version.ModuleVersion.{ModuleVersion}

-- the text is a path in its escaped form and this ending
pub record IsPathWith (text path ending : List ℕ) : Type 0 where
  pub whole : text ≡ escaped path ++ ending
  pub path_is : IsPath path

-- the text is a path, `/@v/`, a version and an ending, the path and the version in their escaped forms
pub record IsModuleVersion (text path : List ℕ) (version : SemanticVersion) (ending : List ℕ) : Type 0 where
  pub whole : text ≡ escaped path ++ (codes "/@v/" ++ (escaped (version_text version) ++ ending))
  pub path_is : IsPath path
  pub version_is : IsCanonical (version_text version) version

-- ---- computed forms of the readings above

-- a text without this start, or without this ending, if it has it
abbrev pub without_start : List ℕ → List ℕ → Option (List ℕ)
without_start start text = if bytes_eq (take (length start) text) start then Some (drop (length start) text) else None

abbrev pub without_end : List ℕ → List ℕ → Option (List ℕ)
without_end ending text =
    if bytes_eq (drop (length text - length ending) text) ending then Some (take (length text - length ending) text)
    else None

-- the texts before and after the first `byte` in a text, if there is one
unfoldable pub around : ℕ → List ℕ → Option (List ℕ × List ℕ)
around byte text =
    if nat_lt (position_or_len (λ b. b == byte) text) (length text)
    then Some (before_first (λ b. b == byte) text, after_first (λ b. b == byte) text) else None

abbrev pub without_slash : List ℕ × List ℕ → Option (List ℕ × List ℕ)
without_slash halves = option_map (λ front. (front, halves.1)) (without_end (codes "/") halves.0)

-- the texts before and after `/@`, if its `@` is the first in the text
unfoldable pub cut_of : List ℕ → Option (List ℕ × List ℕ)
cut_of text = option_and_then without_slash (around 64 text)

-- a byte that is its own escaped form
abbrev pub stands_for_itself : ℕ → Bool
stands_for_itself b = not (b == 33) && not (is_ascii_uppercase b)

-- a text without its `!`s, and with the letter after each in upper case; `bang`: the byte before the text is a `!`
abbrev pub unescaped_after : Bool → List ℕ → List ℕ
unescaped_after bang [] = []
unescaped_after true (b ∷ rest) = (b - 32) ∷ unescaped_after false rest
unescaped_after false (b ∷ rest) = if b == 33 then unescaped_after true rest else b ∷ unescaped_after false rest

abbrev pub unescaped : List ℕ → List ℕ
unescaped text = unescaped_after false text

-- the text whose escaped form this is, if there is one
unfoldable pub plain_of : List ℕ → Option (List ℕ)
plain_of text = if is_utf8 text && is_none (escape_fault text) then Some (unescaped text) else None

-- the module path whose escaped form this is, if there is one
abbrev pub path_of : List ℕ → Option (List ℕ)
path_of text = option_and_then (λ plain. if is_path plain then Some plain else None) (plain_of text)

-- the version whose escaped form this is, if there is one
abbrev pub version_from : List ℕ → Option SemanticVersion
version_from text = option_and_then version_of (plain_of text)

-- a path and a version, if both are there
abbrev pub pair : Option (List ℕ) → Option SemanticVersion → Option ModuleVersion
pair path version = option_and_then (λ p. option_map (λ v. record { path = p; version = v }) version) path

-- the path before `/@v/` and the version after it, if the text has this form
unfoldable pub module_version_of : List ℕ → Option ModuleVersion
module_version_of text =
    option_and_then (λ (halves : List ℕ × List ℕ). option_and_then
    (λ name. pair (path_of halves.0) (version_from name)) (without_start (codes "v/") halves.1)) (cut_of text)
