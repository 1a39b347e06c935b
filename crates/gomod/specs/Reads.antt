-- What a go.mod file says by the grammar.
use Rattle.std.specs.Prelude.{◌≡◌, ℕ, true, List, [], ◌∷◌, length, map, None, IsUtf8, ◌↔◌}
use Rattle.std.specs.List.{AllByRecursion}
use Rattle.gomod.specs.declared.keyword.Keyword.TheVariants.{Module, Go, Require, Retract}
use Rattle.gomod.specs.Paths.{fits_path}
use Rattle.modlex.specs.Lines.{lines}
use Rattle.modlex.specs.Lexer.{Lexeme}
use Rattle.modlex.specs.Tokens.{AreTokensOf}
use Rattle.modlex.specs.Symbols.{symbol_of}
use Rattle.gomod.specs.Keywords.{Keywords}
use Rattle.gomod.specs.Module.{GoModule, Interval}
use Rattle.gomod.specs.Entries.{IsModuleEntry, IsGoEntry, IsPair, IsRetractEntry}
use Rattle.gomod.specs.Grammar.{Row, Directive, AreWritten, rows_from, items, entries_under}

-- two lists have the same length, and their items are related one by one
abbrev pub Pointwise : {A B : Type 0} → (A → B → Type 0) → List A → List B → Type 0
Pointwise R [] [] = Unit {0}
Pointwise R (x ∷ xs) (y ∷ ys) = R x y × Pointwise R xs ys
Pointwise R _ _ = ⊥

-- the rows of the lines of a text
abbrev pub rows_of_tokens : List (List Lexeme) → List Row
rows_of_tokens tss = rows_from 1 (map (map symbol_of) tss)

-- the path may have the low and the high version of the interval
abbrev pub FitsPath : List ℕ → Interval → Type 0
FitsPath path i = (fits_path path i.low ≡ true) × (fits_path path i.high ≡ true)

-- the file with these bytes says this
pub record Reads (known : Keywords) (bytes : List ℕ) (m : GoModule) : Type 0 where
  pub utf8 : IsUtf8 bytes
  pub tokens : List (List Lexeme)
  pub lexemes : AreTokensOf 1 0 (lines bytes) tokens
  pub directives : List Directive
  pub grammar : AreWritten known (rows_of_tokens tokens) directives None
  pub path : Pointwise (λ e p. IsModuleEntry e.symbols p) (entries_under Module (items directives None)) (m.path ∷ [])
  pub go : Pointwise (λ e v. IsGoEntry e.symbols v) (entries_under Go (items directives None)) m.go
  pub required : Pointwise (λ e r. IsPair e.symbols r) (entries_under Require (items directives None)) m.required
  pub retractions : Pointwise (λ e i. IsRetractEntry e.symbols i) (entries_under Retract (items directives None))
      m.retractions
  pub fitting : AllByRecursion (FitsPath m.path) m.retractions
  pub bare : (m.bare ≡ true) ↔ (length directives ≡ 1)
