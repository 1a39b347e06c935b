-- The values of tokens, as a relation on their spelling.
use Rattle.std.specs.Prelude.{◌≡◌, ◌↔◌, ℕ, ◌==◌, List, [], ◌∷◌, ◌++◌, MatchBool}
use Rattle.modlex.specs.declared.lexer.TokenKind.{TokenKind}
use Rattle.modlex.specs.declared.lexer.TokenKind.TheVariants.{Quoted, Raw}
use Rattle.modlex.specs.Lexer.{Lexeme}
use Rattle.modlex.specs.Symbols.{symbol_of}
use Rattle.modlex.specs.Words.{value_of}

-- a backslash and the byte after it spell that byte, and every other byte spells itself
abbrev pub Spells : List ℕ → List ℕ → Type 0
Spells [] value = value ≡ []
Spells (b ∷ []) value = value ≡ b ∷ []
Spells (b ∷ c ∷ bs) value =
    MatchBool (b == 92) ((rest : List ℕ) × Spells bs rest × (value ≡ c ∷ rest))
    ((rest : List ℕ) × Spells (c ∷ bs) rest × (value ≡ b ∷ rest))

-- a string has the value that the text between its marks spells, a raw string that text itself, and any other token its
-- text
abbrev pub HasValue : TokenKind → List ℕ → List ℕ → Type 0
HasValue Quoted text value = (content : List ℕ) × (text ≡ 34 ∷ (content ++ 34 ∷ [])) × Spells content value
HasValue Raw text value = text ≡ 96 ∷ (value ++ 96 ∷ [])
HasValue _ text value = value ≡ text

-- the computed value of a token is the one value that it has
abbrev pub ValueIsExact : Lexeme → Type 0
ValueIsExact t = (value : List ℕ) → HasValue t.kind t.text value ↔ (value ≡ value_of (symbol_of t))
