-- The computed values of tokens.
use Rattle.std.specs.Prelude.{◌≡◌, ℕ, ◌==◌, List, [], ◌∷◌, ◌++◌, if◌then◌else◌}
use Rattle.modlex.specs.declared.lexer.TokenKind.{TokenKind}
use Rattle.modlex.specs.declared.lexer.TokenKind.TheVariants.{Quoted, Raw}
use Rattle.modlex.specs.Symbols.{Symbol}

-- a text without its first byte, or without its last, if that is the given byte
abbrev pub without_first : ℕ → List ℕ → List ℕ
without_first mark [] = []
without_first mark (b ∷ bs) = if b == mark then bs else b ∷ bs

abbrev pub without_last : ℕ → List ℕ → List ℕ
without_last mark [] = []
without_last mark (b ∷ []) = if b == mark then [] else b ∷ []
without_last mark (b ∷ c ∷ bs) = b ∷ without_last mark (c ∷ bs)

-- a text without the mark at its start and the mark at its end
abbrev pub inside : ℕ → List ℕ → List ℕ
inside mark text = without_last mark (without_first mark text)

-- a text without its escaping backslashes: each drops out, and the byte after it stays
abbrev pub plain_text : List ℕ → List ℕ
plain_text [] = []
plain_text (b ∷ []) = if b == 92 then [] else b ∷ []
plain_text (b ∷ c ∷ bs) = if b == 92 then c ∷ plain_text bs else b ∷ plain_text (c ∷ bs)

abbrev pub value_of_text : TokenKind → List ℕ → List ℕ
value_of_text Quoted text = plain_text (inside 34 text)
value_of_text Raw text = inside 96 text
value_of_text _ text = text

-- the value of a token: the content of a string, and the text of any other token
unfoldable pub value_of : Symbol → List ℕ
value_of t = value_of_text t.kind t.text

-- a text has a backslash, and a token is a string in quotation marks that has one
abbrev pub HasBackslash : List ℕ → Type 0
HasBackslash text = (before : List ℕ) × (behind : List ℕ) × (text ≡ before ++ 92 ∷ behind)

abbrev pub HasEscape : Symbol → Type 0
HasEscape t = (t.kind ≡ Quoted) × HasBackslash (inside 34 t.text)
