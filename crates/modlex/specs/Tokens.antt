-- The tokens of lines and of texts, as relations.
use Rattle.std.specs.Prelude.{◌≡◌, ◌≢◌, ℕ, ◌+◌, ◌<◌, ◌≤◌, Bool, true, false, ◌==◌, List}
use Rattle.std.specs.Prelude.{[], ◌∷◌, ◌++◌, length, codes, slice_range, ◌⊎◌, MatchBool}
use Rattle.std.specs.List.{AllByRecursion, flat_map}
use Rattle.modlex.specs.declared.lexer.TokenKind.{TokenKind}
use Rattle.modlex.specs.declared.lexer.TokenKind.TheVariants.{Name, Quoted, Raw, Arrow, Comma, ParenLeft, ParenRight}
use Rattle.modlex.specs.declared.lexer.TokenKind.TheVariants.{BracketLeft, BracketRight}
use Rattle.modlex.specs.Bytes.{is_blank, is_string_byte, is_name_byte, is_slash_and}
use Rattle.modlex.specs.Lines.{lines}
use Rattle.modlex.specs.Lexer.{Lexeme, lexeme}

-- spaces, tabs and carriage returns
abbrev pub AreBlank : List ℕ → Type 0
AreBlank = AllByRecursion (λ b. is_blank b ≡ true)

-- whether the bytes begin with a slash and this byte
abbrev pub opens : ℕ → List ℕ → Bool
opens second [] = false
opens second (b ∷ bs) = is_slash_and second b bs

-- what comes after the last token and its blanks: nothing, or a comment
abbrev pub IsEnd : List ℕ → Type 0
IsEnd rest = (rest ≡ []) ⊎ (opens 47 rest ≡ true)

-- what an interpreted string may hold: no quotation mark, but a backslash takes any byte of a string after it
abbrev pub IsQuoted : List ℕ → Type 0
IsQuoted [] = Unit {0}
IsQuoted (b ∷ []) = (is_string_byte b ≡ true) × (b ≢ 34) × (b ≢ 92)
IsQuoted (b ∷ c ∷ bs) =
    (is_string_byte b ≡ true) × (b ≢ 34)
    × MatchBool (b == 92) ((is_string_byte c ≡ true) × IsQuoted bs) (IsQuoted (c ∷ bs))

-- what a raw string may hold
abbrev pub IsRaw : List ℕ → Type 0
IsRaw = AllByRecursion (λ b. (is_string_byte b ≡ true) × (b ≢ 96))

-- a run of name bytes before a rest, as long as it can be: it ends before a comment, and no `/*` begins in it
abbrev pub IsRun : List ℕ → List ℕ → Type 0
IsRun [] [] = Unit {0}
IsRun [] (c ∷ cs) = (is_name_byte c ≡ false) ⊎ (is_slash_and 47 c cs ≡ true)
IsRun (b ∷ bs) rest = (is_name_byte b ≡ true) × (is_slash_and 47 b (bs ++ rest) ≡ false)
    × (is_slash_and 42 b (bs ++ rest) ≡ false) × IsRun bs rest

-- a text is a token of this kind if `rest` comes after it
abbrev pub IsLexeme : TokenKind → List ℕ → List ℕ → Type 0
IsLexeme ParenLeft text rest = text ≡ codes "("
IsLexeme ParenRight text rest = text ≡ codes ")"
IsLexeme BracketLeft text rest = text ≡ codes "["
IsLexeme BracketRight text rest = text ≡ codes "]"
IsLexeme Comma text rest = text ≡ codes ","
IsLexeme Quoted text rest = (content : List ℕ) × IsQuoted content × (text ≡ 34 ∷ (content ++ 34 ∷ []))
IsLexeme Raw text rest = (content : List ℕ) × IsRaw content × (text ≡ 96 ∷ (content ++ 96 ∷ []))
IsLexeme Arrow text rest = (text ≡ codes "=>") × IsRun text rest
IsLexeme Name text rest = (0 < length text) × (text ≢ codes "=>") × IsRun text rest

-- the tokens of a line with this number, which begins at this offset of the text: blanks may come before each, and
-- after the last come blanks and perhaps a comment
abbrev pub AreTokens : ℕ → ℕ → List ℕ → List Lexeme → Type 0
AreTokens line at bytes [] = (gap : List ℕ) × (rest : List ℕ) × AreBlank gap × IsEnd rest × (bytes ≡ gap ++ rest)
AreTokens line at bytes (t ∷ ts) =
    (gap : List ℕ) × (rest : List ℕ) × AreBlank gap × IsLexeme t.kind t.text rest × (bytes ≡ gap ++ (t.text ++ rest))
    × (t ≡ lexeme t.kind line (at + length gap) t.text) × AreTokens line (at + length gap + length t.text) rest ts

-- the tokens of each of several lines, the first of which has this number and begins at this offset of the text
abbrev pub AreTokensOf : ℕ → ℕ → List (List ℕ) → List (List Lexeme) → Type 0
AreTokensOf line at [] [] = Unit {0}
AreTokensOf line at (l ∷ ls) (ts ∷ tss) = AreTokens line at l ts × AreTokensOf (line + 1) (at + length l + 1) ls tss
AreTokensOf line at _ _ = ⊥

-- the tokens of a text are those of its lines, one after another
abbrev pub AreTextTokens : List ℕ → List Lexeme → Type 0
AreTextTokens text ts = (tss : List (List Lexeme)) × AreTokensOf 1 0 (lines text) tss
    × (flat_map (λ line. line) tss ≡ ts)

-- the number of the first line that cannot be split into tokens, wherever it begins
pub record IsFirstWithout (text : List ℕ) (line : ℕ) : Type 0 where
  pub before : List (List ℕ)
  pub faulty : List ℕ
  pub others : List (List ℕ)
  pub split : lines text ≡ before ++ faulty ∷ others
  pub number : line ≡ length before + 1
  pub above : (tss : List (List Lexeme)) × AreTokensOf 1 0 before tss
  pub none : (at : ℕ) (ts : List Lexeme) → ¬ AreTokens line at faulty ts

-- each token's text is the slice of the text at its span, and each token begins at or after the end of the one before
abbrev pub AreInOrder : List ℕ → ℕ → List Lexeme → Type 0
AreInOrder text from [] = Unit {0}
AreInOrder text from (t ∷ ts) =
    (from ≤ t.span.start) × (t.span.start < t.span.end) × (t.span.end ≤ length text)
    × (slice_range text t.span.start t.span.end ≡ t.text) × AreInOrder text t.span.end ts
