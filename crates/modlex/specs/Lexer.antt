-- The computed tokens of lines and of texts.
use Rattle.std.specs.Prelude.{◌≡◌, ℕ, zero, suc, length, ◌+◌, ◌-◌, false, ◌||◌, not, ◌==◌, List, [], ◌∷◌}
use Rattle.std.specs.Prelude.{Option, Some, None, Result, Ok, Err, map, ◌++◌, if◌then◌else◌, take, codes}
use Rattle.std.specs.Option.{option_map}
use Rattle.std.specs.Str.{bytes_eq}
use Rattle.modlex.specs.declared.lexer.TokenKind.{TokenKind}
use Rattle.modlex.specs.declared.lexer.TokenKind.TheVariants.{Name, Quoted, Raw, Arrow, Comma, ParenLeft, ParenRight}
use Rattle.modlex.specs.declared.lexer.TokenKind.TheVariants.{BracketLeft, BracketRight}
use Rattle.modlex.specs.declared.lexer.Span.{Span}
use Rattle.modlex.specs.declared.lexer.Token.{Token}
use Rattle.modlex.specs.declared.lexer.TokenFault.{TokenFault}
use Rattle.modlex.specs.declared.lexer.TokenFault.TheVariants as faults
use Rattle.modlex.specs.Lines.{lines}
use Rattle.modlex.specs.Bytes.{is_blank, is_name_byte, is_slash_and, quoted_len, raw_len, name_len}

-- a run of name bytes is the arrow if it is `=>`, and otherwise a name
abbrev pub name_kind : List ℕ → TokenKind
name_kind name = if bytes_eq name (codes "=>") then Arrow else Name

-- punctuation is a token by itself
abbrev pub punctuation_kind : ℕ → Option TokenKind
punctuation_kind b =
    if b == 40 then Some ParenLeft
    else (if b == 41 then Some ParenRight
    else (if b == 91 then Some BracketLeft
    else (if b == 93 then Some BracketRight
    else (if b == 44 then Some Comma
    else None))))

-- the word or arrow at the front: its kind and its length
abbrev pub word_at : ℕ → List ℕ → Option (TokenKind × ℕ)
word_at b bs =
    if b == 34 then option_map (λ n. (Quoted, n + 1)) (quoted_len false bs)
    else (if b == 96 then option_map (λ n. (Raw, n + 1)) (raw_len bs)
    else (if not (is_name_byte b) || is_slash_and 42 b bs then None
    else option_map (λ n. (name_kind (b ∷ take n bs), n + 1)) (name_len bs)))

-- the kind and the length of the token at the front, which is neither a blank nor a comment
unfoldable pub lexeme_at : List ℕ → Option (TokenKind × ℕ)
lexeme_at [] = None
lexeme_at (b ∷ bs) = elim (punctuation_kind b) [ Some k ↦ Some (k, 1) | None ↦ word_at b bs ]

-- a token without where its text lies in memory
pub record Lexeme : Type 0 where
  pub kind : TokenKind
  pub line : ℕ
  pub span : Span
  pub text : List ℕ

abbrev pub view : Token → Lexeme
view t = record { kind = t.kind; line = t.line; span = t.span; text = t.text.now }

abbrev pub views : List Token → List Lexeme
views = map view

-- the lexeme of this kind and this text at an offset
abbrev pub lexeme : TokenKind → ℕ → ℕ → List ℕ → Lexeme
lexeme kind line at text =
    record { kind = kind; line = line; span = record { start = at; end = at + length text }; text = text }

-- tokens, and then the tokens read after them, or the fault found there
abbrev pub tokens_then : List Lexeme → Result (List Lexeme) TokenFault → Result (List Lexeme) TokenFault
tokens_then front (Ok ts) = Ok (front ++ ts)
tokens_then front (Err e) = Err e

-- the tokens of the rest of a line, whose first `skipped` bytes belong to a token that has been read
abbrev pub tokens_behind : ℕ → ℕ → ℕ → List ℕ → Result (List Lexeme) TokenFault
tokens_behind skipped line at [] = Ok []
tokens_behind (suc skipped) line at (b ∷ bs) = tokens_behind skipped line (at + 1) bs
tokens_behind zero line at (b ∷ bs) =
    if is_blank b then tokens_behind 0 line (at + 1) bs
    else (if is_slash_and 47 b bs then Ok []
    else elim (lexeme_at (b ∷ bs)) [
      | None ↦ Err (faults.Lex line)
      | Some x ↦ tokens_then (lexeme x.0 line at (take x.1 (b ∷ bs)) ∷ []) (tokens_behind (x.1 - 1) line (at + 1) bs)
    ])

-- the tokens of a line, by its number, its offset in the text and its bytes
abbrev pub line_tokens : ℕ → ℕ → List ℕ → Result (List Lexeme) TokenFault
line_tokens line at bytes = tokens_behind 0 line at bytes

-- the first of the tokens read, at most `most`
abbrev pub first_of : ℕ → Result (List Lexeme) TokenFault → Result (List Lexeme) TokenFault
first_of most (Ok ts) = Ok (take most ts)
first_of most (Err e) = Err e

-- the tokens of lines, the first of which has the number `line` and begins at `at`
abbrev pub lines_tokens : ℕ → ℕ → List (List ℕ) → Result (List Lexeme) TokenFault
lines_tokens line at [] = Ok []
lines_tokens line at (l ∷ ls) = elim (line_tokens line at l) [
  | Err e ↦ Err e
  | Ok ts ↦ tokens_then ts (lines_tokens (line + 1) (at + length l + 1) ls)
]

abbrev pub text_tokens : List ℕ → Result (List Lexeme) TokenFault
text_tokens text = lines_tokens 1 0 (lines text)

-- a function failed as the definition does, or memory ran out
abbrev pub Fails : {Y : Type 0} → TokenFault → Result Y TokenFault → Type 0
Fails faults.Memory read = Unit {0}
Fails (faults.Lex line) read = read ≡ Err (faults.Lex line)

-- a function returned what the definition gives, seen through `view`, or failed as it does, or memory ran out
abbrev pub Gives : {X Y : Type 0} → (X → Y) → Result X TokenFault → Result Y TokenFault → Type 0
Gives view (Ok x) read = read ≡ Ok (view x)
Gives view (Err e) read = Fails e read
