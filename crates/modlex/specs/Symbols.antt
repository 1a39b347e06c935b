-- The tokens of a line without their lines and spans.
use Rattle.std.specs.Prelude.{ℕ, Bool, true, false, List, map}
use Rattle.modlex.specs.declared.lexer.TokenKind.{TokenKind}
use Rattle.modlex.specs.declared.lexer.TokenKind.TheVariants as kinds
use Rattle.modlex.specs.declared.lexer.Token.{Token}
use Rattle.modlex.specs.Lexer.{Lexeme, view, views}

-- a token without its line and span
pub record Symbol : Type 0 where
  pub kind : TokenKind
  pub text : List ℕ

abbrev pub symbol_of : Lexeme → Symbol
symbol_of t = record { kind = t.kind; text = t.text }

abbrev pub symbol : Token → Symbol
symbol t = symbol_of (view t)

abbrev pub symbols : List Token → List Symbol
symbols ts = map symbol_of (views ts)

-- names and strings are words
abbrev pub is_word_kind : TokenKind → Bool
is_word_kind kinds.Name = true
is_word_kind kinds.Quoted = true
is_word_kind kinds.Raw = true
is_word_kind _ = false

abbrev pub is_word : Symbol → Bool
is_word t = is_word_kind t.kind

abbrev pub is_name_kind : TokenKind → Bool
is_name_kind kinds.Name = true
is_name_kind _ = false

abbrev pub is_arrow_kind : TokenKind → Bool
is_arrow_kind kinds.Arrow = true
is_arrow_kind _ = false
