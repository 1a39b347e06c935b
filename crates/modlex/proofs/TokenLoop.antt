-- The loop over a line, and what one turn keeps of it.
use Rattle.std.proofs.Common.{◌≡◌, ℕ, zero, suc, ◌+◌, ◌-◌, ◌<◌, ◌≤◌, true, false, List, [], ◌∷◌, ◌++◌, length, take}
use Rattle.std.proofs.Common.{drop, get_or}
use Rattle.std.proofs.Common.{arith, sym, ap, ◌∙◌, refl, length-drop, length-take-le, append_assoc, Some, None, Result}
use Rattle.std.proofs.Common.{Ok, Err}
use Rattle.modlex.specs.Bytes.{is_blank, is_slash_and}
use denote.Text.{Utf8}
use denote.Shadow.{shadow}
use Rattle.modlex.specs.declared.lexer.TokenFault.TheVariants as faults
use Rattle.modlex.specs.declared.lexer.TokenKind.{TokenKind}
use Rattle.modlex.specs.declared.lexer.TokenFault.{TokenFault}
use Rattle.modlex.specs.Lexer.{Lexeme, lexeme, lexeme_at, tokens_then, tokens_behind, first_of, lines_tokens}
use Rattle.modlex.specs.Lexer.{text_tokens}
use Rattle.modlex.specs.Lines.{lines}

-- what has been read is stepped over
pub tokens_behind-skipped : (k line at : ℕ) (bs : List ℕ)
    → tokens_behind k line at bs ≡ tokens_behind 0 line (at + k) (drop k bs)
tokens_behind-skipped zero line at [] = refl
tokens_behind-skipped zero line at (b ∷ bs) = let e : at ≡ at + 0 = omega arith in
    ap (λ n. tokens_behind 0 line n (b ∷ bs)) e
tokens_behind-skipped (suc k) line at [] = refl
tokens_behind-skipped (suc k) line at (b ∷ bs) =
    let e : at + 1 + k ≡ at + suc k = omega arith in
    tokens_behind-skipped k line (at + 1) bs ∙ ap (λ n. tokens_behind 0 line n (drop k bs)) e

pub tokens_then-tokens_then : (xs ys : List Lexeme) (r : Result (List Lexeme) TokenFault)
    → tokens_then (xs ++ ys) r ≡ tokens_then xs (tokens_then ys r)
tokens_then-tokens_then xs ys (Ok ts) = ap (λ l. Ok l) (append_assoc xs ys ts)
tokens_then-tokens_then xs ys (Err e) = refl

-- a token and what stands behind it
pub tokens_behind-token : (line at b : ℕ) (bs : List ℕ) (kind : TokenKind) (n : ℕ) → is_blank b ≡ false
    → is_slash_and 47 b bs ≡ false → lexeme_at (b ∷ bs) ≡ Some (kind, n)
    → 0 < n → tokens_behind 0 line at (b ∷ bs)
    ≡ tokens_then (lexeme kind line at (take n (b ∷ bs)) ∷ []) (tokens_behind 0 line (at + n) (drop n (b ∷ bs)))
tokens_behind-token line at b bs kind zero no_blank no_comment found positive = absurd (omega arith)
tokens_behind-token line at b bs kind (suc m) no_blank no_comment found positive =
    let pred : suc m - 1 ≡ m = omega arith in
    let there : at + 1 + m ≡ at + suc m = omega arith in
    simp (no_blank, no_comment, found, pred)
    (ap (tokens_then (lexeme kind line at (take (suc m) (b ∷ bs)) ∷ []))
    (tokens_behind-skipped m line (at + 1) bs ∙ ap (λ k. tokens_behind 0 line k (drop m bs)) there))

-- the tokens from a token on, whose first byte is read by its index
pub tokens_behind-token_at : (line at : ℕ) (bytes : List ℕ) (kind : TokenKind) (n : ℕ) → 0 < length bytes
    → is_blank (get_or bytes 0 0) ≡ false → is_slash_and 47 (get_or bytes 0 0) (drop 1 bytes) ≡ false
    → lexeme_at bytes ≡ Some (kind, n) → 0 < n
    → tokens_behind 0 line at bytes
    ≡ tokens_then (lexeme kind line at (take n bytes) ∷ []) (tokens_behind 0 line (at + n) (drop n bytes))
tokens_behind-token_at line at [] kind n some no_blank no_comment found positive = absurd (omega arith)
tokens_behind-token_at line at (b ∷ bs) kind n some no_blank no_comment found positive =
    tokens_behind-token line at b bs kind n no_blank no_comment found positive

-- a line that begins with no token
pub tokens_behind-none : (line at b : ℕ) (bs : List ℕ) → is_blank b ≡ false → is_slash_and 47 b bs ≡ false
    → lexeme_at (b ∷ bs) ≡ None → tokens_behind 0 line at (b ∷ bs) ≡ Err (faults.Lex line)
tokens_behind-none line at b bs no_blank no_comment found = simp (no_blank, no_comment, found)

pub tokens_behind-blank : (line at b : ℕ) (bs : List ℕ) → is_blank b ≡ true
    → tokens_behind 0 line at (b ∷ bs) ≡ tokens_behind 0 line (at + 1) bs
tokens_behind-blank line at b bs blank = simp blank

pub tokens_behind-comment : (line at b : ℕ) (bs : List ℕ) → is_blank b ≡ false → is_slash_and 47 b bs ≡ true
    → tokens_behind 0 line at (b ∷ bs) ≡ Ok []
tokens_behind-comment line at b bs no_blank comment = simp (no_blank, comment)

-- of the first ones, no more than the first in front count
take-take_append : (n : ℕ) (xs ys : List Lexeme) → take n (take n xs ++ ys) ≡ take n (xs ++ ys)
take-take_append zero xs ys = refl
take-take_append (suc n) [] ys = refl
take-take_append (suc n) (x ∷ xs) ys = ap (λ l. x ∷ l) (take-take_append n xs ys)

pub first_of-take : (n : ℕ) (xs : List Lexeme) (r : Result (List Lexeme) TokenFault)
    → first_of n (tokens_then (take n xs) r) ≡ first_of n (tokens_then xs r)
first_of-take n xs (Ok ts) = ap (λ l. Ok l) (take-take_append n xs ts)
first_of-take n xs (Err e) = refl

-- what holds in the loop: the first of the tokens so far, and those of the rest, begin as those of the line
pub record ReadsOn (line start : ℕ) (text : List ℕ) (most : ℕ) (out : List Lexeme) (at : ℕ) (rest : List ℕ) : Type 0
  where
    pub reads : first_of most (tokens_then out (tokens_behind 0 line at rest))
        ≡ first_of most (tokens_behind 0 line start text)
    pub room : at + length rest ≡ start + length text
    pub utf8 : shadow (Utf8 rest)

-- a token joins those so far, if it is one of the first
pub ReadsOn-token : {line start most at : ℕ} {text rest : List ℕ} {out : List Lexeme} (behind token : List ℕ)
    (kind : TokenKind) (n : ℕ)
    → ReadsOn line start text most out at rest → (0 < n) × (n ≤ length rest) → is_blank (get_or rest 0 0) ≡ false
    → is_slash_and 47 (get_or rest 0 0) (drop 1 rest) ≡ false
    → lexeme_at rest ≡ Some (kind, n) → token ≡ take n rest → behind ≡ drop n rest → shadow (Utf8 behind)
    → (more : List Lexeme)
    → more ≡ take most (out ++ record {
      kind = kind;
      line = line;
      span = record { start = at; end = at + n };
      text =
          token;
    } ∷ []) → ReadsOn line start text most more (at + n) behind
ReadsOn-token {line = line} {start = start} {most = most} {at = at} {text = text} {rest = rest} {out = out}
    behind token kind n before within no_blank no_comment found token_is behind_is utf8 more more_is =
    let len : length token ≡ n = ap length token_is ∙ length-take-le n rest within.1 in
    let step = tokens_behind-token_at line at rest kind n (omega (arith, within)) no_blank no_comment found within.0 in
    let this : List Lexeme =
    record { kind = kind; line = line; span = record { start = at; end = at + n }; text = token } ∷ [] in
    let same : lexeme kind line at (take n rest) ∷ [] ≡ this =
    ap (λ t. lexeme kind line at t ∷ []) (sym token_is)
    ∙ ap (λ m. record { kind = kind; line = line; span = record { start = at; end = at + m }; text = token } ∷ [])
    len in
    let left = tokens_behind 0 line (at + n) behind in
    let all : tokens_then (out ++ this) left ≡ tokens_then out (tokens_behind 0 line at rest) =
    tokens_then-tokens_then out this left
    ∙ ap (tokens_then out) (ap (λ l. tokens_then this (tokens_behind 0 line (at + n) l)) behind_is
    ∙ ap (λ t. tokens_then t (tokens_behind 0 line (at + n) (drop n rest))) (sym same) ∙ sym step) in
    record {
      reads = ap (λ l. first_of most (tokens_then l left)) more_is ∙ first_of-take most (out ++ this) left
          ∙ ap (first_of most) all ∙ before.reads;
      room = omega (arith, ap length behind_is, length-drop n rest, before.room, within);
      utf8 = utf8;
    }

-- what holds in the loop over the lines: the tokens so far, and those of the lines that are left, are those of the text
pub record ReadsLines (text : List ℕ) (out : List Lexeme) (number start : ℕ) (rest : List ℕ) : Type 0 where
  pub reads : tokens_then out (lines_tokens number start (lines rest)) ≡ text_tokens text
  pub room : start + length rest ≡ length text
  pub count : number ≤ start + 1
  pub utf8 : shadow (Utf8 rest)
