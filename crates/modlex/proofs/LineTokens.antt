-- The tokens that are computed of a line, its fault, and the same tokens at another offset.
use Rattle.std.proofs.Common.{◌≡◌, ℕ, zero, suc, ◌+◌, ◌-◌, ◌≤◌, take, List, [], ◌∷◌, map, length, refl, ap, arith}
use Rattle.std.proofs.Common.{Option, Some, None, Result, Ok, Err, ◌⊎◌, inl, inr, ⊎_elim}
use Rattle.modlex.specs.declared.lexer.TokenKind.{TokenKind}
use Rattle.modlex.specs.declared.lexer.TokenFault.{TokenFault}
use Rattle.modlex.specs.declared.lexer.TokenFault.TheVariants as token_faults
use Rattle.modlex.specs.Bytes.{is_blank, is_slash_and}
use Rattle.modlex.specs.Lexer.{Lexeme, lexeme, lexeme_at, line_tokens, first_of, tokens_behind, tokens_then}
use Rattle.modlex.specs.Tokens.{AreTokens}
use Rattle.modlex.specs.Symbols.{symbol_of}
use Rattle.modlex.proofs.TokenSound.{chosen, after_one, tokens_behind-sound}
use Rattle.std.proofs.lemmas.List.{take_all}

-- tokens of the same kinds and texts as `ts`, on line `line` at `at`
pub record Moved (line at : ℕ) (bytes : List ℕ) (ts : List Lexeme) : Type 0 where
  pub tokens : List Lexeme
  pub are : AreTokens line at bytes tokens
  pub same : map symbol_of tokens ≡ map symbol_of ts

pub moved : (line at n offset : ℕ) (bytes : List ℕ) (ts : List Lexeme) → AreTokens line at bytes ts
    → Moved n offset bytes ts
moved line at n offset bytes [] h = record { tokens = []; are = h; same = refl }
moved line at n offset bytes (t ∷ ts) h =
    let more = moved line (at + length h.0 + length t.text) n (offset + length h.0 + length t.text) h.1 ts h.6 in
    record {
      tokens = lexeme t.kind n (offset + length h.0) t.text ∷ more.tokens;
      are = (h.0, h.1, h.2, h.3, h.4, refl, more.are);
      same = ap (λ l. symbol_of t ∷ l) more.same;
    }

pub tokens_are : (line at : ℕ) (l : List ℕ) (ts : List Lexeme) → line_tokens line at l ≡ Ok ts → AreTokens line at l ts
tokens_are line at l ts h = tokens_behind-sound (length l) line at l ts (omega arith) h

-- the lexer's only fault is that of its line
after_fault : (front : List Lexeme) (r : Result (List Lexeme) TokenFault) (e : TokenFault) → tokens_then front r ≡ Err e
    → r ≡ Err e
after_fault front (Ok ts) e h = cc
after_fault front (Err d) e h = h

found_fault : (line at b : ℕ) (bs : List ℕ) (e : TokenFault) (o : Option (TokenKind × ℕ))
    → ((k : ℕ) → tokens_behind k line (at + 1) bs ≡ Err e → e ≡ token_faults.Lex line)
    → ◌≡◌ {A = Result (List Lexeme) TokenFault}
    (elim o [
      | None ↦ Err (token_faults.Lex line)
      | Some x ↦ tokens_then (lexeme x.0 line at (take x.1 (b ∷ bs)) ∷ []) (tokens_behind (x.1 - 1) line (at + 1) bs)
    ]) (Err e) → e ≡ token_faults.Lex line
found_fault line at b bs e None below h = cc
found_fault line at b bs e (Some x) below h =
    below (x.1 - 1) (after_fault (lexeme x.0 line at (take x.1 (b ∷ bs)) ∷ []) _ e h)

-- a fault of a line is that the line with this number cannot be split into tokens
pub tokens_fault : (skipped line at : ℕ) (bs : List ℕ) (e : TokenFault) → tokens_behind skipped line at bs ≡ Err e
    → e ≡ token_faults.Lex line
tokens_fault skipped line at [] e h = cc
tokens_fault (suc skipped) line at (b ∷ bs) e h = tokens_fault skipped line (at + 1) bs e h
tokens_fault zero line at (b ∷ bs) e h =
    ⊎_elim
    (λ blank. tokens_fault 0 line (at + 1) bs e blank.1)
    (λ solid. ⊎_elim
    (λ comment. (let bad = comment.1 in cc))
    (λ token. found_fault line at b bs e (lexeme_at (b ∷ bs)) (λ k. tokens_fault k line (at + 1) bs e) token.1)
    (chosen (is_slash_and 47 b bs) _ _ _ solid.1))
    (chosen (is_blank b) _ _ _ h)

-- a line has tokens or a fault
pub ok_or_fault : (r : Result (List Lexeme) TokenFault)
    → ((ts : List Lexeme) × (r ≡ Ok ts)) ⊎ ((e : TokenFault) × (r ≡ Err e))
ok_or_fault (Ok ts) = inl (ts, refl)
ok_or_fault (Err e) = inr (e, refl)

-- a line has no more tokens than bytes
none_few : (n : ℕ) (ts : List Lexeme) → ◌≡◌ {A = Result (List Lexeme) TokenFault} (Ok []) (Ok ts) → length ts ≤ n
none_few n [] h = omega arith
none_few n (t ∷ ts) h = cc

found_few : (line at b : ℕ) (bs : List ℕ) (ts : List Lexeme) (o : Option (TokenKind × ℕ))
    → ((k : ℕ) (us : List Lexeme) → tokens_behind k line (at + 1) bs ≡ Ok us → length us ≤ length bs)
    → ◌≡◌ {A = Result (List Lexeme) TokenFault} (elim o [
      | None ↦ Err (token_faults.Lex line)
      | Some x ↦ tokens_then (lexeme x.0 line at (take x.1 (b ∷ bs)) ∷ []) (tokens_behind (x.1 - 1) line (at + 1) bs)
    ]) (Ok ts) → length ts ≤ length (b ∷ bs)
found_few line at b bs ts None below h = cc
found_few line at b bs ts (Some x) below h =
    let more = after_one (lexeme x.0 line at (take x.1 (b ∷ bs))) _ ts h in
    omega (arith, below (x.1 - 1) more.0 more.1, ap length more.2)

-- a line has at most as many tokens as bytes
tokens_few : (skipped line at : ℕ) (bs : List ℕ) (ts : List Lexeme) → tokens_behind skipped line at bs ≡ Ok ts
    → length ts ≤ length bs
tokens_few zero line at [] ts h = none_few 0 ts h
tokens_few (suc skipped) line at [] ts h = none_few 0 ts h
tokens_few (suc skipped) line at (b ∷ bs) ts h = omega (arith, tokens_few skipped line (at + 1) bs ts h)
tokens_few zero line at (b ∷ bs) ts h =
    ⊎_elim
    (λ blank. omega (arith, tokens_few 0 line (at + 1) bs ts blank.1))
    (λ solid. ⊎_elim
    (λ comment. none_few (length (b ∷ bs)) ts comment.1)
    (λ token. found_few line at b bs ts (lexeme_at (b ∷ bs)) (λ k us. tokens_few k line (at + 1) bs us) token.1)
    (chosen (is_slash_and 47 b bs) _ _ _ solid.1))
    (chosen (is_blank b) _ _ _ h)

-- as many of the first as there are bytes are all
all_of : (n : ℕ) (r : Result (List Lexeme) TokenFault) → ((ts : List Lexeme) → r ≡ Ok ts → length ts ≤ n)
    → first_of n r ≡ r
all_of n (Ok ts) few = ap (λ l. Ok l) (take_all n ts (few ts refl))
all_of n (Err e) few = refl

pub first_of-all : (line at : ℕ) (bytes : List ℕ)
    → first_of (length bytes) (line_tokens line at bytes) ≡ line_tokens line at bytes
first_of-all line at bytes = all_of (length bytes) (line_tokens line at bytes) (tokens_few 0 line at bytes)
