-- What a line says is what its tokens say, and its fault is computed.
use Rattle.std.proofs.Common.{◌≡◌, ℕ, ◌+◌, List, [], ◌∷◌, map, length, refl, ap, sym, ◌∙◌, subst, Option, Result, Ok}
use Rattle.std.proofs.Common.{Err, inl, inr, ⊎_elim}
use Rattle.std.specs.List.{AllByRecursion}
use Rattle.modlex.specs.declared.lexer.TokenFault.{TokenFault}
use Rattle.modlex.specs.declared.lexer.TokenFault.TheVariants as token_faults
use Rattle.gomod.specs.declared.fault.GoModFault.{GoModFault}
use Rattle.gomod.specs.declared.fault.GoModFault.TheVariants as faults
use Rattle.modlex.specs.Lexer.{Lexeme, line_tokens}
use Rattle.modlex.specs.Tokens.{AreTokens, IsLexeme}
use Rattle.modlex.specs.Symbols.{symbol_of}
use Rattle.gomod.specs.Keywords.{Keywords}
use Rattle.gomod.specs.Reading.{Context, Contents, ◌>>=◌, as_reader, line_says, bytes_say}
use Rattle.gomod.specs.Grammar.{Directive, OpenBlock}
use Rattle.gomod.specs.Faults.{IsLineFault}
use Rattle.gomod.proofs.Steps.{bound, fails}
use Rattle.modlex.proofs.TokenLaw.{tokens_behind-all}
use Rattle.modlex.proofs.LineTokens.{moved, tokens_are, tokens_fault, ok_or_fault}
use Rattle.gomod.proofs.Contexts.{context_at, IsAlone}
use Rattle.gomod.proofs.LineLaw.{IsPlain}
use Rattle.gomod.proofs.RowFaults.{says_fault}
use Rattle.gomod.proofs.OneFault.{fault_says}

-- parentheses are spelled as themselves
pub tokens_plain : (line at : ℕ) (bytes : List ℕ) (ts : List Lexeme) → AreTokens line at bytes ts
    → AllByRecursion IsPlain (map symbol_of ts)
tokens_plain line at bytes [] h = tt
tokens_plain line at bytes (t ∷ ts) h = (
  (λ is. subst (λ k. IsLexeme k t.text h.1) is h.3, λ is. subst (λ k. IsLexeme k t.text h.1) is h.3),
  tokens_plain line (at + length h.0 + length t.text) h.1 ts h.6,
)

-- a line with tokens says what they say
pub bytes_say-tokens : (known : Keywords) (line at : ℕ) (c : Context) (l : List ℕ) (ts : List Lexeme)
    → AreTokens line at l ts → bytes_say known line c l ≡ line_says known line c (map symbol_of ts)
unfolding bytes_say
bytes_say-tokens known line at c l ts h =
    let at_front = moved line at line 0 l ts h in
    ap (λ r. as_reader r >>= (λ us. line_says known line c (map symbol_of us)))
    (tokens_behind-all line 0 l at_front.tokens at_front.are)
    ∙ ap (line_says known line c) at_front.same

read_ok : (r : Result (List Lexeme) TokenFault) (ts : List Lexeme) → as_reader r ≡ Ok ts → r ≡ Ok ts
read_ok (Ok us) ts h = ap (λ k. Ok k) (let same : us ≡ ts = cc in same)
read_ok (Err (token_faults.Lex n)) ts h = cc
read_ok (Err token_faults.Memory) ts h = cc

-- a line that reads has tokens
pub bytes_ok : (known : Keywords) (line at : ℕ) (c : Context) (l : List ℕ) (x : Context × Contents)
    → bytes_say known line c l ≡ Ok x
    → (ts : List Lexeme) × AreTokens line at l ts × (line_says known line c (map symbol_of ts) ≡ Ok x)
unfolding bytes_say
bytes_ok known line at c l x h =
    let b = bound (as_reader (line_tokens line 0 l)) (λ ts. line_says known line c (map symbol_of ts)) x h in
    let there = moved line 0 line at l b.0 (tokens_are line 0 l b.0 (read_ok (line_tokens line 0 l) b.0 b.1)) in
    (there.tokens, there.are, ap (line_says known line c) there.same ∙ b.2)

reader_fault : (line : ℕ) (r : Result (List Lexeme) TokenFault) (f : GoModFault)
    → ((e : TokenFault) → r ≡ Err e → e ≡ token_faults.Lex line)
    → as_reader r ≡ Err f → (r ≡ Err (token_faults.Lex line)) × (f ≡ faults.Lex line)
reader_fault line (Ok ts) f only h = cc
reader_fault line (Err (token_faults.Lex n)) f only h =
    let same = only (token_faults.Lex n) refl in (ap (λ e. Err e) same, (let number : n ≡ line = cc in cc))
reader_fault line (Err token_faults.Memory) f only h = let same = only token_faults.Memory refl in cc

no_tokens : (line : ℕ) (l : List ℕ) (e : TokenFault) → line_tokens line 0 l ≡ Err e → (ts : List Lexeme)
    → ¬ AreTokens line 0 l ts
no_tokens line l e h ts are = let some = tokens_behind-all line 0 l ts are in cc

-- the fault of a line is computed, and what is computed is its fault
pub bytes_fault : (known : Keywords) (line : ℕ) (ds : List Directive) (o : Option OpenBlock) (l : List ℕ)
    (f : GoModFault)
    → IsAlone ds o → bytes_say known line (context_at ds o) l ≡ Err f → IsLineFault known ds o line l f
unfolding bytes_say
bytes_fault known line ds o l f alone h =
    ⊎_elim
    (λ lex.
    let x = reader_fault line (line_tokens line 0 l) f (λ e. tokens_fault 0 line 0 l e) lex in
    inl (no_tokens line l (token_faults.Lex line) x.0, x.1))
    (λ x.
    let are = tokens_are line 0 l x.0 (read_ok (line_tokens line 0 l) x.0 x.1) in
    inr (x.0, are, says_fault known line ds o (map symbol_of x.0) f alone x.2))
    (fails (as_reader (line_tokens line 0 l)) (λ ts. line_says known line (context_at ds o) (map symbol_of ts)) f h)

-- the fault of a line is the fault that reading its bytes finds
pub fault_bytes : (known : Keywords) (line : ℕ) (ds : List Directive) (o : Option OpenBlock) (l : List ℕ)
    (f : GoModFault)
    → IsAlone ds o → IsLineFault known ds o line l f → bytes_say known line (context_at ds o) l ≡ Err f
unfolding bytes_say
fault_bytes known line ds o l f alone h =
    ⊎_elim
    (λ lex. ⊎_elim
    (λ x. absurd (lex.0 x.0 (tokens_are line 0 l x.0 x.1)))
    (λ x.
    let is = x.1 ∙ ap (λ e. Err e) (tokens_fault 0 line 0 l x.0 x.1) in
    ap (λ r. as_reader r >>= (λ us. line_says known line (context_at ds o) (map symbol_of us))) is
    ∙ ap (λ e. Err e) (sym lex.1))
    (ok_or_fault (line_tokens line 0 l)))
    (λ row. bytes_say-tokens known line 0 (context_at ds o) l row.0 row.1
    ∙ fault_says known line ds o (map symbol_of row.0) f alone (tokens_plain line 0 l row.0 row.1) row.2)
    h
