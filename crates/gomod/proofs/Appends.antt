-- Lines behind lines.
use Rattle.std.proofs.Common.{◌≡◌, ℕ, ◌+◌, List, [], ◌∷◌, ◌++◌, map, length, refl, ap, sym, ◌∙◌, subst, arith, Result}
use Rattle.std.proofs.Common.{Ok, Err}
use Rattle.gomod.specs.declared.fault.GoModFault.{GoModFault}
use Rattle.modlex.specs.Lexer.{Lexeme}
use Rattle.modlex.specs.Symbols.{Symbol, symbol_of}
use Rattle.gomod.specs.Keywords.{Keywords}
use Rattle.modlex.specs.Tokens.{AreTokens, AreTokensOf}
use Rattle.gomod.specs.Grammar.{row, rows_from}
use Rattle.gomod.specs.Reads.{rows_of_tokens}
use Rattle.gomod.specs.Reading.{Context, Contents, nothing, ◌⊕◌, ◌>>=◌, bytes_say, lines_say}
use Rattle.gomod.proofs.Lists.{map-join}
use Rattle.gomod.proofs.Pass.{join_assoc, join_start}

abbrev Said : Type 0
Said = Result (Context × Contents) GoModFault

-- what lines say, and what those behind them say
abbrev pub joined : Said → (Context → Said) → Said
joined r next = r >>= (λ x. next x.0 >>= (λ y. Ok (y.0, x.1 ⊕ y.1)))

-- what lines say, behind these contents
abbrev with_contents : Contents → Said → Said
with_contents p r = r >>= (λ y. Ok (y.0, p ⊕ y.1))

with_nothing : (r : Said) → r ≡ with_contents nothing r
with_nothing (Ok y) = ap (λ p. Ok (y.0, p)) (sym (join_start y.1))
with_nothing (Err e) = refl

with_both : (p q : Contents) (r : Said) → with_contents p (with_contents q r) ≡ with_contents (p ⊕ q) r
with_both p q (Ok y) = ap (λ z. Ok (y.0, z)) (join_assoc p q y.1)
with_both p q (Err e) = refl

with_joined : (p : Contents) (s : Said) (next : Context → Said)
    → with_contents p (joined s next) ≡ joined (with_contents p s) next
with_joined p (Ok x) next = with_both p x.1 (next x.0)
with_joined p (Err e) next = refl

pub joined-joined : (r : Said) (f g : Context → Said) → joined r (λ c. joined (f c) g) ≡ joined (joined r f) g
joined-joined (Ok x) f g = with_joined x.1 (f x.0) g
joined-joined (Err e) f g = refl

-- the lines of two lists say what those of the first say and then those of the second, from the line and the context
-- behind them
pub lines_say-append : (known : Keywords) (line : ℕ) (c : Context) (ls ms : List (List ℕ))
    → lines_say known line c (ls ++ ms)
    ≡ joined (lines_say known line c ls) (λ d. lines_say known (line + length ls) d ms)
lines_say-append known line c [] ms =
    let here : line ≡ line + 0 = omega arith in
    ap (λ n. lines_say known n c ms) here ∙ with_nothing (lines_say known (line + 0) c ms)
lines_say-append known line c (l ∷ ls) ms =
    let number : line + 1 + length ls ≡ line + length (l ∷ ls) = omega arith in
    ap (joined (bytes_say known line c l)) (λ i d. lines_say-append known (line + 1) d ls ms i)
    ∙ joined-joined (bytes_say known line c l) (λ d. lines_say known (line + 1) d ls)
    (λ d. lines_say known (line + 1 + length ls) d ms)
    ∙ ap (λ n. joined (lines_say known line c (l ∷ ls)) (λ d. lines_say known n d ms)) number

-- the position behind lines
abbrev pub position_behind : ℕ → List (List ℕ) → ℕ
position_behind at [] = at
position_behind at (l ∷ ls) = position_behind (at + length l + 1) ls

pub tokens_of-append : (line at : ℕ) (ls : List (List ℕ)) (tss : List (List Lexeme)) (l : List ℕ) (ts : List Lexeme)
    → AreTokensOf line at ls tss → AreTokens (line + length ls) (position_behind at ls) l ts
    → AreTokensOf line at (ls ++ l ∷ []) (tss ++ ts ∷ [])
tokens_of-append line at [] [] l ts h k = let here : line + 0 ≡ line = omega arith in
    (subst (λ n. AreTokens n at l ts) here k, tt)
tokens_of-append line at [] (t ∷ tss) l ts h k = absurd h
tokens_of-append line at (m ∷ ls) [] l ts h k = absurd h
tokens_of-append line at (m ∷ ls) (us ∷ tss) l ts h k =
    let number : line + length (m ∷ ls) ≡ line + 1 + length ls = omega arith in (
      h.0,
      tokens_of-append (line + 1) (at + length m + 1) ls tss l ts h.1
          (subst (λ n. AreTokens n (position_behind at (m ∷ ls)) l ts) number k),
    )

-- there are as many lists of tokens as lines
pub tokens_of-length : (line at : ℕ) (ls : List (List ℕ)) (tss : List (List Lexeme)) → AreTokensOf line at ls tss
    → length tss ≡ length ls
tokens_of-length line at [] [] h = refl
tokens_of-length line at [] (t ∷ tss) h = absurd h
tokens_of-length line at (l ∷ ls) [] h = absurd h
tokens_of-length line at (l ∷ ls) (ts ∷ tss) h = let more =
    tokens_of-length (line + 1) (at + length l + 1) ls tss h.1 in omega (arith, more)

-- the tokens of the last line, and of those before it
pub record LastTokens (line at : ℕ) (ls : List (List ℕ)) (l : List ℕ) (tss : List (List Lexeme)) : Type 0 where
  pub front : List (List Lexeme)
  pub last : List Lexeme
  pub is : tss ≡ front ++ last ∷ []
  pub above : AreTokensOf line at ls front
  pub here : AreTokens (line + length ls) (position_behind at ls) l last

-- the tokens of lines are those of all but the last and then those of the last
pub tokens_of-last : (line at : ℕ) (ls : List (List ℕ)) (l : List ℕ) (tss : List (List Lexeme))
    → AreTokensOf line at (ls ++ l ∷ []) tss → LastTokens line at ls l tss
tokens_of-last line at [] l [] h = absurd h
tokens_of-last line at [] l (ts ∷ []) h =
    let there : line ≡ line + 0 = omega arith in
    record { front = []; last = ts; is = refl; above = tt; here = subst (λ n. AreTokens n at l ts) there h.0 }
tokens_of-last line at [] l (ts ∷ us ∷ tss) h = absurd h.1
tokens_of-last line at (m ∷ ls) l [] h = absurd h
tokens_of-last line at (m ∷ ls) l (ts ∷ tss) h =
    let more = tokens_of-last (line + 1) (at + length m + 1) ls l tss h.1 in
    let number : line + 1 + length ls ≡ line + length (m ∷ ls) = omega arith in
    record {
      front = ts ∷ more.front;
      last = more.last;
      is = ap (λ x. ts ∷ x) more.is;
      above = (h.0, more.above);
      here = subst (λ n. AreTokens n (position_behind at (m ∷ ls)) l more.last) number more.here;
    }

rows_from-append : (line : ℕ) (xs : List (List Symbol)) (x : List Symbol)
    → rows_from line (xs ++ x ∷ []) ≡ rows_from line xs ++ row (line + length xs) x ∷ []
rows_from-append line [] x = let here : line ≡ line + 0 = omega arith in ap (λ n. row n x ∷ []) here
rows_from-append line (y ∷ xs) x =
    let number : line + 1 + length xs ≡ line + length (y ∷ xs) = omega arith in
    ap (λ l. row line y ∷ l)
    (rows_from-append (line + 1) xs x ∙ ap (λ n. rows_from (line + 1) xs ++ row n x ∷ []) number)

length-mapped : {A B : Type 0} (f : A → B) (xs : List A) → length (map f xs) ≡ length xs
length-mapped f [] = refl
length-mapped f (x ∷ xs) = let more = length-mapped f xs in omega (arith, more)

pub rows_of-append : (n : ℕ) (tss : List (List Lexeme)) (ts : List Lexeme) → length tss ≡ n
    → rows_of_tokens (tss ++ ts ∷ []) ≡ rows_of_tokens tss ++ row (n + 1) (map symbol_of ts) ∷ []
rows_of-append n tss ts len =
    let mapped = length-mapped (map symbol_of) tss in
    let number : 1 + length (map (map symbol_of) tss) ≡ n + 1 = omega (arith, mapped, len) in
    ap (rows_from 1) (map-join (map symbol_of) tss (ts ∷ []))
    ∙ rows_from-append 1 (map (map symbol_of) tss) (map symbol_of ts)
    ∙ ap (λ k. rows_of_tokens tss ++ row k (map symbol_of ts) ∷ []) number
