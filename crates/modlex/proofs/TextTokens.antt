-- The tokens of a text: those of its lines, in order, each with its slice of the text.
use Rattle.std.proofs.Common.{◌≡◌, ℕ, ◌+◌, ◌-◌, ◌<◌, ◌≤◌, true, ◌==◌, List, [], ◌∷◌, ◌++◌, length, take, arith, refl}
use Rattle.std.proofs.Common.{ap, sym, ◌∙◌}
use Rattle.std.proofs.Common.{subst, append_assoc, append-nil, length-append, Result, Ok, Err, ⊎_elim, ◌↔◌, slice_range}
use Rattle.std.proofs.Common.{rules, tests}
use Rattle.std.specs.List.{flat_map}
use Rattle.std.proofs.lemmas.List.{take_at, drop_at}
use Rattle.std.proofs.lemmas.Bool.{cases_Bool}
use Rattle.modlex.specs.declared.lexer.TokenFault.{TokenFault}
use Rattle.modlex.specs.declared.lexer.TokenFault.TheVariants as faults
use Rattle.modlex.specs.Lines.{onto_first, lines}
use Rattle.modlex.specs.Lexer.{Lexeme, tokens_then, line_tokens, lines_tokens, text_tokens}
use Rattle.modlex.specs.Tokens.{AreTokens, AreTokensOf, AreTextTokens, IsFirstWithout, AreInOrder}
use Rattle.modlex.proofs.TokenLaw.{tokens_behind-all, lexeme_begins}
use Rattle.modlex.proofs.LineTokens.{tokens_are, tokens_fault, moved}

abbrev all_of : List (List Lexeme) → List Lexeme
all_of tss = flat_map (λ line. line) tss

-- ---- computed as related

-- the tokens of a line, and of the lines behind it
abbrev line_then : Result (List Lexeme) TokenFault → Result (List Lexeme) TokenFault → Result (List Lexeme) TokenFault
line_then more (Err e) = Err e
line_then more (Ok ts) = tokens_then ts more

lines_all : (line at : ℕ) (ls : List (List ℕ)) (tss : List (List Lexeme)) → AreTokensOf line at ls tss
    → lines_tokens line at ls ≡ Ok (all_of tss)
lines_all line at [] [] h = refl
lines_all line at [] (ts ∷ tss) h = absurd h
lines_all line at (l ∷ ls) [] h = absurd h
lines_all line at (l ∷ ls) (ts ∷ tss) h =
    let here = tokens_behind-all line at l ts h.0 in
    ap (line_then (lines_tokens (line + 1) (at + length l + 1) ls)) here
    ∙ ap (tokens_then ts) (lines_all (line + 1) (at + length l + 1) ls tss h.1)

then_ok : (ts : List Lexeme) (r : Result (List Lexeme) TokenFault) (us : List Lexeme) → tokens_then ts r ≡ Ok us
    → (vs : List Lexeme) × (r ≡ Ok vs) × (ts ++ vs ≡ us)
then_ok ts (Ok vs) us h = (vs, refl, (let same : ts ++ vs ≡ us = cc in same))
then_ok ts (Err e) us h = cc

-- the tokens of each line, where they were computed
record Each (line at : ℕ) (ls : List (List ℕ)) (us : List Lexeme) : Type 0 where
  tokens : List (List Lexeme)
  are : AreTokensOf line at ls tokens
  joined : all_of tokens ≡ us

each_by : (line at : ℕ) (l : List ℕ) (ls : List (List ℕ)) (us : List Lexeme) (r : Result (List Lexeme) TokenFault)
    → line_tokens line at l ≡ r
    → ((vs : List Lexeme) → lines_tokens (line + 1) (at + length l + 1) ls ≡ Ok vs
    → Each (line + 1) (at + length l + 1) ls vs)
    → ◌≡◌ {A = Result (List Lexeme) TokenFault}
    (elim r [ Err e ↦ Err e | Ok ts ↦ tokens_then ts (lines_tokens (line + 1) (at + length l + 1) ls) ]) (Ok us)
    → Each line at (l ∷ ls) us
each_by line at l ls us (Err e) is more h = cc
each_by line at l ls us (Ok ts) is more h =
    let t = then_ok ts (lines_tokens (line + 1) (at + length l + 1) ls) us h in
    let rest = more t.0 t.1 in
    record {
      tokens = ts ∷ rest.tokens;
      are = (tokens_are line at l ts is, rest.are);
      joined =
          ap (λ x. ts ++ x) rest.joined ∙ t.2;
    }

lines_each : (line at : ℕ) (ls : List (List ℕ)) (us : List Lexeme) → lines_tokens line at ls ≡ Ok us
    → Each line at ls us
lines_each line at [] us h = record { tokens = []; are = tt; joined = (let same : [] ≡ us = cc in same) }
lines_each line at (l ∷ ls) us h =
    each_by line at l ls us (line_tokens line at l) refl (λ vs k. lines_each (line + 1) (at + length l + 1) ls vs k) h

-- the computed tokens of a text are exactly those that the rules give it
pub text_tokens-are : (text : List ℕ) (ts : List Lexeme) → (text_tokens text ≡ Ok ts) ↔ AreTextTokens text ts
text_tokens-are text ts = (
  λ h. (let e = lines_each 1 0 (lines text) ts h in (e.tokens, e.are, e.joined)),
  λ t. lines_all 1 0 (lines text) t.0 t.1 ∙ ap (λ x. Ok x) t.2,
)

-- ---- the first line without tokens

record First (line at : ℕ) (ls : List (List ℕ)) (e : TokenFault) : Type 0 where
  before : List (List ℕ)
  faulty : List ℕ
  others : List (List ℕ)
  split : ls ≡ before ++ faulty ∷ others
  above : (tss : List (List Lexeme)) × AreTokensOf line at before tss
  none : (offset : ℕ) (ts : List Lexeme) → ¬ AreTokens (line + length before) offset faulty ts
  is : e ≡ faults.Lex (line + length before)

then_err : (ts : List Lexeme) (r : Result (List Lexeme) TokenFault) (e : TokenFault) → tokens_then ts r ≡ Err e
    → r ≡ Err e
then_err ts (Ok vs) e h = cc
then_err ts (Err d) e h = h

none_by : (line at n offset : ℕ) (l : List ℕ) (e : TokenFault) → line_tokens line at l ≡ Err e → (ts : List Lexeme)
    → ¬ AreTokens n offset l ts
none_by line at n offset l e is ts are =
    let there = moved n offset line at l ts are in
    let some = tokens_behind-all line at l there.tokens there.are in cc

-- a fault of lines is that of the first line, or the fault of the others, and the lines above it have tokens
first_by : (line at : ℕ) (l : List ℕ) (ls : List (List ℕ)) (e : TokenFault) (r : Result (List Lexeme) TokenFault)
    → line_tokens line at l ≡ r
    → (lines_tokens (line + 1) (at + length l + 1) ls ≡ Err e → First (line + 1) (at + length l + 1) ls e)
    → ◌≡◌ {A = Result (List Lexeme) TokenFault}
    (elim r [ Err d ↦ Err d | Ok ts ↦ tokens_then ts (lines_tokens (line + 1) (at + length l + 1) ls) ]) (Err e)
    → First line at (l ∷ ls) e
first_by line at l ls e (Err d) is more h =
    let same : d ≡ e = cc in
    let number : line ≡ line + 0 = omega arith in
    record {
      before = [];
      faulty = l;
      others = ls;
      split = refl;
      above = ([], tt);
      none = λ offset ts. none_by line at (line + 0) offset l d is ts;
      is = sym same ∙ tokens_fault 0 line at l d is ∙ ap (λ n. faults.Lex n) number;
    }
first_by line at l ls e (Ok ts) is more h =
    let rest = more (then_err ts (lines_tokens (line + 1) (at + length l + 1) ls) e h) in
    let number : line + 1 + length rest.before ≡ line + length (l ∷ rest.before) = omega arith in
    record {
      before = l ∷ rest.before;
      faulty = rest.faulty;
      others = rest.others;
      split = ap (λ x. l ∷ x) rest.split;
      above = (ts ∷ rest.above.0, (tokens_are line at l ts is, rest.above.1));
      none = subst (λ n. (offset : ℕ) (us : List Lexeme) → ¬ AreTokens n offset rest.faulty us) number rest.none;
      is = rest.is ∙ ap (λ n. faults.Lex n) number;
    }

lines_first : (line at : ℕ) (ls : List (List ℕ)) (e : TokenFault) → lines_tokens line at ls ≡ Err e → First line at ls e
lines_first line at [] e h = cc
lines_first line at (l ∷ ls) e h =
    first_by line at l ls e (line_tokens line at l) refl (λ k. lines_first (line + 1) (at + length l + 1) ls e k) h

no_line : (line at n : ℕ) (l : List ℕ) (r : Result (List Lexeme) TokenFault) → line_tokens line at l ≡ r
    → ((ts : List Lexeme) → ¬ AreTokens line at l ts) → r ≡ Err (faults.Lex line)
no_line line at n l (Ok ts) is none = absurd (none ts (tokens_are line at l ts is))
no_line line at n l (Err e) is none = ap (λ d. Err d) (tokens_fault 0 line at l e is)

-- if each line above has tokens and this one cannot be split into tokens, the fault is this line's
first_line : (line at : ℕ) (before : List (List ℕ)) (l : List ℕ) (others : List (List ℕ)) (tss : List (List Lexeme))
    → AreTokensOf line at before tss
    → ((offset : ℕ) (ts : List Lexeme) → ¬ AreTokens (line + length before) offset l ts)
    → lines_tokens line at (before ++ l ∷ others) ≡ Err (faults.Lex (line + length before))
first_line line at [] l others tss h none =
    let number : line + 0 ≡ line = omega arith in
    let bad = no_line line at 0 l (line_tokens line at l) refl
    (λ ts. subst (λ n. ¬ AreTokens n at l ts) number (none at ts)) in
    ap (line_then (lines_tokens (line + 1) (at + length l + 1) others)) bad ∙ ap (λ n. Err (faults.Lex n)) (sym number)
first_line line at (m ∷ before) l others [] h none = absurd h
first_line line at (m ∷ before) l others (ts ∷ tss) h none =
    let here = tokens_behind-all line at m ts h.0 in
    let number : line + length (m ∷ before) ≡ line + 1 + length before = omega arith in
    let rest = first_line (line + 1) (at + length m + 1) before l others tss h.1
    (subst (λ n. (offset : ℕ) (us : List Lexeme) → ¬ AreTokens n offset l us) number none) in
    ap (line_then (lines_tokens (line + 1) (at + length m + 1) (before ++ l ∷ others))) here ∙ ap (tokens_then ts) rest
    ∙ ap (λ n. Err (faults.Lex n)) (sym number)

-- the computed fault of a text is exactly that of its first line that cannot be split into tokens
pub text_tokens-fault : (text : List ℕ) (e : TokenFault)
    → (text_tokens text ≡ Err e) ↔ ((line : ℕ) × IsFirstWithout text line × (e ≡ faults.Lex line))
text_tokens-fault text e = (
  λ h. (
      let f = lines_first 1 0 (lines text) e h in
      let number : 1 + length f.before ≡ length f.before + 1 = omega arith in (
        length f.before + 1,
        record {
          before = f.before;
          faulty = f.faulty;
          others = f.others;
          split = f.split;
          number = refl;
          above = f.above;
          none = subst (λ n. (offset : ℕ) (us : List Lexeme) → ¬ AreTokens n offset f.faulty us) number f.none;
        },
        f.is ∙ ap (λ n. faults.Lex n) number,
      )
      ),
  λ x. (
      let number : x.0 ≡ 1 + length x.1.before = omega (arith, x.1.number) in
      ap (lines_tokens 1 0) x.1.split
      ∙ first_line 1 0 x.1.before x.1.faulty x.1.others x.1.above.0 x.1.above.1
      (subst (λ n. (offset : ℕ) (us : List Lexeme) → ¬ AreTokens n offset x.1.faulty us) number x.1.none)
      ∙ ap (λ n. Err (faults.Lex n)) (sym number) ∙ ap (λ d. Err d) (sym x.2)
      ),
)

-- ---- slices of the text

-- lines with a newline behind each but the last
joined_lines : List (List ℕ) → List ℕ
joined_lines [] = []
joined_lines (l ∷ []) = l
joined_lines (l ∷ m ∷ ls) = l ++ 10 ∷ joined_lines (m ∷ ls)

onto_joined : (b : ℕ) (ls : List (List ℕ)) → joined_lines (onto_first b ls) ≡ b ∷ joined_lines ls
unfolding joined_lines
onto_joined b [] = refl
onto_joined b (l ∷ []) = refl
onto_joined b (l ∷ m ∷ ls) = refl

-- a text has a line
some_lines : (text : List ℕ) → (l : List ℕ) × (ls : List (List ℕ)) × (lines text ≡ l ∷ ls)
some_lines [] = ([], [], refl)
some_lines (b ∷ bs) = ⊎_elim (λ yes. ([], lines bs, rw yes refl))
    (λ no. (let more = some_lines bs in (b ∷ more.0, more.1, rw no (ap (onto_first b) more.2)))) (cases_Bool (b == 10))

newline_joined : (ls : List (List ℕ)) → ((l : List ℕ) × (ms : List (List ℕ)) × (ls ≡ l ∷ ms))
    → joined_lines ([] ∷ ls) ≡ 10 ∷ joined_lines ls
unfolding joined_lines
newline_joined [] h = (let bad = h.2 in cc)
newline_joined (m ∷ ls) h = refl

newline_is : (b : ℕ) → (b == 10) ≡ true → b ≡ 10
newline_is b h = search (rules, tests)

lines-joined : (text : List ℕ) → joined_lines (lines text) ≡ text
unfolding joined_lines
lines-joined [] = refl
lines-joined (b ∷ bs) =
    ⊎_elim
    (λ yes. rw yes (newline_joined (lines bs) (some_lines bs) ∙ ap (λ l. 10 ∷ l) (lines-joined bs)
    ∙ ap (λ x. x ∷ bs) (sym (newline_is b yes))))
    (λ no. rw no (onto_joined b (lines bs) ∙ ap (λ l. b ∷ l) (lines-joined bs)))
    (cases_Bool (b == 10))

-- the slice between two texts
slice_between : (xs ys zs : List ℕ) (i j : ℕ) → i ≡ length xs → j ≡ length xs + length ys
    → slice_range (xs ++ (ys ++ zs)) i j ≡ ys
slice_between xs ys zs i j hi hj =
    let len : j - i ≡ length ys = omega (arith, hi, hj) in
    ap (take (j - i)) (drop_at xs (ys ++ zs) i (sym hi)) ∙ take_at ys zs (j - i) (sym len)

-- where the last token ends
end_of : ℕ → List Lexeme → ℕ
end_of from [] = from
end_of from (t ∷ ts) = end_of t.span.end ts

order_from : (text : List ℕ) (from to : ℕ) (ts : List Lexeme) → from ≤ to → AreInOrder text to ts
    → AreInOrder text from ts
order_from text from to [] le h = tt
order_from text from to (t ∷ ts) le h = (omega (arith, le, h.0), h.1, h.2, h.3, h.4)

order_join : (text : List ℕ) (from to : ℕ) (ts us : List Lexeme) → AreInOrder text from ts → end_of from ts ≤ to
    → AreInOrder text to us → AreInOrder text from (ts ++ us)
unfolding end_of
order_join text from to [] us h le k = order_from text from to us le k
order_join text from to (t ∷ ts) us h le k = (h.0, h.1, h.2, h.3, order_join text t.span.end to ts us h.4 le k)

-- the tokens of a line in the text
record InLine (text : List ℕ) (at to : ℕ) (ts : List Lexeme) : Type 0 where
  order : AreInOrder text at ts
  within : end_of at ts ≤ to

-- the tokens of a line in a text are in order and end within the line
line_order : (text front bytes back : List ℕ) (line at : ℕ) (ts : List Lexeme) → text ≡ front ++ (bytes ++ back)
    → at ≡ length front → AreTokens line at bytes ts → InLine text at (at + length bytes) ts
unfolding end_of
line_order text front bytes back line at [] is offset h = record { order = tt; within = omega arith }
line_order text front bytes back line at (t ∷ ts) is offset h =
    let gap = h.0 in
    let rest = h.1 in
    let start : ℕ = at + length gap in
    let begins = lexeme_begins t.kind t.text rest h.3 in
    let some : 0 < length t.text = omega (arith, ap length begins.is) in
    let cut : text ≡ (front ++ gap) ++ (t.text ++ (rest ++ back)) =
    is ∙ ap (λ b. front ++ (b ++ back)) h.4
    ∙ ap (λ b. front ++ b) (append_assoc gap (t.text ++ rest) back
    ∙ ap (λ b. gap ++ b) (append_assoc t.text rest back))
    ∙ sym (append_assoc front gap (t.text ++ (rest ++ back))) in
    let before : length (front ++ gap) ≡ start = omega (arith, length-append front gap, offset) in
    let behind : text ≡ ((front ++ gap) ++ t.text) ++ (rest ++ back) = cut
    ∙ sym (append_assoc (front ++ gap) t.text (rest ++ back)) in
    let there : start + length t.text ≡ length ((front ++ gap) ++ t.text) =
    omega (arith, length-append (front ++ gap) t.text, before) in
    let slice : slice_range text start (start + length t.text) ≡ t.text =
    ap (λ x. slice_range x start (start + length t.text)) cut
    ∙ slice_between (front ++ gap) t.text (rest ++ back) start (start + length t.text) (sym before)
    (omega (arith, before)) in
    let more = line_order text ((front ++ gap) ++ t.text) rest back line (start + length t.text) ts behind there h.6 in
    let from : t.span.start ≡ start = ap (λ x. x.span.start) h.5 in
    let to : t.span.end ≡ start + length t.text = ap (λ x. x.span.end) h.5 in
    let size = ap length cut in
    let sizes = length-append (front ++ gap) (t.text ++ (rest ++ back)) in
    let sizes2 = length-append t.text (rest ++ back) in
    let bytes_len = ap length h.4 in
    let bytes_sum = length-append gap (t.text ++ rest) in
    let bytes_sum2 = length-append t.text rest in
    record {
      order = (
        omega (arith, from),
        omega (arith, from, to, some),
        omega (arith, to, size, sizes, sizes2, before),
        ap (λ n. slice_range text n t.span.end) from ∙ ap (slice_range text start) to ∙ slice,
        subst (λ n. AreInOrder text n ts) (sym to) more.order,
      );
      within = subst (λ n. end_of n ts ≤ at + length bytes) (sym to)
          (omega (arith, more.within, bytes_len, bytes_sum, bytes_sum2));
    }

-- the tokens of lines that follow one another in a text are in order
lines_order : (text front : List ℕ) (line at : ℕ) (ls : List (List ℕ)) (tss : List (List Lexeme))
    → text ≡ front ++ joined_lines ls → at ≡ length front → AreTokensOf line at ls tss → AreInOrder text at (all_of tss)
unfolding joined_lines
lines_order text front line at [] [] is offset h = tt
lines_order text front line at [] (ts ∷ tss) is offset h = absurd h
lines_order text front line at (l ∷ ls) [] is offset h = absurd h
lines_order text front line at (l ∷ []) (ts ∷ []) is offset h =
    let whole : text ≡ front ++ (l ++ []) = is ∙ ap (λ b. front ++ b) (sym (append-nil l)) in
    subst (AreInOrder text at) (sym (append-nil ts)) (line_order text front l [] line at ts whole offset h.0).order
lines_order text front line at (l ∷ []) (ts ∷ us ∷ tss) is offset h = absurd h.1
lines_order text front line at (l ∷ m ∷ ls) (ts ∷ tss) is offset h =
    let here = line_order text front l (10 ∷ joined_lines (m ∷ ls)) line at ts is offset h.0 in
    let next : text ≡ (front ++ (l ++ 10 ∷ [])) ++ joined_lines (m ∷ ls) =
    is ∙ ap (λ b. front ++ b) (sym (append_assoc l (10 ∷ []) (joined_lines (m ∷ ls))))
    ∙ sym (append_assoc front (l ++ 10 ∷ []) (joined_lines (m ∷ ls))) in
    let there : at + length l + 1 ≡ length (front ++ (l ++ 10 ∷ [])) =
    omega (arith, length-append front (l ++ 10 ∷ []), length-append l (10 ∷ []), offset) in
    order_join text at (at + length l + 1) ts (all_of tss) here.order (let w = here.within in omega (arith, w))
    (lines_order text (front ++ (l ++ 10 ∷ [])) (line + 1) (at + length l + 1) (m ∷ ls) tss next there h.1)

pub text_tokens-order : (text : List ℕ) (ts : List Lexeme) → AreTextTokens text ts → AreInOrder text 0 ts
text_tokens-order text ts h =
    subst (AreInOrder text 0) h.2 (lines_order text [] 1 0 (lines text) h.0 (sym (lines-joined text)) refl h.1)
