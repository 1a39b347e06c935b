-- A line has the tokens that the definition computes, and no others.
use Rattle.std.proofs.Common.{◌≡◌, ◌≢◌, ℕ, suc, ◌+◌, ◌<◌, Bool, true, false, not, ◌==◌, cond, List, [], ◌∷◌, ◌++◌}
use Rattle.std.proofs.Common.{length, take, drop, arith, sym}
use Rattle.std.proofs.Common.{ap, ◌∙◌, refl, rules, tests, add-one, append_assoc, Option, Some, None, Ok, ⊎_elim, codes}
use Rattle.std.proofs.Common.{length-append, MatchBool}
use Rattle.std.proofs.lemmas.Bool.{ne_eqb}
use Rattle.std.proofs.lemmas.List.{take_at, drop_at}
use Rattle.std.specs.Option.{option_map}
use Rattle.std.specs.Str.{bytes_eq}
use Rattle.std.proofs.lemmas.Slice.Eq.{bytes_eq-Decides}
use Rattle.modlex.specs.declared.lexer.TokenKind.{TokenKind}
use Rattle.modlex.specs.declared.lexer.TokenKind.TheVariants.{Name, Quoted, Raw, Arrow, Comma, ParenLeft, ParenRight}
use Rattle.modlex.specs.declared.lexer.TokenKind.TheVariants.{BracketLeft, BracketRight}
use Rattle.modlex.specs.Bytes.{is_blank, is_string_byte, is_name_byte, is_slash_and, quoted_len, raw_len, name_len}
use Rattle.modlex.specs.Lexer.{Lexeme, lexeme, lexeme_at, punctuation_kind, word_at, name_kind, tokens_then}
use Rattle.modlex.specs.Lexer.{tokens_behind}
use Rattle.modlex.specs.Tokens.{AreBlank, IsEnd, IsQuoted, IsRaw, IsRun, IsLexeme, AreTokens}
use Rattle.modlex.proofs.TokenLoop.{tokens_behind-token, tokens_behind-blank, tokens_behind-comment}

-- tests on a byte that a slash, a name or a mark meets
slash_is : (second b : ℕ) (bs : List ℕ) → is_slash_and second b bs ≡ true → b ≡ 47
unfolding is_slash_and
slash_is second b bs h = search (rules, tests)

slash_no_blank : (second b : ℕ) (bs : List ℕ) → is_slash_and second b bs ≡ true → is_blank b ≡ false
unfolding is_blank
slash_no_blank second b bs h = let is = slash_is second b bs h in rw is refl

name_no_blank : (b : ℕ) → is_name_byte b ≡ true → is_blank b ≡ false
unfolding is_name_byte is_blank
name_no_blank b h = search (rules, tests)

no_slash : (second b : ℕ) (bs : List ℕ) → (b == 47) ≡ false → is_slash_and second b bs ≡ false
unfolding is_slash_and
no_slash second b bs h = rw h refl

-- blanks are stepped over
tokens_behind-gap : (line at : ℕ) (gap rest : List ℕ) → AreBlank gap
    → tokens_behind 0 line at (gap ++ rest) ≡ tokens_behind 0 line (at + length gap) rest
tokens_behind-gap line at [] rest blank = let e : at ≡ at + 0 = omega arith in ap (λ n. tokens_behind 0 line n rest) e
tokens_behind-gap line at (b ∷ gap) rest blank =
    let e : at + 1 + length gap ≡ at + length (b ∷ gap) = omega arith in
    tokens_behind-blank line at b (gap ++ rest) blank.0 ∙ tokens_behind-gap line (at + 1) gap rest blank.1
    ∙ ap (λ n. tokens_behind 0 line n rest) e

-- the end of a line has no tokens
tokens_behind-end : (line at : ℕ) (rest : List ℕ) → IsEnd rest → tokens_behind 0 line at rest ≡ Ok []
tokens_behind-end line at [] end = refl
tokens_behind-end line at (b ∷ bs) end =
    ⊎_elim (λ e. cc) (λ comment. tokens_behind-comment line at b bs (slash_no_blank 47 b bs comment) comment) end

-- how far a string goes
string_96 : is_string_byte 96 ≡ true
unfolding is_string_byte
string_96 = refl

string_34 : is_string_byte 34 ≡ true
unfolding is_string_byte
string_34 = refl

one_more : (o : Option ℕ) (n : ℕ) → o ≡ Some n → option_map (λ k. k + 1) o ≡ Some (suc n)
one_more o n h = ap (option_map (λ k. k + 1)) h ∙ ap (λ k. Some k) (add-one n)

pub raw_len-content : (content rest : List ℕ) → IsRaw content
    → raw_len (content ++ 96 ∷ rest) ≡ Some (suc (length content))
raw_len-content [] rest raw = rw string_96 refl
raw_len-content (b ∷ content) rest raw =
    let other = ne_eqb b 96 raw.0.1 in
    rw (raw.0.0, other) (one_more _ _ (raw_len-content content rest raw.1))

escape_by : (b c : ℕ) (bs rest : List ℕ) (t : Bool)
    → (IsQuoted bs → quoted_len false (bs ++ 34 ∷ rest) ≡ Some (suc (length bs)))
    → (IsQuoted (c ∷ bs) → quoted_len false (c ∷ (bs ++ 34 ∷ rest))
    ≡ Some (suc (length (c ∷ bs)))) → MatchBool t ((is_string_byte c ≡ true) × IsQuoted bs) (IsQuoted (c ∷ bs))
    → quoted_len t (c ∷ (bs ++ 34 ∷ rest)) ≡ Some (suc (length (c ∷ bs)))
escape_by b c bs rest true short long h = rw h.0 (one_more _ _ (short h.1))
escape_by b c bs rest false short long h = long h

pub quoted_len-content : (content rest : List ℕ) → IsQuoted content
    → quoted_len false (content ++ 34 ∷ rest) ≡ Some (suc (length content))
quoted_len-content [] rest quoted = rw string_34 refl
quoted_len-content (b ∷ []) rest quoted =
    let mark = ne_eqb b 34 quoted.1 in
    let slash = ne_eqb b 92 quoted.2 in
    rw (quoted.0, mark, slash) (one_more _ 1 (rw string_34 refl))
quoted_len-content (b ∷ c ∷ bs) rest quoted =
    let mark = ne_eqb b 34 quoted.1 in
    rw (quoted.0, mark) (one_more _ _
    (escape_by b c bs rest (b == 92) (quoted_len-content bs rest) (quoted_len-content (c ∷ bs) rest) quoted.2))

name_len-comment : (c : ℕ) (cs : List ℕ) → is_slash_and 47 c cs ≡ true → name_len (c ∷ cs) ≡ Some 0
name_len-comment c cs comment = choose_same (is_name_byte c) comment
  where
    choose_same : (t : Bool) → is_slash_and 47 c cs ≡ true
        → cond (not t) (Some 0) (cond (is_slash_and 47 c cs) (Some 0)
        (cond (is_slash_and 42 c cs) None (option_map (λ n. n + 1) (name_len cs)))) ≡ Some 0
    choose_same true h = rw h refl
    choose_same false h = refl

pub name_len-run : (text rest : List ℕ) → IsRun text rest → name_len (text ++ rest) ≡ Some (length text)
name_len-run [] [] run = refl
name_len-run [] (c ∷ cs) run = ⊎_elim (λ other. rw other refl) (λ comment. name_len-comment c cs comment) run
name_len-run (b ∷ text) rest run =
    rw (run.0, run.1, run.2) (one_more _ _ (name_len-run text rest run.3))

-- a name has no other byte
name_other : (b c : ℕ) → is_name_byte c ≡ false → is_name_byte b ≡ true → (b == c) ≡ false
name_other b c other name = ne_eqb b c (λ e. let same = ap is_name_byte e in cc)

no_name_40 : is_name_byte 40 ≡ false
unfolding is_name_byte
no_name_40 = refl

no_name_41 : is_name_byte 41 ≡ false
unfolding is_name_byte
no_name_41 = refl

no_name_91 : is_name_byte 91 ≡ false
unfolding is_name_byte
no_name_91 = refl

no_name_93 : is_name_byte 93 ≡ false
unfolding is_name_byte
no_name_93 = refl

no_name_44 : is_name_byte 44 ≡ false
unfolding is_name_byte
no_name_44 = refl

no_name_34 : is_name_byte 34 ≡ false
unfolding is_name_byte
no_name_34 = refl

no_name_96 : is_name_byte 96 ≡ false
unfolding is_name_byte
no_name_96 = refl

name_no_mark : (b : ℕ) → is_name_byte b ≡ true → punctuation_kind b ≡ None
name_no_mark b name =
    let o40 = name_other b 40 no_name_40 name in
    let o41 = name_other b 41 no_name_41 name in
    let o91 = name_other b 91 no_name_91 name in
    let o93 = name_other b 93 no_name_93 name in
    let o44 = name_other b 44 no_name_44 name in
    rw (o40, o41, o91, o93, o44) refl

word_at-name : (b : ℕ) (bs : List ℕ) → is_name_byte b ≡ true → is_slash_and 42 b bs ≡ false
    → word_at b bs ≡ option_map (λ n. (name_kind (b ∷ take n bs), n + 1)) (name_len bs)
word_at-name b bs name star =
    let o34 = name_other b 34 no_name_34 name in
    let o96 = name_other b 96 no_name_96 name in
    rw (o34, o96, name, star) refl

name_word : (b : ℕ) (bs : List ℕ) → is_name_byte b ≡ true → is_slash_and 42 b bs ≡ false
    → lexeme_at (b ∷ bs) ≡ option_map (λ n. (name_kind (b ∷ take n bs), n + 1)) (name_len bs)
unfolding lexeme_at
name_word b bs name star =
    let mark_or_word : Option TokenKind → Option (TokenKind × ℕ) = λ m. elim m [ Some k ↦ Some (k, 1) | None ↦ word_at b bs ] in
    ap mark_or_word (name_no_mark b name) ∙ word_at-name b bs name star

-- a run of name bytes is one token
lexeme_at-run : (b : ℕ) (text rest : List ℕ) → IsRun (b ∷ text) rest
    → lexeme_at (b ∷ (text ++ rest)) ≡ Some (name_kind (b ∷ text), suc (length text))
lexeme_at-run b text rest run =
    name_word b (text ++ rest) run.0 run.2
    ∙ ap (option_map (λ n. (name_kind (b ∷ take n (text ++ rest)), n + 1))) (name_len-run text rest run.3)
    ∙ ap (λ t. Some (name_kind (b ∷ t), length text + 1)) (take_at text rest (length text) refl)
    ∙ ap (λ n. Some (name_kind (b ∷ text), n)) (add-one (length text))

name_kind-name : (text : List ℕ) → text ≢ codes "=>" → name_kind text ≡ Name
name_kind-name text other = kind_by (bytes_eq text (codes "=>")) (λ e. other ((bytes_eq-Decides text (codes "=>")).0 e))
  where
    kind_by : (t : Bool) → (t ≡ true → ⊥) → cond t Arrow Name ≡ Name
    kind_by true no_arrow = absurd (no_arrow refl)
    kind_by false no_arrow = refl

-- the function finds what the relation says
pub lexeme_at-lexeme : (kind : TokenKind) (text rest : List ℕ) → IsLexeme kind text rest
    → lexeme_at (text ++ rest) ≡ Some (kind, length text)
unfolding lexeme_at
lexeme_at-lexeme ParenLeft text rest h = ap (λ t. lexeme_at (t ++ rest)) h
    ∙ ap (λ t. Some (ParenLeft, length t)) (sym h)
lexeme_at-lexeme ParenRight text rest h = ap (λ t. lexeme_at (t ++ rest)) h
    ∙ ap (λ t. Some (ParenRight, length t)) (sym h)
lexeme_at-lexeme BracketLeft text rest h = ap (λ t. lexeme_at (t ++ rest)) h
    ∙ ap (λ t. Some (BracketLeft, length t)) (sym h)
lexeme_at-lexeme BracketRight text rest h = ap (λ t. lexeme_at (t ++ rest)) h
    ∙ ap (λ t. Some (BracketRight, length t)) (sym h)
lexeme_at-lexeme Comma text rest h = ap (λ t. lexeme_at (t ++ rest)) h ∙ ap (λ t. Some (Comma, length t)) (sym h)
lexeme_at-lexeme Quoted text rest h =
    let len : suc (length h.0) + 1 ≡ length text = omega (arith, ap length h.2, length-append h.0 (34 ∷ [])) in
    ap (λ t. lexeme_at (t ++ rest)) h.2 ∙ ap (λ l. lexeme_at (34 ∷ l)) (append_assoc h.0 (34 ∷ []) rest)
    ∙ ap (option_map (λ n. (Quoted, n + 1))) (quoted_len-content h.0 rest h.1) ∙ ap (λ n. Some (Quoted, n)) len
lexeme_at-lexeme Raw text rest h =
    let len : suc (length h.0) + 1 ≡ length text = omega (arith, ap length h.2, length-append h.0 (96 ∷ [])) in
    ap (λ t. lexeme_at (t ++ rest)) h.2 ∙ ap (λ l. lexeme_at (96 ∷ l)) (append_assoc h.0 (96 ∷ []) rest)
    ∙ ap (option_map (λ n. (Raw, n + 1))) (raw_len-content h.0 rest h.1) ∙ ap (λ n. Some (Raw, n)) len
lexeme_at-lexeme Arrow [] rest h = absurd (let e = ap length h.0 in omega (arith, e))
lexeme_at-lexeme Arrow (b ∷ text) rest h =
    lexeme_at-run b text rest h.1 ∙ ap (λ k. Some (k, suc (length text))) (ap name_kind h.0)
lexeme_at-lexeme Name [] rest h = absurd (omega (arith, h.0))
lexeme_at-lexeme Name (b ∷ text) rest h =
    lexeme_at-run b text rest h.2 ∙ ap (λ k. Some (k, suc (length text))) (name_kind-name (b ∷ text) h.1)

-- the first byte of a token is no blank, and begins no comment
pub record Begins (text rest : List ℕ) : Type 0 where
  pub first : ℕ
  pub others : List ℕ
  pub is : text ≡ first ∷ others
  pub no_blank : is_blank first ≡ false
  pub no_comment : is_slash_and 47 first (others ++ rest) ≡ false

begins_mark : (c : ℕ) (text others rest : List ℕ) → text ≡ c ∷ others → is_blank c ≡ false → (c == 47) ≡ false
    → Begins text rest
begins_mark c text others rest is blank slash =
    record { first = c; others = others; is = is; no_blank = blank; no_comment = no_slash 47 c (others ++ rest) slash }

begins_run : (text rest : List ℕ) → 0 < length text → IsRun text rest → Begins text rest
begins_run [] rest some run = absurd (omega (arith, some))
begins_run (b ∷ text) rest some run =
    record { first = b; others = text; is = refl; no_blank = name_no_blank b run.0; no_comment = run.1 }

-- a token begins with neither a blank nor a comment
pub lexeme_begins : (kind : TokenKind) (text rest : List ℕ) → IsLexeme kind text rest → Begins text rest
unfolding is_blank
lexeme_begins ParenLeft text rest h = begins_mark 40 text [] rest h refl refl
lexeme_begins ParenRight text rest h = begins_mark 41 text [] rest h refl refl
lexeme_begins BracketLeft text rest h = begins_mark 91 text [] rest h refl refl
lexeme_begins BracketRight text rest h = begins_mark 93 text [] rest h refl refl
lexeme_begins Comma text rest h = begins_mark 44 text [] rest h refl refl
lexeme_begins Quoted text rest h = begins_mark 34 text _ rest h.2 refl refl
lexeme_begins Raw text rest h = begins_mark 96 text _ rest h.2 refl refl
lexeme_begins Arrow text rest h = begins_run text rest (let e = ap length h.0 in omega (arith, e)) h.1
lexeme_begins Name text rest h = begins_run text rest h.0 h.2

-- a token at the front
token_front : (line at : ℕ) (kind : TokenKind) (text rest : List ℕ) → IsLexeme kind text rest
    → tokens_behind 0 line at (text ++ rest)
    ≡ tokens_then (lexeme kind line at text ∷ []) (tokens_behind 0 line (at + length text) rest)
token_front line at kind text rest h =
    let begins = lexeme_begins kind text rest h in
    let front : text ++ rest ≡ begins.first ∷ (begins.others ++ rest) = ap (λ t. t ++ rest) begins.is in
    let found : lexeme_at (begins.first ∷ (begins.others ++ rest)) ≡ Some (kind, length text) = ap lexeme_at (sym front)
    ∙ lexeme_at-lexeme kind text rest h in
    let some : 0 < length text = omega (arith, ap length begins.is) in
    ap (tokens_behind 0 line at) front
    ∙ tokens_behind-token line at begins.first (begins.others ++ rest) kind (length text) begins.no_blank
    begins.no_comment found some
    ∙ ap (λ l. tokens_then (lexeme kind line at (take (length text) l) ∷ [])
    (tokens_behind 0 line (at + length text) (drop (length text) l))) (sym front)
    ∙ ap (λ t. tokens_then (lexeme kind line at t ∷ [])
    (tokens_behind 0 line (at + length text) (drop (length text) (text ++ rest))))
    (take_at text rest (length text) refl)
    ∙ ap (λ l. tokens_then (lexeme kind line at text ∷ []) (tokens_behind 0 line (at + length text) l))
    (drop_at text rest (length text) refl)

-- the tokens that a line has are those computed
pub tokens_behind-all : (line at : ℕ) (bytes : List ℕ) (ts : List Lexeme) → AreTokens line at bytes ts
    → tokens_behind 0 line at bytes ≡ Ok ts
tokens_behind-all line at bytes [] h =
    ap (tokens_behind 0 line at) h.4 ∙ tokens_behind-gap line at h.0 h.1 h.2
    ∙ tokens_behind-end line (at + length h.0) h.1 h.3
tokens_behind-all line at bytes (t ∷ ts) h =
    ap (tokens_behind 0 line at) h.4 ∙ tokens_behind-gap line at h.0 (t.text ++ h.1) h.2
    ∙ token_front line (at + length h.0) t.kind t.text h.1 h.3
    ∙ ap (tokens_then (lexeme t.kind line (at + length h.0) t.text ∷ []))
    (tokens_behind-all line (at + length h.0 + length t.text) h.1 ts h.6)
    ∙ ap (λ u. Ok (u ∷ ts)) (sym h.5)
