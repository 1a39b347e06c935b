-- What the definition computes are tokens of the line.
use Rattle.std.proofs.Common.{◌≡◌, ◌≢◌, ℕ, zero, suc, ◌+◌, ◌<◌, ◌≤◌, Bool, true, false, ◌||◌, not, ◌==◌, cond, List, []}
use Rattle.std.proofs.Common.{◌∷◌, ◌++◌, length, take, drop, arith, subst, sym}
use Rattle.std.proofs.Common.{ap, ◌∙◌, refl, append_assoc, Option, Some, None, Result, Ok, Err, ◌⊎◌, inl, inr, ⊎_elim}
use Rattle.std.proofs.Common.{codes, MatchBool, length-append}
use Rattle.std.proofs.lemmas.Bool.{eqb-false, eqb-true, not-false}
use Rattle.std.proofs.lemmas.Option.{same_Some}
use Rattle.modlex.specs.declared.lexer.TokenKind.{TokenKind}
use Rattle.modlex.specs.declared.lexer.TokenKind.TheVariants.{Name, Quoted, Raw, Arrow, Comma, ParenLeft, ParenRight}
use Rattle.modlex.specs.declared.lexer.TokenKind.TheVariants.{BracketLeft, BracketRight}
use Rattle.modlex.specs.declared.lexer.TokenFault.{TokenFault}
use Rattle.std.specs.Str.{bytes_eq}
use Rattle.std.proofs.lemmas.Slice.Eq.{bytes_eq-Decides}
use Rattle.std.proofs.lemmas.List.{take_at, drop_at}
use Rattle.std.proofs.lemmas.Option.{some_pair_parts}
use Rattle.modlex.proofs.TokenLaw.{lexeme_begins}
use Rattle.modlex.proofs.TokenLoop.{tokens_behind-token, tokens_behind-none}
use Rattle.modlex.specs.Lexer.{Lexeme, lexeme, tokens_then, tokens_behind, punctuation_kind, name_kind, word_at}
use Rattle.modlex.specs.Lexer.{lexeme_at}
use Rattle.std.specs.Option.{option_map}
use Rattle.modlex.specs.Bytes.{is_blank, is_string_byte, is_name_byte, is_slash_and, quoted_len, raw_len, name_len}
use Rattle.modlex.specs.Tokens.{IsEnd, IsQuoted, IsRaw, IsRun, IsLexeme, AreTokens}

-- which way a test went
pub chosen : {A : Type 0} (b : Bool) (x y z : A) → cond b x y ≡ z → ((b ≡ true) × (x ≡ z)) ⊎ ((b ≡ false) × (y ≡ z))
chosen true x y z h = inl (refl, h)
chosen false x y z h = inr (refl, h)

pub mapped : {A B : Type 0} (f : A → B) (o : Option A) (y : B) → option_map f o ≡ Some y
    → (x : A) × (o ≡ Some x) × (f x ≡ y)
mapped f None y h = cc
mapped f (Some x) y h = (x, refl, cc)

-- the first `n` bytes are a content with the property `P` and then the mark
pub record Closes (P : List ℕ → Type 0) (mark : ℕ) (bs : List ℕ) (n : ℕ) : Type 0 where
  pub content : List ℕ
  pub rest : List ℕ
  pub holds : P content
  pub is : bs ≡ content ++ mark ∷ rest
  pub len : n ≡ suc (length content)

-- the length found for a raw string is that of its content and the grave accent after it
pub raw_closes : (bs : List ℕ) (n : ℕ) → raw_len bs ≡ Some n → Closes IsRaw 96 bs n
raw_closes [] n h = cc
raw_closes (b ∷ bs) n h =
    ⊎_elim
    (λ bad. cc)
    (λ good. ⊎_elim
    (λ close. record {
      content = [];
      rest = bs;
      holds = tt;
      is = ap (λ x. x ∷ bs) (eqb-true b 96 close.0);
      len =
          let e : 1 ≡ n = cc in sym e;
    })
    (λ goes.
    let m = mapped (λ k. k + 1) (raw_len bs) n goes.1 in
    let more = raw_closes bs m.0 m.1 in
    record {
      content = b ∷ more.content;
      rest = more.rest;
      holds = ((not-false _ good.0, eqb-false b 96 goes.0), more.holds);
      is = ap (λ l. b ∷ l) more.is;
      len = omega (arith, m.2, more.len);
    })
    (chosen (b == 96) _ _ _ good.1))
    (chosen (not (is_string_byte b)) _ _ _ h)

-- the first `n` bytes are a run of name bytes, as long as it can be
pub record RunsOn (bs : List ℕ) (n : ℕ) : Type 0 where
  pub text : List ℕ
  pub rest : List ℕ
  pub run : IsRun text rest
  pub is : bs ≡ text ++ rest
  pub len : n ≡ length text

-- the length found for a name is that of the longest run of name bytes
pub name_runs : (bs : List ℕ) (n : ℕ) → name_len bs ≡ Some n → RunsOn bs n
name_runs [] n h = record { text = []; rest = []; run = tt; is = refl; len = let e : 0 ≡ n = cc in sym e }
name_runs (b ∷ bs) n h =
    ⊎_elim
    (λ other. record {
      text = [];
      rest = b ∷ bs;
      run = inl (not_true _ other.0);
      is = refl;
      len = let e : 0 ≡ n = cc in
          sym e;
    })
    (λ name. ⊎_elim
    (λ comment. record { text = []; rest = b ∷ bs; run = inr comment.0; is = refl; len = let e : 0 ≡ n = cc in sym e })
    (λ no_comment. ⊎_elim
    (λ star. cc)
    (λ goes.
    let m = mapped (λ k. k + 1) (name_len bs) n goes.1 in
    let more = name_runs bs m.0 m.1 in
    record {
      text = b ∷ more.text;
      rest = more.rest;
      run = (
        not-false _ name.0,
        subst (λ l. is_slash_and 47 b l ≡ false) more.is no_comment.0,
        subst (λ l. is_slash_and 42 b l ≡ false) more.is goes.0,
        more.run,
      );
      is = ap (λ l. b ∷ l) more.is;
      len = omega (arith, m.2, more.len);
    })
    (chosen (is_slash_and 42 b bs) _ _ _ no_comment.1))
    (chosen (is_slash_and 47 b bs) _ _ _ name.1))
    (chosen (not (is_name_byte b)) _ _ _ h)
  where
    not_true : (t : Bool) → not t ≡ true → t ≡ false
    not_true true e = cc
    not_true false e = refl

-- a byte in front of what an interpreted string holds
cons_quoted : (b : ℕ) (content : List ℕ) → is_string_byte b ≡ true → b ≢ 34 → (b == 92) ≡ false → IsQuoted content
    → IsQuoted (b ∷ content)
cons_quoted b [] good mark slash quoted = (good, mark, eqb-false b 92 slash)
cons_quoted b (c ∷ bs) good mark slash quoted = (
  good,
  mark,
  subst (λ t. MatchBool t ((is_string_byte c ≡ true) × IsQuoted bs) (IsQuoted (c ∷ bs))) (sym slash)
      quoted,
)

-- what closes the string after a first byte, which may be a backslash, closes it with that byte
quoted_by : (b c : ℕ) (bs : List ℕ) (n k : ℕ) (t : Bool) → (b == 92) ≡ t → is_string_byte b ≡ true → b ≢ 34
    → ((j : ℕ) → quoted_len false bs ≡ Some j → Closes IsQuoted 34 bs j)
    → (quoted_len false (c ∷ bs) ≡ Some k → Closes IsQuoted 34 (c ∷ bs) k) → quoted_len t (c ∷ bs) ≡ Some k → k + 1 ≡ n
    → Closes IsQuoted 34 (b ∷ c ∷ bs) n
quoted_by b c bs n k true slash good mark short long h n_is =
    ⊎_elim
    (λ bad. cc)
    (λ string.
    let m = mapped (λ j. j + 1) (quoted_len false bs) k string.1 in
    let more = short m.0 m.1 in
    record {
      content = b ∷ c ∷ more.content;
      rest = more.rest;
      holds = (
        good,
        mark,
        subst
            (λ u. MatchBool u ((is_string_byte c ≡ true) × IsQuoted more.content) (IsQuoted (c ∷ more.content)))
            (sym slash) (not-false _ string.0, more.holds),
      );
      is = ap (λ l. b ∷ c ∷ l) more.is;
      len = omega (arith, m.2, more.len, n_is);
    })
    (chosen (not (is_string_byte c)) _ _ _ h)
quoted_by b c bs n k false slash good mark short long h n_is =
    let more = long h in
    record {
      content = b ∷ more.content;
      rest = more.rest;
      holds = cons_quoted b more.content good mark slash more.holds;
      is = ap (λ l. b ∷ l) more.is;
      len = omega (arith, more.len, n_is);
    }

-- the length found for an interpreted string is that of its content and the quotation mark after it
pub quoted_closes : (bs : List ℕ) (n : ℕ) → quoted_len false bs ≡ Some n → Closes IsQuoted 34 bs n
quoted_closes [] n h = cc
quoted_closes (b ∷ []) n h =
    ⊎_elim
    (λ bad. cc)
    (λ good. ⊎_elim
    (λ close. record {
      content = [];
      rest = [];
      holds = tt;
      is = ap (λ x. x ∷ []) (eqb-true b 34 close.0);
      len =
          let e : 1 ≡ n = cc in sym e;
    })
    (λ goes. let m = mapped (λ k. k + 1) (quoted_len (b == 92) []) n goes.1 in let e = m.1 in cc)
    (chosen (b == 34) _ _ _ good.1))
    (chosen (not (is_string_byte b)) _ _ _ h)
quoted_closes (b ∷ c ∷ bs) n h =
    ⊎_elim
    (λ bad. cc)
    (λ good. ⊎_elim
    (λ close. record {
      content = [];
      rest = c ∷ bs;
      holds = tt;
      is = ap (λ x. x ∷ c ∷ bs) (eqb-true b 34 close.0);
      len =
          let e : 1 ≡ n = cc in sym e;
    })
    (λ goes.
    let m = mapped (λ k. k + 1) (quoted_len (b == 92) (c ∷ bs)) n goes.1 in
    quoted_by b c bs n m.0 (b == 92) refl (not-false _ good.0) (eqb-false b 34 goes.0) (quoted_closes bs)
    (quoted_closes (c ∷ bs) m.0) m.1 m.2)
    (chosen (b == 34) _ _ _ good.1))
    (chosen (not (is_string_byte b)) _ _ _ h)

-- the first `n` bytes are a token of this kind before the rest
pub record Cuts (kind : TokenKind) (bs : List ℕ) (n : ℕ) : Type 0 where
  pub text : List ℕ
  pub rest : List ℕ
  pub lex : IsLexeme kind text rest
  pub is : bs ≡ text ++ rest
  pub len : n ≡ length text

-- a punctuation byte is a token of the kind found for it
mark_lexeme : (b : ℕ) (kind : TokenKind) (rest : List ℕ) → punctuation_kind b ≡ Some kind → IsLexeme kind (b ∷ []) rest
mark_lexeme b kind rest h =
    ⊎_elim (λ p. mark_is 40 ParenLeft p.0 (same_Some _ _ p.1) refl)
    (λ p. ⊎_elim (λ q. mark_is 41 ParenRight q.0 (same_Some _ _ q.1) refl)
    (λ q. ⊎_elim (λ r. mark_is 91 BracketLeft r.0 (same_Some _ _ r.1) refl)
    (λ r. ⊎_elim (λ s. mark_is 93 BracketRight s.0 (same_Some _ _ s.1) refl)
    (λ s. ⊎_elim (λ u. mark_is 44 Comma u.0 (same_Some _ _ u.1) refl) (λ u. let e = u.1 in cc)
    (chosen (b == 44) _ _ _ s.1))
    (chosen (b == 93) _ _ _ r.1))
    (chosen (b == 91) _ _ _ q.1))
    (chosen (b == 41) _ _ _ p.1))
    (chosen (b == 40) _ _ _ h)
  where
    mark_is : (c : ℕ) (k : TokenKind) → (b == c) ≡ true → k ≡ kind → IsLexeme k (c ∷ []) rest → IsLexeme kind (b ∷ []) rest
    mark_is c k e same lex =
        subst (λ j. IsLexeme j (b ∷ []) rest) same (subst (λ x. IsLexeme k (x ∷ []) rest) (sym (eqb-true b c e)) lex)

kind_lexeme : (t : Bool) (text rest : List ℕ) (kind : TokenKind) → bytes_eq text (codes "=>") ≡ t → 0 < length text
    → IsRun text rest → cond t Arrow Name ≡ kind → IsLexeme kind text rest
kind_lexeme true text rest kind test some run h =
    subst (λ k. IsLexeme k text rest) h ((bytes_eq-Decides text (codes "=>")).0 test, run)
kind_lexeme false text rest kind test some run h =
    subst (λ k. IsLexeme k text rest) h (some, λ e. (let yes = (bytes_eq-Decides text (codes "=>")).1 e in cc), run)

or_false : (x y : Bool) → (x || y) ≡ false → (x ≡ false) × (y ≡ false)
or_false true y h = cc
or_false false y h = (refl, h)

-- the word or arrow found at the front, which is not a comment, is a token of that kind and length
word_cuts : (b : ℕ) (bs : List ℕ) (kind : TokenKind) (n : ℕ) → is_slash_and 47 b bs ≡ false → word_at b bs ≡ Some (kind, n)
    → Cuts kind (b ∷ bs) n
word_cuts b bs kind n no_comment h =
    ⊎_elim
    (λ p.
    let m = mapped (λ k. (Quoted, k + 1)) (quoted_len false bs) (kind, n) p.1 in
    let same = pair_halves m.2 in
    let more = quoted_closes bs m.0 m.1 in
    record {
      text = 34 ∷ (more.content ++ 34 ∷ []);
      rest = more.rest;
      lex = subst (λ k. IsLexeme k (34 ∷ (more.content ++ 34 ∷ [])) more.rest) same.0 (more.content, more.holds, refl);
      is = ap (λ x. x ∷ bs) (eqb-true b 34 p.0)
          ∙ ap (λ l. 34 ∷ l) (more.is ∙ sym (append_assoc more.content (34 ∷ []) more.rest));
      len = omega (arith, same.1, more.len, length-append more.content (34 ∷ []));
    })
    (λ p. ⊎_elim
    (λ q.
    let m = mapped (λ k. (Raw, k + 1)) (raw_len bs) (kind, n) q.1 in
    let same = pair_halves m.2 in
    let more = raw_closes bs m.0 m.1 in
    record {
      text = 96 ∷ (more.content ++ 96 ∷ []);
      rest = more.rest;
      lex = subst (λ k. IsLexeme k (96 ∷ (more.content ++ 96 ∷ [])) more.rest) same.0 (more.content, more.holds, refl);
      is = ap (λ x. x ∷ bs) (eqb-true b 96 q.0)
          ∙ ap (λ l. 96 ∷ l) (more.is ∙ sym (append_assoc more.content (96 ∷ []) more.rest));
      len = omega (arith, same.1, more.len, length-append more.content (96 ∷ []));
    })
    (λ q. ⊎_elim
    (λ r. let e = r.1 in cc)
    (λ r.
    let tests = or_false (not (is_name_byte b)) (is_slash_and 42 b bs) r.0 in
    let m = mapped (λ k. (name_kind (b ∷ take k bs), k + 1)) (name_len bs) (kind, n) r.1 in
    let same = pair_halves m.2 in
    let more = name_runs bs m.0 m.1 in
    let cut : take m.0 bs ≡ more.text = ap (take m.0) more.is ∙ take_at more.text more.rest m.0 (sym more.len) in
    let run : IsRun (b ∷ more.text) more.rest = (
      not-false _ tests.0,
      subst (λ l. is_slash_and 47 b l ≡ false) more.is no_comment,
      subst (λ l. is_slash_and 42 b l ≡ false) more.is tests.1,
      more.run,
    ) in
    record {
      text = b ∷ more.text;
      rest = more.rest;
      lex = kind_lexeme (bytes_eq (b ∷ more.text) (codes "=>")) (b ∷ more.text) more.rest kind refl (omega arith) run
          (ap (λ t. name_kind (b ∷ t)) (sym cut) ∙ same.0);
      is = ap (λ l. b ∷ l) more.is;
      len = omega (arith, same.1, more.len);
    })
    (chosen (not (is_name_byte b) || is_slash_and 42 b bs) _ _ _ q.1))
    (chosen (b == 96) _ _ _ p.1))
    (chosen (b == 34) _ _ _ h)
  where
    pair_halves : {k j : TokenKind} {m i : ℕ} → ◌≡◌ {A = TokenKind × ℕ} (k, m) (j, i) → (k ≡ j) × (m ≡ i)
    pair_halves h = (ap (λ p. p.0) h, ap (λ p. p.1) h)

cuts_by : (o : Option TokenKind) (b : ℕ) (bs : List ℕ) (kind : TokenKind) (n : ℕ) → punctuation_kind b ≡ o
    → is_slash_and 47 b bs ≡ false
    → ◌≡◌ {A = Option (TokenKind × ℕ)} (elim o [ Some k ↦ Some (k, 1) | None ↦ word_at b bs ]) (Some (kind, n))
    → Cuts kind (b ∷ bs) n
cuts_by None b bs kind n mark no_comment h = word_cuts b bs kind n no_comment h
cuts_by (Some k) b bs kind n mark no_comment h =
    let same = some_pair_parts k kind 1 n h in
    record {
      text = b ∷ [];
      rest = bs;
      lex = subst (λ j. IsLexeme j (b ∷ []) bs) same.0 (mark_lexeme b k bs mark);
      is =
          refl;
      len = sym same.1;
    }

pub lexeme_at-cuts : (b : ℕ) (bs : List ℕ) (kind : TokenKind) (n : ℕ) → is_slash_and 47 b bs ≡ false
    → lexeme_at (b ∷ bs) ≡ Some (kind, n) → Cuts kind (b ∷ bs) n
unfolding lexeme_at
lexeme_at-cuts b bs kind n no_comment h = cuts_by (punctuation_kind b) b bs kind n refl no_comment h

-- a blank more in front
gap_more : (line at b : ℕ) (bs : List ℕ) (ts : List Lexeme) → is_blank b ≡ true → AreTokens line (at + 1) bs ts
    → AreTokens line at (b ∷ bs) ts
gap_more line at b bs [] blank h = (b ∷ h.0, h.1, (blank, h.2), h.3, ap (λ l. b ∷ l) h.4)
gap_more line at b bs (t ∷ ts) blank h =
    let there : at + 1 + length h.0 ≡ at + length (b ∷ h.0) = omega arith in (
      b ∷ h.0,
      h.1,
      (blank, h.2),
      h.3,
      ap (λ l. b ∷ l) h.4,
      h.5
          ∙ ap (λ k. lexeme t.kind line k t.text) there,
      subst (λ k. AreTokens line (k + length t.text) h.1 ts) there h.6,
    )

pub after_one : (x : Lexeme) (r : Result (List Lexeme) TokenFault) (ts : List Lexeme) → tokens_then (x ∷ []) r ≡ Ok ts
    → (more : List Lexeme) × (r ≡ Ok more) × (x ∷ more ≡ ts)
after_one x (Ok more) ts h = (more, refl, cc)
after_one x (Err e) ts h = cc

end_only : (line at : ℕ) (bytes : List ℕ) (ts : List Lexeme) → IsEnd bytes
    → ◌≡◌ {A = Result (List Lexeme) TokenFault} (Ok []) (Ok ts) → AreTokens line at bytes ts
end_only line at bytes [] end h = ([], bytes, tt, end, refl)
end_only line at bytes (t ∷ ts) end h = cc

-- the tokens read from bytes that begin with neither a blank nor a comment are theirs, if that holds of all shorter
-- bytes
token_sound : (fuel line at b : ℕ) (bs : List ℕ) (ts : List Lexeme) (o : Option (TokenKind × ℕ))
    → ((offset : ℕ) (rest : List ℕ) (more : List Lexeme) → length rest ≤ fuel
    → tokens_behind 0 line offset rest ≡ Ok more → AreTokens line offset rest more) → length (b ∷ bs) ≤ suc fuel
    → tokens_behind 0 line at (b ∷ bs) ≡ Ok ts → lexeme_at (b ∷ bs) ≡ o → is_blank b ≡ false
    → is_slash_and 47 b bs ≡ false → AreTokens line at (b ∷ bs) ts
token_sound fuel line at b bs ts None below within h found no_blank no_comment =
    let bad = tokens_behind-none line at b bs no_blank no_comment found in cc
token_sound fuel line at b bs ts (Some x) below within h found no_blank no_comment =
    let cuts = lexeme_at-cuts b bs x.0 x.1 no_comment found in
    let some : 0 < x.1 = let begins = lexeme_begins x.0 cuts.text cuts.rest cuts.lex in
    omega (arith, cuts.len, ap length begins.is) in
    let step = tokens_behind-token line at b bs x.0 x.1 no_blank no_comment found some in
    let inside = after_one (lexeme x.0 line at (take x.1 (b ∷ bs)))
    (tokens_behind 0 line (at + x.1) (drop x.1 (b ∷ bs))) ts (sym step ∙ h) in
    let front : take x.1 (b ∷ bs) ≡ cuts.text = ap (take x.1) cuts.is
    ∙ take_at cuts.text cuts.rest x.1 (sym cuts.len) in
    let back : drop x.1 (b ∷ bs) ≡ cuts.rest = ap (drop x.1) cuts.is ∙ drop_at cuts.text cuts.rest x.1 (sym cuts.len) in
    let offset : at + x.1 ≡ at + 0 + length cuts.text = omega (arith, cuts.len) in
    let here : at ≡ at + 0 = omega arith in
    let shorter : length cuts.rest ≤ fuel =
    omega (arith, within, some, cuts.len, ap length cuts.is, length-append cuts.text cuts.rest) in
    let more = below (at + 0 + length cuts.text) cuts.rest inside.0 shorter
    (ap (tokens_behind 0 line (at + 0 + length cuts.text)) (sym back)
    ∙ ap (λ k. tokens_behind 0 line k (drop x.1 (b ∷ bs))) (sym offset) ∙ inside.1) in
    let all : AreTokens line at (b ∷ bs) (lexeme x.0 line at cuts.text ∷ inside.0) =
    ([], cuts.rest, tt, cuts.lex, cuts.is, ap (λ k. lexeme x.0 line k cuts.text) here, more) in
    subst (AreTokens line at (b ∷ bs)) (ap (λ t. lexeme x.0 line at t ∷ inside.0) (sym front) ∙ inside.2) all

-- the tokens computed are those of the line
pub tokens_behind-sound : (fuel line at : ℕ) (bytes : List ℕ) (ts : List Lexeme) → length bytes ≤ fuel
    → tokens_behind 0 line at bytes ≡ Ok ts → AreTokens line at bytes ts
tokens_behind-sound fuel line at [] ts within h = end_only line at [] ts (inl refl) h
tokens_behind-sound zero line at (b ∷ bs) ts within h = absurd (omega (arith, within))
tokens_behind-sound (suc fuel) line at (b ∷ bs) ts within h =
    ⊎_elim
    (λ blank. gap_more line at b bs ts blank.0
    (tokens_behind-sound fuel line (at + 1) bs ts (omega (arith, within)) blank.1))
    (λ solid. ⊎_elim
    (λ comment. end_only line at (b ∷ bs) ts (inr comment.0) comment.1)
    (λ token. token_sound fuel line at b bs ts (lexeme_at (b ∷ bs)) (tokens_behind-sound fuel line) within h refl
    solid.0 token.0)
    (chosen (is_slash_and 47 b bs) _ _ _ solid.1))
    (chosen (is_blank b) _ _ _ h)
