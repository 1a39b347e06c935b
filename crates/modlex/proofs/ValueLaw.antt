-- The computed value of a token is the one value that it has.
use Rattle.std.proofs.Common.{◌≡◌, ◌↔◌, ℕ, ◌+◌, Bool, true, false, ◌==◌, cond, List, [], ◌∷◌, ◌++◌, length, refl, ap}
use Rattle.std.proofs.Common.{sym, ◌∙◌, subst, MatchBool}
use Rattle.std.proofs.lemmas.Bool.{ne_eqb}
use Rattle.std.specs.List.{AllByRecursion}
use Rattle.modlex.specs.declared.lexer.TokenKind.{TokenKind}
use Rattle.modlex.specs.declared.lexer.TokenKind.TheVariants.{Name, Quoted, Raw, Arrow, Comma, ParenLeft, ParenRight}
use Rattle.modlex.specs.declared.lexer.TokenKind.TheVariants.{BracketLeft, BracketRight}
use Rattle.modlex.specs.Bytes.{is_string_byte}
use Rattle.modlex.specs.Lexer.{Lexeme}
use Rattle.modlex.specs.Tokens.{IsQuoted, IsLexeme, AreTokens}
use Rattle.modlex.specs.Words.{without_last, inside, plain_text, value_of_text, value_of}
use Rattle.modlex.specs.Values.{Spells, HasValue, ValueIsExact}
use Rattle.modlex.proofs.WordLemmas.{without_first-there, without_last-there}

-- one byte more, escaped or not
abbrev Says : List ℕ → Type 0
Says content = IsQuoted content → Spells content (plain_text content)

says_by : (b c : ℕ) (bs : List ℕ) (t : Bool) → Says bs → Says (c ∷ bs)
    → MatchBool t ((is_string_byte c ≡ true) × IsQuoted bs) (IsQuoted (c ∷ bs))
    → MatchBool t ((rest : List ℕ) × Spells bs rest
    × (cond t (c ∷ plain_text bs) (b ∷ plain_text (c ∷ bs)) ≡ c ∷ rest))
    ((rest : List ℕ) × Spells (c ∷ bs) rest × (cond t (c ∷ plain_text bs) (b ∷ plain_text (c ∷ bs)) ≡ b ∷ rest))
says_by b c bs true short long q = (plain_text bs, short q.1, refl)
says_by b c bs false short long q = (plain_text (c ∷ bs), long q, refl)

plain_spells : (content : List ℕ) → Says content
plain_spells [] = λ q. refl
plain_spells (b ∷ []) = λ q. (let plain = ne_eqb b 92 q.2 in rw plain refl)
plain_spells (b ∷ c ∷ bs) = λ q. says_by b c bs (b == 92) (plain_spells bs) (plain_spells (c ∷ bs)) q.2

same_by : (b c : ℕ) (bs value : List ℕ) (t : Bool) → ((v : List ℕ) → IsQuoted bs → Spells bs v → v ≡ plain_text bs)
    → ((v : List ℕ) → IsQuoted (c ∷ bs) → Spells (c ∷ bs) v → v ≡ plain_text (c ∷ bs))
    → MatchBool t ((is_string_byte c ≡ true) × IsQuoted bs) (IsQuoted (c ∷ bs))
    → MatchBool t ((rest : List ℕ) × Spells bs rest × (value ≡ c ∷ rest))
    ((rest : List ℕ) × Spells (c ∷ bs) rest × (value ≡ b ∷ rest))
    → value ≡ cond t (c ∷ plain_text bs) (b ∷ plain_text (c ∷ bs))
same_by b c bs value true short long q h = h.2 ∙ ap (λ l. c ∷ l) (short h.0 q.1 h.1)
same_by b c bs value false short long q h = h.2 ∙ ap (λ l. b ∷ l) (long h.0 q h.1)

spells_same : (content value : List ℕ) → IsQuoted content → Spells content value → value ≡ plain_text content
spells_same [] value q h = h
spells_same (b ∷ []) value q h = let plain = ne_eqb b 92 q.2 in rw plain h
spells_same (b ∷ c ∷ bs) value q h =
    same_by b c bs value (b == 92) (λ v. spells_same bs v) (λ v. spells_same (c ∷ bs) v) q.2 h

-- what stands between two marks
between : (mark : ℕ) (content : List ℕ) → inside mark (mark ∷ (content ++ mark ∷ [])) ≡ content
between mark content = ap (without_last mark) (without_first-there mark (content ++ mark ∷ []))
    ∙ without_last-there mark content

inside_same : (mark : ℕ) (xs ys text : List ℕ) → text ≡ mark ∷ (xs ++ mark ∷ []) → text ≡ mark ∷ (ys ++ mark ∷ [])
    → xs ≡ ys
inside_same mark xs ys text h k = sym (between mark xs) ∙ ap (inside mark) (sym h ∙ k) ∙ between mark ys

-- a token has exactly one value, the computed one
value_is : (kind : TokenKind) (text rest : List ℕ) → IsLexeme kind text rest → (value : List ℕ)
    → HasValue kind text value ↔ (value ≡ value_of_text kind text)
value_is Quoted text rest lex value =
    let computed : value_of_text Quoted text ≡ plain_text lex.0 = ap (λ x. plain_text (inside 34 x)) lex.2
    ∙ ap plain_text (between 34 lex.0) in (
      λ h. spells_same lex.0 value lex.1 (subst (λ x. Spells x value) (inside_same 34 h.0 lex.0 text h.1 lex.2) h.2)
          ∙ sym computed,
      λ e. (lex.0, lex.2, subst (Spells lex.0) (sym (e ∙ computed)) (plain_spells lex.0 lex.1)),
    )
value_is Raw text rest lex value =
    let computed : value_of_text Raw text ≡ lex.0 = ap (inside 96) lex.2 ∙ between 96 lex.0 in (
      λ h. inside_same 96 value lex.0 text h lex.2 ∙ sym computed,
      λ e. lex.2
          ∙ ap (λ x. 96 ∷ (x ++ 96 ∷ [])) (sym (e ∙ computed)),
    )
value_is Name text rest lex value = (λ h. h, λ e. e)
value_is Arrow text rest lex value = (λ h. h, λ e. e)
value_is Comma text rest lex value = (λ h. h, λ e. e)
value_is ParenLeft text rest lex value = (λ h. h, λ e. e)
value_is ParenRight text rest lex value = (λ h. h, λ e. e)
value_is BracketLeft text rest lex value = (λ h. h, λ e. e)
value_is BracketRight text rest lex value = (λ h. h, λ e. e)

pub values_are : (line at : ℕ) (bytes : List ℕ) (ts : List Lexeme) → AreTokens line at bytes ts
    → AllByRecursion ValueIsExact ts
unfolding value_of
values_are line at bytes [] h = tt
values_are line at bytes (t ∷ ts) h =
    (value_is t.kind t.text h.1 h.3, values_are line (at + length h.0 + length t.text) h.1 ts h.6)
