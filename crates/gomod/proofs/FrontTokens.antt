-- A line of too many tokens says what its first ones say.
use Rattle.std.proofs.Common.{◌≡◌, ℕ, false, ◌&&◌, List, [], ◌∷◌, map, take, refl, ap, sym, ◌∙◌, subst, Option, Some}
use Rattle.std.proofs.Common.{None, Result, Ok, Err, if◌then◌else◌}
use Rattle.std.proofs.lemmas.List.{take-map}
use Rattle.modlex.specs.declared.lexer.TokenFault.{TokenFault}
use Rattle.modlex.specs.declared.lexer.TokenFault.TheVariants as token_faults
use Rattle.modlex.specs.declared.lexer.Token.{Token}
use Rattle.gomod.specs.declared.keyword.Keyword.{Keyword}
use Rattle.gomod.specs.declared.keyword.Keyword.TheVariants.{Module, Go, Toolchain, Require, Exclude, Replace, Retract}
use Rattle.gomod.specs.declared.keyword.Keyword.TheVariants.{Tool, Godebug, Ignore}
use Rattle.gomod.specs.declared.fault.GoModFault.{GoModFault}
use Rattle.gomod.specs.declared.fault.GoModFault.TheVariants as faults
use Rattle.modlex.specs.Lexer as lexer
use Rattle.modlex.specs.Lexer.{Lexeme, views, line_tokens, first_of}
use Rattle.modlex.specs.Symbols.{Symbol, symbol_of, symbols, is_name_kind}
use Rattle.gomod.specs.Keywords.{Keywords, keyword_named, is_module, has_block}
use Rattle.gomod.specs.State.{said_after}
use Rattle.gomod.specs.Reading.{Context, Contents, Fails, Gives, ◌>>=◌, ◌⊕◌, header, is_repeated, with_entry}
use Rattle.gomod.specs.Reading.{module_entry, go_entry, word_entry, pair_entry}
use Rattle.gomod.specs.Reading.{replace_entry, retract_entry, entry, entry_says, directive, line_outside, line_inside}
use Rattle.gomod.specs.Reading.{line_says, token_fault, as_reader, bytes_say}

-- an entry of more than five tokens has no right form, whatever stands behind
entry_long : (line : ℕ) (k : Keyword) (b c d e f g : Symbol) (ts us : List Symbol)
    → entry line k (b ∷ c ∷ d ∷ e ∷ f ∷ g ∷ ts) ≡ entry line k (b ∷ c ∷ d ∷ e ∷ f ∷ g ∷ us)
unfolding entry module_entry go_entry word_entry pair_entry replace_entry retract_entry
entry_long line Module b c d e f g ts us = refl
entry_long line Go b c d e f g ts us = refl
entry_long line Toolchain b c d e f g ts us = refl
entry_long line Require b c d e f g ts us = refl
entry_long line Exclude b c d e f g ts us = refl
entry_long line Replace b c d e f g ts us = refl
entry_long line Retract b c d e f g ts us = refl
entry_long line Tool b c d e f g ts us = refl
entry_long line Godebug b c d e f g ts us = refl
entry_long line Ignore b c d e f g ts us = refl

-- a directive that begins no block, by what its entry says
headed : ℕ → Context → Keyword → Result (Context × Contents) GoModFault → Result (Context × Contents) GoModFault
headed line o k said =
    if is_repeated o k then Err (faults.Twice line)
    else (if has_block k && false then Ok
    (record { block = Some k; has_module = o.has_module; once_only = o.once_only }, header k)
    else said >>= (λ x. Ok (x.0, header k ⊕ x.1)))

entry_says_long : (line : ℕ) (o : Context) (k : Keyword) (b c d e f g : Symbol) (ts us : List Symbol)
    → entry_says line o k (b ∷ c ∷ d ∷ e ∷ f ∷ g ∷ ts) ≡ entry_says line o k (b ∷ c ∷ d ∷ e ∷ f ∷ g ∷ us)
entry_says_long line o k b c d e f g ts us =
    ap (λ r. r >>= (λ p. Ok (with_entry o k, p))) (entry_long line k b c d e f g ts us)

-- a line with an entry of more than five tokens does not depend on the tokens after the sixth
directive_long : (line : ℕ) (o : Context) (k : Keyword) (b c d e f g : Symbol) (ts us : List Symbol)
    → directive line o k (b ∷ c ∷ d ∷ e ∷ f ∷ g ∷ ts) ≡ directive line o k (b ∷ c ∷ d ∷ e ∷ f ∷ g ∷ us)
unfolding directive headed
directive_long line o k b c d e f g ts us = ap (headed line o k) (entry_says_long line o k b c d e f g ts us)

named_long : (line : ℕ) (o : Context) (n : Option Keyword) (b c d e f g : Symbol) (ts us : List Symbol)
    → ◌≡◌ {A = Result (Context × Contents) GoModFault} (elim n [
      | None ↦ Err (faults.Unknown line)
      | Some k ↦ directive line o k (b ∷ c ∷ d ∷ e ∷ f ∷ g ∷ ts)
    ]) (elim n [ None ↦ Err (faults.Unknown line) | Some k ↦ directive line o k (b ∷ c ∷ d ∷ e ∷ f ∷ g ∷ us) ])
named_long line o None b c d e f g ts us = refl
named_long line o (Some k) b c d e f g ts us = directive_long line o k b c d e f g ts us

outside_long : (known : Keywords) (line : ℕ) (o : Context) (a b c d e f g : Symbol) (ts us : List Symbol)
    → line_outside known line o a (b ∷ c ∷ d ∷ e ∷ f ∷ g ∷ ts)
    ≡ line_outside known line o a (b ∷ c ∷ d ∷ e ∷ f ∷ g ∷ us)
unfolding line_outside
outside_long known line o a b c d e f g ts us =
    ap (λ r. if is_name_kind a.kind then r else Err (faults.Grammar line))
    (named_long line o (keyword_named known a.text) b c d e f g ts us)

inside_long : (line : ℕ) (o : Context) (k : Keyword) (a b c d e f g : Symbol) (ts us : List Symbol)
    → line_inside line o k (a ∷ b ∷ c ∷ d ∷ e ∷ f ∷ g ∷ ts) ≡ line_inside line o k (a ∷ b ∷ c ∷ d ∷ e ∷ f ∷ g ∷ us)
unfolding line_inside
inside_long line o k a b c d e f g ts us =
    ap (λ r. if is_module k && o.has_module then Err (faults.Grammar line) else r)
    (entry_says_long line o k a b c d e f (g ∷ ts) (g ∷ us))

says_long : (known : Keywords) (line : ℕ) (o : Context) (n : Option Keyword) (a b c d e f g : Symbol)
    (ts us : List Symbol)
    → ◌≡◌ {A = Result (Context × Contents) GoModFault}
    (elim n [
      | None ↦ line_outside known line o a (b ∷ c ∷ d ∷ e ∷ f ∷ g ∷ ts)
      | Some k ↦ line_inside line o k (a ∷ b ∷ c ∷ d ∷ e ∷ f ∷ g ∷ ts)
    ])
    (elim n [
      | None ↦ line_outside known line o a (b ∷ c ∷ d ∷ e ∷ f ∷ g ∷ us)
      | Some k ↦ line_inside line o k (a ∷ b ∷ c ∷ d ∷ e ∷ f ∷ g ∷ us)
    ])
says_long known line o None a b c d e f g ts us = outside_long known line o a b c d e f g ts us
says_long known line o (Some k) a b c d e f g ts us = inside_long line o k a b c d e f g ts us

-- seven tokens tell what a line says
front_says : (known : Keywords) (line : ℕ) (o : Context) (ts : List Symbol)
    → line_says known line o (take 7 ts) ≡ line_says known line o ts
unfolding line_says
front_says known line o [] = refl
front_says known line o (a ∷ []) = refl
front_says known line o (a ∷ b ∷ []) = refl
front_says known line o (a ∷ b ∷ c ∷ []) = refl
front_says known line o (a ∷ b ∷ c ∷ d ∷ []) = refl
front_says known line o (a ∷ b ∷ c ∷ d ∷ e ∷ []) = refl
front_says known line o (a ∷ b ∷ c ∷ d ∷ e ∷ f ∷ []) = refl
front_says known line o (a ∷ b ∷ c ∷ d ∷ e ∷ f ∷ g ∷ ts) = says_long known line o o.block a b c d e f g [] ts

-- what is read of the first tokens of a line is what the line says
front_by : (known : Keywords) (line : ℕ) (o : Context) (r : Result (List Lexeme) TokenFault) (ts : List Lexeme)
    → first_of 7 r ≡ Ok ts
    → as_reader r >>= (λ us. line_says known line o (map symbol_of us)) ≡ line_says known line o (map symbol_of ts)
front_by known line o (Err e) ts h = cc
front_by known line o (Ok us) ts h =
    let same : take 7 us ≡ ts = cc in
    sym (front_says known line o (map symbol_of us)) ∙ ap (line_says known line o) (take-map symbol_of 7 us)
    ∙ ap (λ l. line_says known line o (map symbol_of l)) same

fault_by : (known : Keywords) (line : ℕ) (o : Context) (r : Result (List Lexeme) TokenFault) (e : TokenFault)
    → first_of 7 r ≡ Err e → as_reader r >>= (λ us. line_says known line o (map symbol_of us)) ≡ Err (token_fault e)
fault_by known line o (Ok us) e h = cc
fault_by known line o (Err d) e h = ap (λ x. Err (token_fault x)) (let same : d ≡ e = cc in same)

said_by_front : (known : Keywords) (line : ℕ) (o : Context) (l : List ℕ) (ts : List Lexeme)
    → first_of 7 (line_tokens line 0 l) ≡ Ok ts → bytes_say known line o l ≡ line_says known line o (map symbol_of ts)
unfolding bytes_say
said_by_front known line o l ts h = front_by known line o (line_tokens line 0 l) ts h

-- what was read of the first tokens of a line is what was to be read of its bytes
pub gives_front : {X : Type 0} (shown : X → Context × Contents) (read : Result X GoModFault) (p : Contents)
    (known : Keywords) (line : ℕ) (o : Context) (l : List ℕ) (us vs : List Token) → us ≡ vs
    → first_of 7 (line_tokens line 0 l) ≡ Ok (views vs)
    → Gives shown read (said_after p (line_says known line o (symbols us)))
    → Gives shown read (said_after p (bytes_say known line o l))
gives_front shown read p known line o l us vs same h g =
    subst (λ r. Gives shown read (said_after p r))
    (ap (λ ts. line_says known line o (symbols ts)) same ∙ sym (said_by_front known line o l (views vs) h)) g

faulty_by_front : (known : Keywords) (line : ℕ) (o : Context) (l : List ℕ) (e : TokenFault)
    → first_of 7 (line_tokens line 0 l) ≡ Err e → bytes_say known line o l ≡ Err (token_fault e)
unfolding bytes_say
faulty_by_front known line o l e h = fault_by known line o (line_tokens line 0 l) e h

pub fails_front : (known : Keywords) (line : ℕ) (o : Context) (l : List ℕ) (p : Contents) (e : TokenFault)
    → lexer.Fails e (first_of 7 (line_tokens line 0 l))
    → Fails (token_fault e) (said_after p (bytes_say known line o l))
fails_front known line o l p (token_faults.Lex n) h =
    ap (said_after p) (faulty_by_front known line o l (token_faults.Lex n) h)
fails_front known line o l p token_faults.Memory h = tt
