-- The fault that is computed of a line with tokens is the first that it has.
use Rattle.std.proofs.Common.{◌≡◌, ℕ, true, false, not, ◌&&◌, List, [], ◌∷◌, refl, ap, sym, ◌∙◌, subst, Option, Some}
use Rattle.std.proofs.Common.{None, Result, Ok, Err, inl, inr, ⊎_elim}
use Rattle.std.proofs.lemmas.Bool.{both_ways}
use Rattle.modlex.specs.declared.lexer.TokenKind.TheVariants as kinds
use Rattle.gomod.specs.declared.keyword.Keyword.{Keyword}
use Rattle.gomod.specs.declared.fault.GoModFault.{GoModFault}
use Rattle.gomod.specs.declared.fault.GoModFault.TheVariants as faults
use Rattle.modlex.specs.Symbols.{Symbol, is_name_kind}
use Rattle.gomod.specs.Keywords.{Keywords, keyword_named, is_module, has_block, opens_block_kind, closes_block_kind}
use Rattle.gomod.specs.Reading.{Context, Contents, ◌⊕◌, is_repeated, header, with_entry, entry, entry_says, is_opening}
use Rattle.gomod.specs.Reading.{is_closing, directive, line_outside, line_inside, line_says}
use Rattle.gomod.specs.Entries.{Demand, HasShape}
use Rattle.gomod.specs.Grammar.{Directive, OpenBlock, is_single}
use Rattle.gomod.specs.Faults.{HasRoom, IsFilled, IsKeyword, IsUnknown, IsRepeated, IsAllowed, IsRowFault}
use Rattle.modlex.proofs.TokenSound.{chosen}
use Rattle.gomod.proofs.Steps.{fails}
use Rattle.gomod.proofs.Moves.{IsFresh}
use Rattle.gomod.proofs.EntryRight.{entry_fault, IsEntryFault, shape_no_closing}
use Rattle.gomod.proofs.Contexts.{context_at, stands, IsAlone, not_repeated-fresh, repeated-stands, room-context}
use Rattle.gomod.proofs.Contexts.{context-room, filled-context}
use Rattle.gomod.proofs.LineLaw.{name_is, keyword_is}

-- ---- a token is one keyword at most

pub keyword_name : (known : Keywords) (t : Symbol) (k : Keyword) → IsKeyword known t k
    → keyword_named known t.text ≡ Some k
keyword_name known t k is = ap (λ u. keyword_named known u.text) is.0 ∙ is.1

pub keyword_same : (known : Keywords) (t : Symbol) (j k : Keyword) → IsKeyword known t j
    → keyword_named known t.text ≡ Some k → j ≡ k
keyword_same known t j k is named = let other = keyword_name known t j is in cc

pub keyword_kind : (known : Keywords) (t : Symbol) (k : Keyword) → IsKeyword known t k → is_name_kind t.kind ≡ true
keyword_kind known t k is = ap (λ u. is_name_kind u.kind) is.0

-- ---- a block's lines

closing_from : (ts : List Symbol) (p : Symbol) → ts ≡ p ∷ [] → p.kind ≡ kinds.ParenRight → is_closing ts ≡ true
closing_from ts p is kind = ap is_closing is ∙ ap closes_block_kind kind

head_of : (t u : Symbol) (ts us : List Symbol) → t ∷ ts ≡ u ∷ us → (t ≡ u) × (ts ≡ us)
head_of t u ts us h = (cc, cc)

-- outside a block, a line that begins with this keyword and has no shape is not allowed
outside_denied : (known : Keywords) (t : Symbol) (ts : List Symbol) (k : Keyword) → keyword_named known t.text ≡ Some k
    → (has_block k && is_opening ts) ≡ false → ((demands : List Demand) → ¬ HasShape k ts demands)
    → ¬ IsAllowed known None (t ∷ ts)
outside_denied known t ts k named no_block no_shape allowed =
    ⊎_elim (λ none. cc)
    (λ some. ⊎_elim
    (λ d.
    let heads = head_of t d.1 ts (d.2 ∷ []) d.3 in
    let is : IsKeyword known t d.0 = subst (λ u. IsKeyword known u d.0) (sym heads.0) d.4 in
    let same = keyword_same known t d.0 k is named in
    let may : has_block k ≡ true = subst (λ j. has_block j ≡ true) same d.5 in
    let opening : is_opening ts ≡ true = ap is_opening heads.1 ∙ ap opens_block_kind d.6 in
    both_ways (has_block k && is_opening ts) no_block (ap (λ b. b && is_opening ts) may ∙ opening))
    (λ a. no_shape a.0 (subst (λ j. HasShape j ts a.0) (keyword_same known t a.1.0 k a.1.1 named) a.1.2))
    some)
    allowed

-- a line that begins with no keyword is not allowed outside a block
nameless_denied : (known : Keywords) (t : Symbol) (ts : List Symbol) → is_name_kind t.kind ≡ false
    → ¬ IsAllowed known None (t ∷ ts)
nameless_denied known t ts nameless allowed =
    ⊎_elim (λ none. cc)
    (λ some. ⊎_elim
    (λ d.
    let heads = head_of t d.1 ts (d.2 ∷ []) d.3 in
    both_ways (is_name_kind t.kind) nameless
    (keyword_kind known t d.0 (subst (λ u. IsKeyword known u d.0) (sym heads.0) d.4)))
    (λ a. both_ways (is_name_kind t.kind) nameless (keyword_kind known t a.1.0 a.1.1))
    some)
    allowed

-- in a block, a line that is no end of it and no entry is not allowed
inside_denied : (known : Keywords) (b : OpenBlock) (t : Symbol) (ts : List Symbol)
    → (is_closing (t ∷ ts) ≡ true → ¬ IsFilled b)
    → ((demands : List Demand) → HasRoom b → ¬ HasShape b.keyword (t ∷ ts) demands)
    → ¬ IsAllowed known (Some b) (t ∷ ts)
inside_denied known b t ts no_end no_entry allowed =
    ⊎_elim (λ none. cc)
    (λ some. ⊎_elim
    (λ d. no_end (closing_from (t ∷ ts) d.0 d.1 d.2) d.3)
    (λ a. no_entry a.0 a.1.0 a.1.1)
    some)
    allowed

-- ---- the computed fault

entry_fails : (line : ℕ) (c : Context) (k : Keyword) (ts : List Symbol) (f : GoModFault)
    → entry_says line c k ts ≡ Err f → entry line k ts ≡ Err f
entry_fails line c k ts f h =
    ⊎_elim (λ e. e) (λ x. (let bad = x.2 in cc)) (fails (entry line k ts) (λ p. Ok (with_entry c k, p)) f h)

-- of an entry, behind a keyword
single_fault : (known : Keywords) (line : ℕ) (ds : List Directive) (t : Symbol) (ts : List Symbol) (k : Keyword)
    (f : GoModFault) → IsKeyword known t k → keyword_named known t.text ≡ Some k
    → ¬ IsUnknown known None (t ∷ ts) → ¬ IsRepeated known ds None (t ∷ ts) → (has_block k && is_opening ts) ≡ false
    → IsEntryFault line k ts f → IsRowFault known ds None line (t ∷ ts) f
single_fault known line ds t ts k f is named no_unknown no_twice no_block h =
    inr (
      no_unknown,
      inr (
        no_twice,
        ⊎_elim
            (λ shapeless. inl (outside_denied known t ts k named no_block shapeless.0, shapeless.1))
            (λ words. inr (words.0, (k, is, words.1), words.2))
            h,
      ),
    )

fresh_once : (known : Keywords) (ds : List Directive) (t : Symbol) (ts : List Symbol) (k : Keyword)
    → keyword_named known t.text ≡ Some k → IsFresh ds k → ¬ IsRepeated known ds None (t ∷ ts)
fresh_once known ds t ts k named fresh r =
    let same = keyword_same known t r.0 k r.1 named in
    both_ways (stands k ds) (fresh (subst (λ j. is_single j ≡ true) same r.2))
    (subst (λ j. stands j ds ≡ true) same r.3)

-- the fault found in a line after its keyword, outside a block, is the fault of the line
directive_fault : (known : Keywords) (line : ℕ) (ds : List Directive) (t : Symbol) (ts : List Symbol) (k : Keyword)
    (f : GoModFault) → IsKeyword known t k
    → keyword_named known t.text ≡ Some k → directive line (context_at ds None) k ts ≡ Err f
    → IsRowFault known ds None line (t ∷ ts) f
unfolding directive
directive_fault known line ds t ts k f is named h =
    let no_unknown : ¬ IsUnknown known None (t ∷ ts) = λ u. (let none = u.1 in cc) in
    ⊎_elim
    (λ twice.
    let r = repeated-stands ds k twice.0 in
    inr (no_unknown, inl ((k, is, r.0, r.1), (let same = twice.1 in cc))))
    (λ fresh.
    let no_twice = fresh_once known ds t ts k named (not_repeated-fresh ds k fresh.0) in
    ⊎_elim
    (λ block. (let bad = block.1 in cc))
    (λ single_. ⊎_elim
    (λ e. single_fault known line ds t ts k f is named no_unknown no_twice single_.0
    (entry_fault line k ts f (entry_fails line (context_at ds None) k ts f e)))
    (λ x. (let bad = x.2 in cc))
    (fails (entry_says line (context_at ds None) k ts) (λ x. Ok (x.0, header k ⊕ x.1)) f single_.1))
    (chosen (has_block k && is_opening ts) _ _ _ fresh.1))
    (chosen (is_repeated (context_at ds None) k) _ _ _ h)

named_fault : (ks : Keywords) (line : ℕ) (ds : List Directive) (t : Symbol) (ts : List Symbol) (f : GoModFault)
    (o : Option Keyword) → keyword_named ks t.text ≡ o → is_name_kind t.kind ≡ true
    → ◌≡◌ {A = Result (Context × Contents) GoModFault}
    (elim o [ None ↦ Err (faults.Unknown line) | Some k ↦ directive line (context_at ds None) k ts ]) (Err f)
    → IsRowFault ks ds None line (t ∷ ts) f
named_fault known line ds t ts f None named name h = inl ((name_is t.kind name, named), cc)
named_fault known line ds t ts f (Some k) named name h =
    directive_fault known line ds t ts k f (keyword_is known t k name named) named h

nameless_fault : (known : Keywords) (line : ℕ) (ds : List Directive) (t : Symbol) (ts : List Symbol) (f : GoModFault)
    → is_name_kind t.kind ≡ false → f ≡ faults.Grammar line → IsRowFault known ds None line (t ∷ ts) f
nameless_fault known line ds t ts f nameless is =
    inr (
      λ u. both_ways (is_name_kind t.kind) nameless (ap is_name_kind u.0),
      inr (
        λ r. both_ways (is_name_kind t.kind) nameless (keyword_kind known t r.0 r.1),
        inl (nameless_denied known t ts nameless, is),
      ),
    )

-- the fault found in a line inside a block is the fault of the line
inside_fault : (known : Keywords) (line : ℕ) (ds : List Directive) (b : OpenBlock) (t : Symbol) (ts : List Symbol)
    (f : GoModFault)
    → IsAlone ds (Some b) → line_inside line (context_at ds (Some b)) b.keyword (t ∷ ts) ≡ Err f
    → IsRowFault known ds (Some b) line (t ∷ ts) f
unfolding line_inside
inside_fault known line ds b t ts f alone h =
    ⊎_elim
    (λ closing. ⊎_elim
    (λ empty. inr (
      λ u. u,
      inr (
        λ r. r,
        inl (
          inside_denied known b t ts
              (λ _ filled. both_ways _ (filled-context ds b alone filled) empty.0)
              (λ demands _ shape. both_ways (is_closing (t ∷ ts)) (shape_no_closing b.keyword (t ∷ ts) demands shape)
              closing.0),
          (let same = empty.1 in cc),
        ),
      ),
    ))
    (λ full. (let bad = full.1 in cc))
    (chosen (is_module b.keyword && not (context_at ds (Some b)).has_module) _ _ _ closing.1))
    (λ other. ⊎_elim
    (λ full. inr (
      λ u. u,
      inr (
        λ r. r,
        inl (
          inside_denied known b t ts
              (λ closing _. both_ways (is_closing (t ∷ ts)) other.0 closing)
              (λ demands room _. both_ways _ (room-context ds b alone room) full.0),
          (let same = full.1 in cc),
        ),
      ),
    ))
    (λ room. inr (
      λ u. u,
      inr (
        λ r. r,
        ⊎_elim
            (λ shapeless. inl (
              inside_denied known b t ts (λ closing _. both_ways (is_closing (t ∷ ts)) other.0 closing)
                  (λ demands _ shape. shapeless.0 demands shape),
              shapeless.1,
            ))
            (λ words. inr (words.0, (context-room ds b alone room.0, words.1), words.2))
            (entry_fault line b.keyword (t ∷ ts) f
            (entry_fails line (context_at ds (Some b)) b.keyword (t ∷ ts) f room.1)),
      ),
    ))
    (chosen (is_module b.keyword && (context_at ds (Some b)).has_module) _ _ _ other.1))
    (chosen (is_closing (t ∷ ts)) _ _ _ h)

-- where a line says a fault, the fault is that of its row
pub says_fault : (known : Keywords) (line : ℕ) (ds : List Directive) (o : Option OpenBlock) (ts : List Symbol)
    (f : GoModFault)
    → IsAlone ds o → line_says known line (context_at ds o) ts ≡ Err f → IsRowFault known ds o line ts f
unfolding line_says line_outside
says_fault known line ds o [] f alone h = cc
says_fault known line ds None (t ∷ ts) f alone h =
    ⊎_elim
    (λ name. named_fault known line ds t ts f (keyword_named known t.text) refl name.0 name.1)
    (λ nameless. nameless_fault known line ds t ts f nameless.0 (let same = nameless.1 in cc))
    (chosen (is_name_kind t.kind) _ _ _ h)
says_fault known line ds (Some b) (t ∷ ts) f alone h = inside_fault known line ds b t ts f alone h
