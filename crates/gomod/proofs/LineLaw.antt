-- What is computed of a line is what it makes of the directives above it.
use Rattle.std.proofs.Common.{◌≡◌, ℕ, Bool, true, false, not, ◌&&◌, List, [], ◌∷◌, ◌++◌, refl, ap, sym, ◌∙◌, subst}
use Rattle.std.proofs.Common.{Option, Some, None, Result, Ok, Err, codes, ⊎_elim}
use Rattle.std.specs.List.{list_all, AllByRecursion}
use Rattle.modlex.specs.declared.lexer.TokenKind.{TokenKind}
use Rattle.modlex.specs.declared.lexer.TokenKind.TheVariants as kinds
use Rattle.gomod.specs.declared.keyword.Keyword.{Keyword}
use Rattle.gomod.specs.declared.fault.GoModFault.{GoModFault}
use Rattle.gomod.specs.declared.fault.GoModFault.TheVariants as faults
use Rattle.modlex.specs.Symbols.{Symbol, is_name_kind}
use Rattle.gomod.specs.Keywords.{Keywords, keyword_named, is_module, has_block, opens_block_kind, closes_block_kind}
use Rattle.gomod.specs.Reading.{Context, Contents, nothing, ◌⊕◌, ◌>>=◌, is_repeated, header, with_entry, entry}
use Rattle.gomod.specs.Reading.{entry_says, is_opening, is_closing, directive, line_outside, line_inside, line_says}
use Rattle.gomod.specs.declared.keyword.Keyword.TheVariants.{Module}
use Rattle.gomod.specs.Reads.{Pointwise}
use Rattle.gomod.specs.Entries.{IsModuleEntry}
use Rattle.gomod.specs.Grammar.{Row, row, keyword_symbol, left, right, Directive, one, OpenBlock, Item, item}
use Rattle.gomod.specs.Grammar.{entries_under, IsKnown}
use Rattle.gomod.specs.Faults.{HasRoom, IsFilled, IsKeyword}
use Rattle.modlex.proofs.TokenSound.{chosen}
use Rattle.gomod.proofs.Bools.{and_none, and_one}
use Rattle.gomod.proofs.Pass.{last_path-none}
use Rattle.gomod.proofs.Steps.{guarded, bound}
use Rattle.gomod.proofs.Moves.{Move, blank, single, begins, inside, closes, with_row, closed, IsFresh, keywords_more}
use Rattle.gomod.proofs.Moves.{items_more}
use Rattle.gomod.proofs.EntryMeaning.{AreMeant, path_list, entry_means}
use Rattle.gomod.proofs.EntryRight.{entry_right, right_entry, shape_no_opening, shape_no_closing, named_spelling}
use Rattle.gomod.proofs.Contexts.{context_at, IsAlone, fresh-not_repeated, not_repeated-fresh, context-single}
use Rattle.gomod.proofs.Contexts.{context-begins}
use Rattle.gomod.proofs.Contexts.{context-inside, context-closes, room-context, context-room, filled-context}
use Rattle.gomod.proofs.Contexts.{context-filled}

-- ---- a move is computed

-- what a line says of the entries and keywords that it adds
pub record Says (known : Keywords) (line : ℕ) (c d : Context) (ts : List Symbol) (is : List Item)
    (ks : List Keyword) : Type 0 where
  pub said : Contents
  pub is_said : line_says known line c ts ≡ Ok (d, said)
  pub meant : AreMeant is said
  pub bare : said.bare ≡ list_all is_module ks

-- a line that begins with a keyword
outside_is : (known : Keywords) (line : ℕ) (ds : List Directive) (k : Keyword) (ts : List Symbol) → IsKnown known k
    → line_says known line (context_at ds None) (keyword_symbol k ∷ ts) ≡ directive line (context_at ds None) k ts
unfolding line_says line_outside
outside_is known line ds k ts known_k = rw known_k refl

-- a line with a keyword that may come here and an entry that is read says what the keyword and the entry say
directive_entry : (line : ℕ) (c : Context) (k : Keyword) (ts : List Symbol) (q : Contents) → is_repeated c k ≡ false
    → is_opening ts ≡ false → entry line k ts ≡ Ok q → directive line c k ts ≡ Ok (with_entry c k, header k ⊕ q)
unfolding directive
directive_entry line c k ts q fresh no_opening is =
    let other : (has_block k && is_opening ts) ≡ false = ap (λ b. has_block k && b) no_opening
    ∙ and_none (has_block k) in
    let said : entry_says line c k ts ≡ Ok (with_entry c k, q) = ap (λ r. r >>= (λ p. Ok (with_entry c k, p))) is in
    rw (fresh, other) (ap (λ r. r >>= (λ x. Ok (x.0, header k ⊕ x.1))) said)

directive_begins : (line : ℕ) (ds : List Directive) (k : Keyword) → IsFresh ds k → has_block k ≡ true
    → directive line (context_at ds None) k (left ∷ [])
    ≡ Ok (context_at ds (Some (record { keyword = k; first = line; entries = [] })), header k)
unfolding directive
directive_begins line ds k fresh h =
    let once = fresh-not_repeated ds k fresh in
    rw (once, h) (ap (λ c. Ok (c, header k)) (context-begins ds k line))

meant_behind : (k : Keyword) (is : List Item) (q : Contents) → AreMeant is q → AreMeant is (header k ⊕ q)
meant_behind k is q m = record {
  paths = subst (λ p. Pointwise (λ e x. IsModuleEntry e.symbols x) (entries_under Module is) (path_list p))
      (sym (last_path-none q.module_path)) m.paths;
  go = m.go;
  required = m.required;
  retractions = m.retractions;
}

inside_entry : (known : Keywords) (line : ℕ) (ds : List Directive) (b : OpenBlock) (t : Symbol) (ts : List Symbol)
    (q : Contents) → IsAlone ds (Some b) → HasRoom b → is_closing (t ∷ ts) ≡ false
    → entry line b.keyword (t ∷ ts) ≡ Ok q
    → line_says known line (context_at ds (Some b)) (t ∷ ts)
    ≡ Ok (context_at ds (Some (with_row b (row line (t ∷ ts)))), q)
unfolding line_says line_inside
inside_entry known line ds b t ts q alone room no_closing is =
    let has_room = room-context ds b alone room in
    rw (no_closing, has_room)
    (ap (λ r. r >>= (λ p. Ok (with_entry (context_at ds (Some b)) b.keyword, p))) is
    ∙ ap (λ c. Ok (c, q)) (context-inside ds b (row line (t ∷ ts)) alone.0))

inside_closes : (known : Keywords) (line : ℕ) (ds : List Directive) (b : OpenBlock) → IsAlone ds (Some b) → IsFilled b
    → line_says known line (context_at ds (Some b)) (right ∷ [])
    ≡ Ok (context_at (ds ++ closed b line ∷ []) None, nothing)
unfolding line_says line_inside
inside_closes known line ds b alone filled =
    let full = filled-context ds b alone filled in
    rw full (ap (λ c. Ok (c, nothing)) (context-closes ds b line alone.0 filled))

and_itself : (a b : Bool) → b ≡ true → (a && b) ≡ (a && true)
and_itself a b h = ap (λ x. a && x) h

-- a line that is a move by the grammar is read, and says what the move adds
pub move_says : {known : Keywords} {ds es : List Directive} {o p : Option OpenBlock} {r : Row}
    (m : Move known ds o r es p)
    → IsAlone ds o → Says known r.line (context_at ds o) (context_at es p) r.symbols (items_more m) (keywords_more m)
unfolding line_says
move_says (blank ds o line) alone =
    record {
      said = nothing;
      is_said = refl;
      meant = record { paths = tt; go = tt; required = tt; retractions = tt };
      bare =
          refl;
    }
move_says {known = known} (single ds line k ts known_k fresh is_right) alone =
    let q = right_entry line k ts is_right in
    let means = entry_means line k ts q.0 q.1 in
    record {
      said = header k ⊕ q.0;
      is_said = outside_is known line ds k ts known_k
          ∙ directive_entry line (context_at ds None) k ts q.0 (fresh-not_repeated ds k fresh)
          (shape_no_opening k ts is_right.0 is_right.1) q.1
          ∙ ap (λ c. Ok (c, header k ⊕ q.0)) (context-single ds k (one k (row line ts)) refl);
      meant = meant_behind k (item k (row line ts) ∷ []) q.0 means.0;
      bare = and_itself (is_module k) q.0.bare means.1;
    }
move_says {known = known} (begins ds line k known_k fresh h) alone = record {
  said = header k;
  is_said = outside_is known line ds k (left ∷ []) known_k ∙ directive_begins line ds k fresh h;
  meant = record { paths = tt; go = tt; required = tt; retractions = tt };
  bare = sym (and_one (is_module k));
}
move_says {known = known} (inside ds b line t ts room is_right) alone =
    let q = right_entry line b.keyword (t ∷ ts) is_right in
    let means = entry_means line b.keyword (t ∷ ts) q.0 q.1 in
    record {
      said = q.0;
      is_said = inside_entry known line ds b t ts q.0 alone room
          (shape_no_closing b.keyword (t ∷ ts) is_right.0 is_right.1) q.1;
      meant = means.0;
      bare = means.1;
    }
move_says {known = known} (closes ds b line filled) alone = record {
  said = nothing;
  is_said = inside_closes known line ds b alone filled;
  meant = record { paths = tt; go = tt; required = tt; retractions = tt };
  bare = refl;
}

-- ---- what is computed is a move

-- a parenthesis is spelled as itself
abbrev pub IsPlain : Symbol → Type 0
IsPlain t = (t.kind ≡ kinds.ParenLeft → t.text ≡ codes "(") × (t.kind ≡ kinds.ParenRight → t.text ≡ codes ")")

-- a kind that opens a block is the opening parenthesis
opens_is : (k : TokenKind) → opens_block_kind k ≡ true → k ≡ kinds.ParenLeft
opens_is kinds.ParenLeft h = refl
opens_is kinds.Name h = cc
opens_is kinds.Quoted h = cc
opens_is kinds.Raw h = cc
opens_is kinds.Arrow h = cc
opens_is kinds.Comma h = cc
opens_is kinds.ParenRight h = cc
opens_is kinds.BracketLeft h = cc
opens_is kinds.BracketRight h = cc

-- a kind that closes a block is the closing parenthesis
closes_is : (k : TokenKind) → closes_block_kind k ≡ true → k ≡ kinds.ParenRight
closes_is kinds.ParenRight h = refl
closes_is kinds.Name h = cc
closes_is kinds.Quoted h = cc
closes_is kinds.Raw h = cc
closes_is kinds.Arrow h = cc
closes_is kinds.Comma h = cc
closes_is kinds.ParenLeft h = cc
closes_is kinds.BracketLeft h = cc
closes_is kinds.BracketRight h = cc

-- a kind that passes the test of a name is a name
pub name_is : (k : TokenKind) → is_name_kind k ≡ true → k ≡ kinds.Name
name_is kinds.Name h = refl
name_is kinds.Quoted h = cc
name_is kinds.Raw h = cc
name_is kinds.Arrow h = cc
name_is kinds.Comma h = cc
name_is kinds.ParenLeft h = cc
name_is kinds.ParenRight h = cc
name_is kinds.BracketLeft h = cc
name_is kinds.BracketRight h = cc

pub opening_symbol : (ts : List Symbol) → is_opening ts ≡ true
    → (p : Symbol) × (ts ≡ p ∷ []) × (p.kind ≡ kinds.ParenLeft)
opening_symbol [] h = cc
opening_symbol (p ∷ []) h = (p, refl, opens_is p.kind h)
opening_symbol (p ∷ q ∷ ts) h = cc

pub closing_symbol : (ts : List Symbol) → is_closing ts ≡ true
    → (p : Symbol) × (ts ≡ p ∷ []) × (p.kind ≡ kinds.ParenRight)
closing_symbol [] h = cc
closing_symbol (p ∷ []) h = (p, refl, closes_is p.kind h)
closing_symbol (p ∷ q ∷ ts) h = cc

-- a name of the profile is a keyword
pub keyword_is : (known : Keywords) (t : Symbol) (k : Keyword) → is_name_kind t.kind ≡ true
    → keyword_named known t.text ≡ Some k → IsKeyword known t k
keyword_is known t k name named =
    let spelled = named_spelling known t.text k named in
    (λ i. record { kind = name_is t.kind name i; text = spelled i }, ap (keyword_named known) (sym spelled) ∙ named)

-- the directives with the line
pub record Moves (known : Keywords) (ds : List Directive) (o : Option OpenBlock) (r : Row) : Type 0 where
  pub directives : List Directive
  pub opened : Option OpenBlock
  pub move : Move known ds o r directives opened

-- a line outside a block whose reading succeeds after its keyword is a move by the grammar
directive_moves : (known : Keywords) (line : ℕ) (ds : List Directive) (k : Keyword) (ts : List Symbol)
    (x : Context × Contents) → IsKnown known k
    → AllByRecursion IsPlain ts → directive line (context_at ds None) k ts ≡ Ok x
    → Moves known ds None (row line (keyword_symbol k ∷ ts))
unfolding directive
directive_moves known line ds k ts x known_k plain h =
    ⊎_elim
    (λ twice. (let e = twice.1 in cc))
    (λ fresh. ⊎_elim
    (λ block.
    let sole = opening_symbol ts (and_right (has_block k) (is_opening ts) block.0) in
    let is_left : ts ≡ left ∷ [] = sole.1
    ∙ ap (λ p. p ∷ []) (λ i.
    record { kind = sole.2 i; text = (subst (AllByRecursion IsPlain) sole.1 plain).0.0 sole.2 i }) in
    subst (λ us. Moves known ds None (row line (keyword_symbol k ∷ us))) (sym is_left)
    (record {
      directives = ds;
      opened = Some (record { keyword = k; first = line; entries = [] });
      move = begins ds line k known_k (not_repeated-fresh ds k fresh.0)
          (and_left (has_block k) (is_opening ts) block.0);
    }))
    (λ entry_.
    let b = bound (entry_says line (context_at ds None) k ts) (λ y. Ok (y.0, header k ⊕ y.1)) x entry_.1 in
    let c = bound (entry line k ts) (λ p. Ok (with_entry (context_at ds None) k, p)) b.0 b.1 in
    record {
      directives = ds ++ one k (row line ts) ∷ [];
      opened = None;
      move =
          single ds line k ts known_k (not_repeated-fresh ds k fresh.0) (entry_right line k ts c.0 c.1);
    })
    (chosen (has_block k && is_opening ts) _ _ _ fresh.1))
    (chosen (is_repeated (context_at ds None) k) _ _ _ h)
  where
    and_left : (a b : Bool) → (a && b) ≡ true → a ≡ true
    and_left true b e = refl
    and_left false b e = cc

    and_right : (a b : Bool) → (a && b) ≡ true → b ≡ true
    and_right true b e = e
    and_right false b e = cc

named_moves : (ks : Keywords) (line : ℕ) (ds : List Directive) (t : Symbol) (ts : List Symbol) (x : Context × Contents)
    (o : Option Keyword)
    → keyword_named ks t.text ≡ o → is_name_kind t.kind ≡ true → AllByRecursion IsPlain ts
    → ◌≡◌ {A = Result (Context × Contents) GoModFault}
    (elim o [ None ↦ Err (faults.Unknown line) | Some k ↦ directive line (context_at ds None) k ts ]) (Ok x)
    → Moves ks ds None (row line (t ∷ ts))
named_moves known line ds t ts x None named name plain h = cc
named_moves known line ds t ts x (Some k) named name plain h =
    let is = keyword_is known t k name named in
    subst (λ u. Moves known ds None (row line (u ∷ ts))) (sym is.0) (directive_moves known line ds k ts x is.1 plain h)

-- a line inside a block whose reading succeeds is a move by the grammar
inside_moves : (known : Keywords) (line : ℕ) (ds : List Directive) (b : OpenBlock) (t : Symbol) (ts : List Symbol)
    (x : Context × Contents) → IsAlone ds (Some b)
    → AllByRecursion IsPlain (t ∷ ts) → line_inside line (context_at ds (Some b)) b.keyword (t ∷ ts) ≡ Ok x
    → Moves known ds (Some b) (row line (t ∷ ts))
unfolding line_inside
inside_moves known line ds b t ts x alone plain h =
    ⊎_elim
    (λ closing_.
    let sole = closing_symbol (t ∷ ts) closing_.0 in
    let is_right : t ∷ ts ≡ right ∷ [] = sole.1
    ∙ ap (λ p. p ∷ []) (λ i.
    record { kind = sole.2 i; text = (subst (AllByRecursion IsPlain) sole.1 plain).0.1 sole.2 i }) in
    ⊎_elim
    (λ empty. (let e = empty.1 in cc))
    (λ full. subst (λ us. Moves known ds (Some b) (row line us)) (sym is_right)
    (record {
      directives = ds ++ closed b line ∷ [];
      opened = None;
      move =
          closes ds b line (context-filled ds b alone full.0);
    }))
    (chosen (is_module b.keyword && not (context_at ds (Some b)).has_module) _ _ _ closing_.1))
    (λ other. ⊎_elim
    (λ full. (let e = full.1 in cc))
    (λ room.
    let c = bound (entry line b.keyword (t ∷ ts)) (λ p. Ok (with_entry (context_at ds (Some b)) b.keyword, p)) x
    room.1 in
    record {
      directives = ds;
      opened = Some (with_row b (row line (t ∷ ts)));
      move =
          inside ds b line t ts (context-room ds b alone room.0) (entry_right line b.keyword (t ∷ ts) c.0 c.1);
    })
    (chosen (is_module b.keyword && (context_at ds (Some b)).has_module) _ _ _ other.1))
    (chosen (is_closing (t ∷ ts)) _ _ _ h)

pub says_move : (known : Keywords) (line : ℕ) (ds : List Directive) (o : Option OpenBlock) (ts : List Symbol)
    (x : Context × Contents)
    → IsAlone ds o → AllByRecursion IsPlain ts → line_says known line (context_at ds o) ts ≡ Ok x
    → Moves known ds o (row line ts)
unfolding line_says line_outside
says_move known line ds o [] x alone plain h = record { directives = ds; opened = o; move = blank ds o line }
says_move known line ds None (t ∷ ts) x alone plain h =
    let name = guarded (is_name_kind t.kind) _ _ x h in
    named_moves known line ds t ts x (keyword_named known t.text) refl name.0 plain.1 name.1
says_move known line ds (Some b) (t ∷ ts) x alone plain h = inside_moves known line ds b t ts x alone plain h
