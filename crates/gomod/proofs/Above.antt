-- The lines above a line: what is computed of them is what their directives are and mean.
use Rattle.std.proofs.Common.{◌≡◌, ℕ, suc, zero, ◌+◌, Bool, true, false, ◌&&◌, cond, List, [], ◌∷◌, ◌++◌, map, length}
use Rattle.std.proofs.Common.{refl, ap}
use Rattle.std.proofs.Common.{sym, ◌∙◌, subst, arith, append_assoc, append-nil, Option, Some, None, Ok, Err, ◌⊎◌, inl}
use Rattle.std.proofs.Common.{inr, ⊎_elim}
use Rattle.std.specs.List.{flat_map, list_all}
use Rattle.std.proofs.lemmas.Bool.{cases_Bool, or_parts}
use Rattle.gomod.specs.declared.keyword.Keyword.{Keyword}
use Rattle.gomod.specs.declared.keyword.Keyword.TheVariants.{Module, Go, Require, Retract}
use Rattle.gomod.specs.declared.fault.GoModFault.{GoModFault}
use Rattle.modlex.specs.Lexer.{Lexeme}
use Rattle.modlex.specs.Tokens.{AreTokens, AreTokensOf}
use Rattle.modlex.specs.Symbols.{symbol_of}
use Rattle.gomod.specs.Keywords.{Keywords, is_module}
use Rattle.gomod.specs.Entries.{IsModuleEntry, IsGoEntry, IsPair}
use Rattle.gomod.specs.Grammar.{Row, row, Directive, one, block, OpenBlock, keyword_of, keywords_in, Item, item}
use Rattle.gomod.specs.Grammar.{items_of, items, is_keyword, entries_under, rows_of, rows_of_open, AreWritten}
use Rattle.gomod.specs.Reads.{Pointwise, rows_of_tokens}
use Rattle.gomod.specs.Faults.{AreRead, HasFirstFault}
use Rattle.gomod.specs.Reading.{Context, Contents, nothing, at_start, last_path, ◌⊕◌, ◌>>=◌, bytes_say, lines_say}
use Rattle.gomod.proofs.Steps.{bound, fails, ok_same}
use Rattle.gomod.proofs.Lists.{cond-append, pointwise-append, last_of, empty_list, length-join}
use Rattle.gomod.proofs.Moves.{Move, blank, single, begins, inside, closes, IsFresh, keywords_more, items_more}
use Rattle.gomod.proofs.Moves.{keywords_in-move, items-move}
use Rattle.gomod.proofs.Written.{same_keyword, written-move}
use Rattle.gomod.proofs.Unwritten.{written-back}
use Rattle.gomod.proofs.Contexts.{context_at, stands, IsAlone, module_same, written-alone}
use Rattle.gomod.proofs.EntryMeaning.{IsRetractEntryAt, AreMeant, path_list}
use Rattle.gomod.proofs.LineLaw.{Says, move_says, says_move}
use Rattle.gomod.proofs.LineTokens.{tokens_plain, bytes_ok, bytes_say-tokens, bytes_fault}
use Rattle.gomod.proofs.Appends.{joined, lines_say-append, position_behind, tokens_of-append, tokens_of-length}
use Rattle.gomod.proofs.Appends.{tokens_of-last, rows_of-append}
use Rattle.gomod.proofs.Pass.{join_assoc, join_nothing}

-- ---- entries behind entries

pub entries_under-append : (k : Keyword) (is js : List Item)
    → entries_under k (is ++ js) ≡ entries_under k is ++ entries_under k js
entries_under-append k [] js = refl
entries_under-append k (i ∷ is) js =
    ap (λ l. cond (is_keyword k i.keyword) (i.entry ∷ l) l) (entries_under-append k is js)
    ∙ cond-append (is_keyword k i.keyword) i.entry (entries_under k is) (entries_under k js)

-- the module paths of two lists of entries, at most one of which has any, are those of both together
paths_join : (xs ys : List Row) (p q : Option (List ℕ)) → (xs ≡ []) ⊎ (ys ≡ [])
    → Pointwise (λ e x. IsModuleEntry e.symbols x) xs (path_list p)
    → Pointwise (λ e x. IsModuleEntry e.symbols x) ys (path_list q)
    → Pointwise (λ e x. IsModuleEntry e.symbols x) (xs ++ ys) (path_list (last_path p q))
paths_join [] ys None None once h k = k
paths_join [] ys None (Some y) once h k = k
paths_join (x ∷ xs) ys None q once h k = absurd h
paths_join [] ys (Some x) q once h k = absurd h
paths_join (x ∷ xs) [] (Some p) None once h k =
    subst (λ l. Pointwise (λ e y. IsModuleEntry e.symbols y) l (p ∷ [])) (sym (append-nil (x ∷ xs))) h
paths_join (x ∷ xs) (y ∷ ys) (Some p) None once h k = absurd k
paths_join (x ∷ xs) [] (Some p) (Some q) once h k = absurd k
paths_join (x ∷ xs) (y ∷ ys) (Some p) (Some q) once h k = ⊎_elim (λ none. cc) (λ none. cc) once

meant_join : (is js : List Item) (p q : Contents) → (entries_under Module is ≡ []) ⊎ (entries_under Module js ≡ [])
    → AreMeant is p → AreMeant js q → AreMeant (is ++ js) (p ⊕ q)
meant_join is js p q once h k = record {
  paths = subst (λ l. Pointwise (λ e x. IsModuleEntry e.symbols x) l
      (path_list (last_path p.module_path q.module_path)))
      (sym (entries_under-append Module is js))
      (paths_join (entries_under Module is) (entries_under Module js) p.module_path q.module_path once h.paths
      k.paths);
  go = subst (λ l. Pointwise (λ e v. IsGoEntry e.symbols v) l (p.go ++ q.go)) (sym (entries_under-append Go is js))
      (pointwise-append (λ e v. IsGoEntry e.symbols v) (entries_under Go is) p.go (entries_under Go js) q.go h.go k.go);
  required = subst (λ l. Pointwise (λ e r. IsPair e.symbols r) l (p.required ++ q.required))
      (sym (entries_under-append Require is js))
      (pointwise-append (λ e r. IsPair e.symbols r) (entries_under Require is) p.required (entries_under Require js)
      q.required h.required k.required);
  retractions = subst (λ l. Pointwise IsRetractEntryAt l (p.retractions ++ q.retractions))
      (sym (entries_under-append Retract is js))
      (pointwise-append IsRetractEntryAt (entries_under Retract is) p.retractions (entries_under Retract js)
      q.retractions h.retractions k.retractions);
}

other_entries : (j k : Keyword) (es : List Row) → is_keyword j k ≡ false → entries_under j (map (item k) es) ≡ []
other_entries j k [] other = refl
other_entries j k (e ∷ es) other = rw other (other_entries j k es other)

directive_entries : (j : Keyword) (d : Directive) → is_keyword j (keyword_of d) ≡ false
    → entries_under j (items_of d) ≡ []
directive_entries j (one k e) other = rw other refl
directive_entries j (block k first es last) other = other_entries j k es other

-- a keyword that stands above nowhere has no entries
pub none_entries : (j : Keyword) (ds : List Directive) → stands j ds ≡ false
    → entries_under j (flat_map items_of ds) ≡ []
none_entries j [] h = refl
none_entries j (d ∷ ds) h =
    let halves = or_parts (is_keyword j (keyword_of d)) (stands j ds) h in
    entries_under-append j (items_of d) (flat_map items_of ds)
    ∙ ap (λ l. l ++ entries_under j (flat_map items_of ds)) (directive_entries j d halves.0)
    ∙ none_entries j ds halves.1

-- of the entries so far and those that a move adds, at most one side has an entry of module
module_once : {known : Keywords} {ds es : List Directive} {o p : Option OpenBlock} {r : Row}
    (m : Move known ds o r es p)
    → IsAlone ds o → (entries_under Module (items ds o) ≡ []) ⊎ (entries_under Module (items_more m) ≡ [])
module_once (blank ds o line) alone = inr refl
module_once (single ds line k ts a fresh s) alone =
    ⊎_elim
    (λ is.
    let same = same_keyword Module k is in
    let none = subst (IsFresh ds) (sym same) fresh refl in
    inl (ap (entries_under Module) (append-nil (flat_map items_of ds)) ∙ none_entries Module ds none))
    (λ other. inr (rw other refl))
    (cases_Bool (is_keyword Module k))
module_once (begins ds line k a f h) alone = inr refl
module_once (inside ds b line t ts room s) alone =
    ⊎_elim
    (λ is.
    let is_one : is_module b.keyword ≡ true = sym (module_same b.keyword) ∙ is in
    inl (ap (λ es. entries_under Module (flat_map items_of ds ++ map (item b.keyword) es)) (room is_one)
    ∙ ap (entries_under Module) (append-nil (flat_map items_of ds))
    ∙ none_entries Module ds (alone.1 is_one)))
    (λ other. inr (rw other refl))
    (cases_Bool (is_keyword Module b.keyword))
module_once (closes ds b line filled) alone = inr refl

-- ---- the lines above

pub record Above (known : Keywords) (ls : List (List ℕ)) (ds : List Directive) (o : Option OpenBlock)
    (p : Contents) : Type 0 where
  pub read : AreRead known ls ds o
  pub meant : AreMeant (items ds o) p
  pub bare : p.bare ≡ list_all is_module (keywords_in ds o)

-- no lines are read as no directives, which say nothing
pub above_start : (known : Keywords) → Above known [] [] None nothing
above_start known = record {
  read = record {
    tokens = [];
    lexemes = tt;
    grammar = record {
      spelled = refl;
      known_keywords = tt;
      blocks = tt;
      open_block = tt;
      single = λ k only.
          omega arith;
      entries = tt;
    };
  };
  meant = record { paths = tt; go = tt; required = tt; retractions = tt };
  bare = refl;
}

list_all-join : (p : Keyword → Bool) (xs ys : List Keyword) → (list_all p xs && list_all p ys) ≡ list_all p (xs ++ ys)
list_all-join p [] ys = refl
list_all-join p (x ∷ xs) ys = and_assoc (p x) (list_all p xs) (list_all p ys)
    ∙ ap (λ b. p x && b) (list_all-join p xs ys)
  where
    and_assoc : (a b c : Bool) → ((a && b) && c) ≡ (a && (b && c))
    and_assoc true b c = refl
    and_assoc false b c = refl

-- a line more
pub above_move : {known : Keywords} {ls : List (List ℕ)} {ds es : List Directive} {o q : Option OpenBlock}
    {p : Contents} (l : List ℕ) (ts : List Lexeme)
    (m : Move known ds o (row (length ls + 1) (map symbol_of ts)) es q)
    (s : Says known (length ls + 1) (context_at ds o) (context_at es q) (map symbol_of ts) (items_more m)
    (keywords_more m))
    → Above known ls ds o p → AreTokens (length ls + 1) (position_behind 0 ls) l ts
    → Above known (ls ++ l ∷ []) es q (p ⊕ s.said)
above_move {known = known} {ls = ls} {ds = ds} {es = es} {o = o} {q = q} {p = p} l ts m s a are =
    let number : length ls + 1 ≡ 1 + length ls = omega arith in
    let alone = written-alone known (rows_of_tokens a.read.tokens) ds o a.read.grammar in
    record {
      read = record {
        tokens = a.read.tokens ++ ts ∷ [];
        lexemes = tokens_of-append 1 0 ls a.read.tokens l ts a.read.lexemes
            (subst (λ n. AreTokens n (position_behind 0 ls) l ts) number are);
        grammar = subst (λ rows. AreWritten known rows es q)
            (sym (rows_of-append (length ls) a.read.tokens ts (tokens_of-length 1 0 ls a.read.tokens a.read.lexemes)))
            (written-move (rows_of_tokens a.read.tokens) m a.read.grammar);
      };
      meant = subst (λ is. AreMeant is (p ⊕ s.said)) (sym (items-move m))
          (meant_join (items ds o) (items_more m) p s.said (module_once m alone) a.meant s.meant);
      bare = ap (λ b. b && s.said.bare) a.bare ∙ ap (λ b. list_all is_module (keywords_in ds o) && b) s.bare
          ∙ list_all-join is_module (keywords_in ds o) (keywords_more m)
          ∙ ap (list_all is_module) (sym (keywords_in-move m));
    }

-- the lines above the next line, and what is computed of them
pub record Next (known : Keywords) (ls : List (List ℕ)) (c : Context) (p : Contents) : Type 0 where
  pub directives : List Directive
  pub opened : Option OpenBlock
  pub above : Above known ls directives opened p
  pub context : c ≡ context_at directives opened

-- a line that is read after lines that are read leaves lines that are read, with what it says added
pub above_line : {known : Keywords} {ls : List (List ℕ)} {ds : List Directive} {o : Option OpenBlock} {p : Contents}
    (l : List ℕ) (x : Context × Contents)
    → Above known ls ds o p → bytes_say known (length ls + 1) (context_at ds o) l ≡ Ok x
    → Next known (ls ++ l ∷ []) x.0 (p ⊕ x.1)
above_line {known = known} {ls = ls} {ds = ds} {o = o} {p = p} l x a h =
    let b = bytes_ok known (length ls + 1) (position_behind 0 ls) (context_at ds o) l x h in
    let alone = written-alone known (rows_of_tokens a.read.tokens) ds o a.read.grammar in
    let m = says_move known (length ls + 1) ds o (map symbol_of b.0) x alone
    (tokens_plain (length ls + 1) (position_behind 0 ls) l b.0 b.1) b.2 in
    let s = move_says m.move alone in
    let same : ◌≡◌ {A = Context × Contents} (context_at m.directives m.opened, s.said) x =
    ok_same _ x (sym s.is_said ∙ b.2) in
    record {
      directives = m.directives;
      opened = m.opened;
      above = subst (λ (y : Context × Contents). Above known (ls ++ l ∷ []) m.directives m.opened (p ⊕ y.1)) same
          (above_move l b.0 m.move s a b.1);
      context = ap (λ (y : Context × Contents). y.0) (sym same);
    }

-- ---- all lines

-- lines that are read after lines that are read leave lines that are read, with what they say added
pub above_lines : (known : Keywords) (ms ls : List (List ℕ)) (ds : List Directive) (o : Option OpenBlock) (p : Contents)
    (x : Context × Contents)
    → Above known ls ds o p → lines_say known (length ls + 1) (context_at ds o) ms ≡ Ok x
    → Next known (ls ++ ms) x.0 (p ⊕ x.1)
above_lines known [] ls ds o p x a h =
    let same : ◌≡◌ {A = Context × Contents} (context_at ds o, nothing) x = ok_same _ x h in
    subst (λ (y : Context × Contents). Next known (ls ++ []) y.0 (p ⊕ y.1)) same
    (record {
      directives = ds;
      opened = o;
      above = subst (λ l. Above known l ds o (p ⊕ nothing)) (sym (append-nil ls))
          (subst (Above known ls ds o) (sym (join_nothing p)) a);
      context = refl;
    })
above_lines known (l ∷ ms) ls ds o p x a h =
    let b = bound (bytes_say known (length ls + 1) (context_at ds o) l)
    (λ u. lines_say known (length ls + 1 + 1) u.0 ms >>= (λ y. Ok (y.0, u.1 ⊕ y.1))) x h in
    let c = bound (lines_say known (length ls + 1 + 1) b.0.0 ms) (λ y. Ok (y.0, b.0.1 ⊕ y.1)) x b.2 in
    let n = above_line l b.0 a b.1 in
    let number : length ls + 1 + 1 ≡ length (ls ++ l ∷ []) + 1 = omega (arith, length-join ls (l ∷ [])) in
    let rest : lines_say known (length (ls ++ l ∷ []) + 1) (context_at n.directives n.opened) ms ≡ Ok c.0 =
    ap (λ d. lines_say known (length (ls ++ l ∷ []) + 1) d ms) (sym n.context)
    ∙ ap (λ k. lines_say known k b.0.0 ms) (sym number) ∙ c.1 in
    let more = above_lines known ms (ls ++ l ∷ []) n.directives n.opened (p ⊕ b.0.1) c.0 n.above rest in
    let same : ◌≡◌ {A = Context × Contents} (c.0.0, b.0.1 ⊕ c.0.1) x = ok_same _ x c.2 in
    subst (λ (y : Context × Contents). Next known (ls ++ (l ∷ ms)) y.0 (p ⊕ y.1)) same
    (subst (λ j. Next known j c.0.0 (p ⊕ (b.0.1 ⊕ c.0.1))) (append_assoc ls (l ∷ []) ms)
    (subst (Next known ((ls ++ l ∷ []) ++ ms) c.0.0) (sym (join_assoc p b.0.1 c.0.1)) more))

-- the first line with a fault
pub above_fault : (known : Keywords) (ms ls : List (List ℕ)) (ds : List Directive) (o : Option OpenBlock) (p : Contents)
    (f : GoModFault)
    → Above known ls ds o p → lines_say known (length ls + 1) (context_at ds o) ms ≡ Err f
    → HasFirstFault known (ls ++ ms) f
above_fault known [] ls ds o p f a h = cc
above_fault known (l ∷ ms) ls ds o p f a h =
    ⊎_elim
    (λ here. record {
      before = ls;
      faulty = l;
      others = ms;
      split = refl;
      directives = ds;
      opened = o;
      above = a.read;
      fault = bytes_fault known (length ls + 1) ds o l f
          (written-alone known (rows_of_tokens a.read.tokens) ds o a.read.grammar) here;
    })
    (λ b. ⊎_elim
    (λ later.
    let n = above_line l b.0 a b.1 in
    let number : length ls + 1 + 1 ≡ length (ls ++ l ∷ []) + 1 = omega (arith, length-join ls (l ∷ [])) in
    let rest : lines_say known (length (ls ++ l ∷ []) + 1) (context_at n.directives n.opened) ms ≡ Err f =
    ap (λ d. lines_say known (length (ls ++ l ∷ []) + 1) d ms) (sym n.context)
    ∙ ap (λ k. lines_say known k b.0.0 ms) (sym number) ∙ later in
    subst (λ j. HasFirstFault known j f) (append_assoc ls (l ∷ []) ms)
    (above_fault known ms (ls ++ l ∷ []) n.directives n.opened (p ⊕ b.0.1) f n.above rest))
    (λ y. (let bad = y.2 in cc))
    (fails (lines_say known (length ls + 1 + 1) b.0.0 ms) (λ y. Ok (y.0, b.0.1 ⊕ y.1)) f b.2))
    (fails (bytes_say known (length ls + 1) (context_at ds o) l)
    (λ u. lines_say known (length ls + 1 + 1) u.0 ms >>= (λ y. Ok (y.0, u.1 ⊕ y.1))) f h)

-- ---- lines that read are computed

pub record Computed (known : Keywords) (ls : List (List ℕ)) (ds : List Directive) (o : Option OpenBlock) : Type 0 where
  pub contents : Contents
  pub said : lines_say known 1 at_start ls ≡ Ok (context_at ds o, contents)
  pub above : Above known ls ds o contents

-- no lines have no directives
nothing_above : (known : Keywords) (ds : List Directive) (o : Option OpenBlock)
    → [] ≡ flat_map rows_of ds ++ rows_of_open o → Computed known [] ds o
nothing_above known [] None h = record { contents = nothing; said = refl; above = above_start known }
nothing_above known [] (Some b) h = cc
nothing_above known (one k e ∷ ds) o h = cc
nothing_above known (block k first es last ∷ ds) o h = cc

empty_rows : (known : Keywords) (tss : List (List Lexeme)) (ds : List Directive) (o : Option OpenBlock)
    → AreTokensOf 1 0 [] tss → AreWritten known (rows_of_tokens tss) ds o → Computed known [] ds o
empty_rows known [] ds o h w = nothing_above known ds o w.spelled
empty_rows known (ts ∷ tss) ds o h w = absurd h

-- one line more
computed_line : (known : Keywords) (ls : List (List ℕ)) (l : List ℕ) (ds : List Directive) (o : Option OpenBlock)
    → ((es : List Directive) (q : Option OpenBlock) → AreRead known ls es q → Computed known ls es q)
    → AreRead known (ls ++ l ∷ []) ds o → Computed known (ls ++ l ∷ []) ds o
computed_line known ls l ds o before r =
    let t = tokens_of-last 1 0 ls l r.tokens r.lexemes in
    let rows : rows_of_tokens r.tokens ≡ rows_of_tokens t.front ++ row (length ls + 1) (map symbol_of t.last) ∷ [] =
    ap rows_of_tokens t.is ∙ rows_of-append (length ls) t.front t.last (tokens_of-length 1 0 ls t.front t.above) in
    let back = written-back known (rows_of_tokens t.front) (length ls + 1) (map symbol_of t.last) ds o
    (subst (λ k. AreWritten known k ds o) rows r.grammar) in
    let c = before back.directives back.opened (record { tokens = t.front; lexemes = t.above; grammar = back.above }) in
    let s = move_says back.move (written-alone known (rows_of_tokens t.front) back.directives back.opened back.above) in
    let number : 1 + length ls ≡ length ls + 1 = omega arith in
    let here : AreTokens (length ls + 1) (position_behind 0 ls) l t.last =
    subst (λ n. AreTokens n (position_behind 0 ls) l t.last) number t.here in
    let line_said : bytes_say known (1 + length ls) (context_at back.directives back.opened) l
    ≡ Ok (context_at ds o, s.said) =
    ap (λ n. bytes_say known n (context_at back.directives back.opened) l) number
    ∙ bytes_say-tokens known (length ls + 1) (position_behind 0 ls) (context_at back.directives back.opened) l t.last
    here ∙ s.is_said in
    let last_said : lines_say known (1 + length ls) (context_at back.directives back.opened) (l ∷ [])
    ≡ Ok (context_at ds o, s.said) =
    ap (λ x. x >>= (λ u. Ok (u.0, u.1 ⊕ nothing))) line_said
    ∙ ap (λ p. Ok (context_at ds o, p)) (join_nothing s.said) in
    record {
      contents = c.contents ⊕ s.said;
      said = lines_say-append known 1 at_start ls (l ∷ [])
          ∙ ap (λ x. joined x (λ d. lines_say known (1 + length ls) d (l ∷ []))) c.said
          ∙ ap (λ x. x >>= (λ y. Ok (y.0, c.contents ⊕ y.1))) last_said;
      above = above_move l t.last back.move s c.above here;
    }

-- n lines that can be read by the grammar are computed to say what they mean
computed_by : (known : Keywords) (n : ℕ) (ls : List (List ℕ)) → length ls ≡ n
    → (ds : List Directive) (o : Option OpenBlock) → AreRead known ls ds o → Computed known ls ds o
computed_by known zero ls len ds o r =
    let none = empty_list ls len in
    subst (λ k. AreRead known k ds o → Computed known k ds o) (sym none)
    (λ x. empty_rows known x.tokens ds o x.lexemes x.grammar) r
computed_by known (suc n) ls len ds o r =
    ⊎_elim
    (λ none. absurd (let e = ap length none in omega (arith, e, len)))
    (λ some.
    let fewer : length some.0 ≡ n = omega (arith, ap length some.2, length-join some.0 (some.1 ∷ []), len) in
    subst (λ k. AreRead known k ds o → Computed known k ds o) (sym some.2)
    (computed_line known some.0 some.1 ds o (computed_by known n some.0 fewer)) r)
    (last_of ls)

pub computed : (known : Keywords) (ls : List (List ℕ)) (ds : List Directive) (o : Option OpenBlock)
    → AreRead known ls ds o → Computed known ls ds o
computed known ls ds o r = computed_by known (length ls) ls refl ds o r
