-- The lines before the last one, and what the last one made of them.
use Rattle.std.proofs.Common.{◌≡◌, ℕ, ◌≤◌, true, List, [], ◌∷◌, ◌++◌, map, filter, length, refl, ap, sym, ◌∙◌, subst}
use Rattle.std.proofs.Common.{arith, append_assoc, append-nil, Option, Some, None, ⊎_elim}
use Rattle.std.specs.List.{flat_map, AllByRecursion}
use Rattle.gomod.specs.declared.keyword.Keyword.{Keyword}
use Rattle.modlex.specs.Symbols.{Symbol}
use Rattle.gomod.specs.Keywords.{Keywords}
use Rattle.gomod.specs.Entries.{IsRight}
use Rattle.gomod.specs.Grammar.{Row, row, has_symbols, keyword_symbol, Directive, one, block, OpenBlock, opening}
use Rattle.gomod.specs.Grammar.{closing, rows_of, rows_of_open}
use Rattle.gomod.specs.Grammar.{keyword_of, keywords_in, item, items, is_keyword, is_single, IsKnown, IsBlock}
use Rattle.gomod.specs.Grammar.{IsOpenBlock, AreWritten}
use Rattle.gomod.proofs.Lists.{all-front, all-back, flat_map-join, filter-join, last_of, last_same, none-any}
use Rattle.gomod.proofs.Lists.{empty_list, length-join}
use Rattle.gomod.proofs.Moves.{Move, blank, single, begins, inside, closes, with_row, closed, IsFresh, keywords_more}
use Rattle.gomod.proofs.Moves.{items_more, keywords_in-move, items-move, keywords_in-single, items-single, items-inside}
use Rattle.gomod.proofs.Written.{is_keyword-itself}

-- the directives above a last line, and its move
pub record Back (known : Keywords) (rows : List Row) (r : Row) (es : List Directive) (p : Option OpenBlock) : Type 0
  where
    pub directives : List Directive
    pub opened : Option OpenBlock
    pub move : Move known directives opened r es p
    pub above : AreWritten known rows directives opened

-- what is known of all lines is known of those before the last
fewer : {known : Keywords} {rows : List Row} {ds es : List Directive} {o p : Option OpenBlock} {r : Row}
    (m : Move known ds o r es p)
    → filter has_symbols rows ≡ flat_map rows_of ds ++ rows_of_open o → AllByRecursion IsBlock ds → IsOpenBlock o
    → AreWritten known (rows ++ r ∷ []) es p → Back known rows r es p
fewer {known = known} {rows = rows} {ds = ds} {es = es} {o = o} {p = p} {r = r} m spelled blocks open_block w = record {
  directives = ds;
  opened = o;
  move = m;
  above = record {
    spelled = spelled;
    known_keywords = all-front (IsKnown known) (keywords_in ds o) (keywords_more m)
        (subst (AllByRecursion (IsKnown known)) (keywords_in-move m) w.known_keywords);
    blocks = blocks;
    open_block = open_block;
    single = λ j only.
        let few = subst (λ l. length (filter (is_keyword j) l) ≤ 1) (keywords_in-move m) (w.single j only) in
        let join = filter-join (is_keyword j) (keywords_in ds o) (keywords_more m) in
        omega (
          arith,
          few,
          ap length join,
          length-join (filter (is_keyword j) (keywords_in ds o)) (filter (is_keyword j) (keywords_more m)),
        );
    entries = all-front (λ i. IsRight i.keyword i.entry.symbols) (items ds o) (items_more m)
        (subst (AllByRecursion (λ i. IsRight i.keyword i.entry.symbols)) (items-move m) w.entries);
  };
}

-- a keyword that stands once at the end does not stand before
fresh_of : (ds : List Directive) (k : Keyword)
    → (is_single k ≡ true → length (filter (is_keyword k) ((map keyword_of ds ++ []) ++ k ∷ [])) ≤ 1) → IsFresh ds k
fresh_of ds k few only =
    let same = is_keyword-itself k in
    let join = filter-join (is_keyword k) (map keyword_of ds ++ []) (k ∷ []) in
    let one_more : length (filter (is_keyword k) (k ∷ [])) ≡ 1 = rw same refl in
    let front : filter (is_keyword k) (map keyword_of ds ++ []) ≡ filter (is_keyword k) (map keyword_of ds) =
    ap (filter (is_keyword k)) (append-nil (map keyword_of ds)) in
    none-any (is_keyword k) (map keyword_of ds)
    (omega (
      arith,
      few only,
      ap length join,
      length-join (filter (is_keyword k) (map keyword_of ds ++ [])) (filter (is_keyword k) (k ∷ [])),
      ap length front,
      one_more,
    ))

-- the last line has no tokens
back_blank : (known : Keywords) (rows : List Row) (line : ℕ) (es : List Directive) (p : Option OpenBlock)
    → AreWritten known (rows ++ row line [] ∷ []) es p → Back known rows (row line []) es p
back_blank known rows line es p w =
    fewer (blank es p line) (sym (filter-join has_symbols rows (row line [] ∷ []) ∙ append-nil _) ∙ w.spelled) w.blocks
    w.open_block w

-- it is a directive with its entry
back_single : (known : Keywords) (rows : List Row) (ds : List Directive) (k : Keyword) (e : Row) (r : Row)
    → filter has_symbols rows ≡ flat_map rows_of ds
    → r ≡ row e.line (keyword_symbol k ∷ e.symbols) → AreWritten known (rows ++ r ∷ []) (ds ++ one k e ∷ []) None
    → Back known rows r (ds ++ one k e ∷ []) None
back_single known rows ds k e r spelled is w =
    let keywords : keywords_in (ds ++ one k e ∷ []) None ≡ keywords_in ds None ++ k ∷ [] = keywords_in-single ds k e in
    let entries : items (ds ++ one k e ∷ []) None ≡ items ds None ++ item k e ∷ [] = items-single ds k e in
    subst (λ x. Back known rows x (ds ++ one k e ∷ []) None) (sym is)
    (fewer
    (single ds e.line k e.symbols
    (all-back (IsKnown known) (keywords_in ds None) (k ∷ [])
    (subst (AllByRecursion (IsKnown known)) keywords w.known_keywords)).0
    (fresh_of ds k (λ only. subst (λ l. length (filter (is_keyword k) l) ≤ 1) keywords (w.single k only)))
    (all-back (λ i. IsRight i.keyword i.entry.symbols) (items ds None) (item k e ∷ [])
    (subst (AllByRecursion (λ i. IsRight i.keyword i.entry.symbols)) entries w.entries)).0)
    (spelled ∙ sym (append-nil _))
    (all-front IsBlock ds (one k e ∷ []) w.blocks)
    tt
    (subst (λ x. AreWritten known (rows ++ x ∷ []) (ds ++ one k e ∷ []) None) is w))

-- it ends a block
back_closes : (known : Keywords) (rows : List Row) (ds : List Directive) (b : OpenBlock) (last : ℕ) (r : Row)
    → filter has_symbols rows ≡ flat_map rows_of ds ++ rows_of_open (Some b)
    → r ≡ closing last → AreWritten known (rows ++ r ∷ []) (ds ++ closed b last ∷ []) None
    → Back known rows r (ds ++ closed b last ∷ []) None
back_closes known rows ds b last r spelled is w =
    let all = all-back IsBlock ds (closed b last ∷ []) w.blocks in
    subst (λ x. Back known rows x (ds ++ closed b last ∷ []) None) (sym is)
    (fewer
    (closes ds b last (λ m. (let full = all.0.1 m in omega (arith, full))))
    spelled
    (all-front IsBlock ds (closed b last ∷ []) w.blocks)
    (all.0.0, λ m. (let full = all.0.1 m in omega (arith, full)))
    (subst (λ x. AreWritten known (rows ++ x ∷ []) (ds ++ closed b last ∷ []) None) is w))

-- it begins a block
back_begins : (known : Keywords) (rows : List Row) (ds : List Directive) (k : Keyword) (first : ℕ) (r : Row)
    → filter has_symbols rows ≡ flat_map rows_of ds → r ≡ opening k first
    → AreWritten known (rows ++ r ∷ []) ds (Some (record { keyword = k; first = first; entries = [] }))
    → Back known rows r ds (Some (record { keyword = k; first = first; entries = [] }))
back_begins known rows ds k first r spelled is w =
    let opened : Option OpenBlock = Some (record { keyword = k; first = first; entries = [] }) in
    let keywords : keywords_in ds opened ≡ keywords_in ds None ++ k ∷ [] =
    ap (λ l. l ++ k ∷ []) (sym (append-nil (map keyword_of ds))) in
    subst (λ x. Back known rows x ds opened) (sym is)
    (fewer
    (begins ds first k
    (all-back (IsKnown known) (keywords_in ds None) (k ∷ [])
    (subst (AllByRecursion (IsKnown known)) keywords w.known_keywords)).0
    (fresh_of ds k (λ only. subst (λ l. length (filter (is_keyword k) l) ≤ 1) keywords (w.single k only)))
    w.open_block.0)
    (spelled ∙ sym (append-nil _))
    w.blocks
    tt
    (subst (λ x. AreWritten known (rows ++ x ∷ []) ds opened) is w))

-- it is an entry of a block
back_inside : (known : Keywords) (rows : List Row) (ds : List Directive) (b : OpenBlock) (line : ℕ) (t : Symbol)
    (ts : List Symbol) → filter has_symbols rows ≡ flat_map rows_of ds ++ rows_of_open
    (Some b) → AreWritten known (rows ++ row line (t ∷ ts) ∷ []) ds (Some (with_row b (row line (t ∷ ts))))
    → Back known rows (row line (t ∷ ts)) ds (Some (with_row b (row line (t ∷ ts))))
back_inside known rows ds b line t ts spelled w =
    let r : Row = row line (t ∷ ts) in
    let entries : items ds (Some (with_row b r)) ≡ items ds (Some b) ++ item b.keyword r ∷ [] = items-inside ds b r in
    let len = length-join b.entries (r ∷ []) in
    fewer
    (inside ds b line t ts
    (λ m. (let few = w.open_block.1 m in empty_list b.entries (omega (arith, few, len))))
    (all-back (λ i. IsRight i.keyword i.entry.symbols) (items ds (Some b)) (item b.keyword r ∷ [])
    (subst (AllByRecursion (λ i. IsRight i.keyword i.entry.symbols)) entries w.entries)).0)
    spelled
    w.blocks
    (w.open_block.0, λ m. (let few = w.open_block.1 m in omega (arith, few, len)))
    w

abbrev Goal : Keywords → List Row → Row → List Directive → Option OpenBlock → Type 0
Goal known rows r es p = AreWritten known (rows ++ r ∷ []) es p → Back known rows r es p

-- the last line is the last of what an open block is written on
back_open : (known : Keywords) (rows : List Row) (line : ℕ) (t : Symbol) (ts : List Symbol) (es : List Directive)
    (b : OpenBlock)
    → filter has_symbols rows ++ row line (t ∷ ts) ∷ [] ≡ flat_map rows_of es ++ rows_of_open (Some b)
    → Goal known rows (row line (t ∷ ts)) es (Some b)
back_open known rows line t ts es b h w =
    ⊎_elim
    (λ none.
    let same : b ≡ record { keyword = b.keyword; first = b.first; entries = [] } = λ i.
    record { keyword = b.keyword; first = b.first; entries = none i } in
    let halves = last_same (filter has_symbols rows) (flat_map rows_of es) (row line (t ∷ ts))
    (opening b.keyword b.first) (h ∙ ap (λ x. flat_map rows_of es ++ rows_of_open (Some x)) same) in
    subst (λ x. Goal known rows (row line (t ∷ ts)) es (Some x)) (sym same)
    (back_begins known rows es b.keyword b.first (row line (t ∷ ts)) halves.0 halves.1) w)
    (λ some.
    let front : OpenBlock = record { keyword = b.keyword; first = b.first; entries = some.0 } in
    let same : b ≡ with_row front some.1 = λ i. record { keyword = b.keyword; first = b.first; entries = some.2 i } in
    let halves = last_same (filter has_symbols rows) (flat_map rows_of es ++ rows_of_open (Some front))
    (row line (t ∷ ts)) some.1
    (h ∙ ap (λ x. flat_map rows_of es ++ rows_of_open (Some x)) same
    ∙ sym (append_assoc (flat_map rows_of es) (rows_of_open (Some front)) (some.1 ∷ []))) in
    let whole : b ≡ with_row front (row line (t ∷ ts)) = same ∙ ap (with_row front) (sym halves.1) in
    subst (λ x. Goal known rows (row line (t ∷ ts)) es (Some x)) (sym whole)
    (back_inside known rows es front line t ts halves.0) w)
    (last_of b.entries)

-- it is the last of what the last directive is written on
back_directive : (known : Keywords) (rows : List Row) (r : Row) (ds : List Directive) (d : Directive)
    → filter has_symbols rows ++ r ∷ [] ≡ flat_map rows_of ds ++ rows_of d → Goal known rows r (ds ++ d ∷ []) None
back_directive known rows r ds (one k e) h w =
    let halves = last_same (filter has_symbols rows) (flat_map rows_of ds) r (row e.line (keyword_symbol k ∷ e.symbols))
    h in
    back_single known rows ds k e r halves.0 halves.1 w
back_directive known rows r ds (block k first entries last) h w =
    let b : OpenBlock = record { keyword = k; first = first; entries = entries } in
    let halves = last_same (filter has_symbols rows) (flat_map rows_of ds ++ rows_of_open (Some b)) r (closing last)
    (h ∙ sym (append_assoc (flat_map rows_of ds) (rows_of_open (Some b)) (closing last ∷ []))) in
    back_closes known rows ds b last r halves.0 halves.1 w

nothing_written : {A P : Type 0} (xs : List A) (x : A) → xs ++ x ∷ [] ≡ [] → P
nothing_written [] x h = cc
nothing_written (y ∷ xs) x h = cc

back_closed : (known : Keywords) (rows : List Row) (r : Row) (es : List Directive)
    → filter has_symbols rows ++ r ∷ [] ≡ flat_map rows_of es → Goal known rows r es None
back_closed known rows r es h =
    ⊎_elim
    (λ none. nothing_written (filter has_symbols rows) r (h ∙ ap (flat_map rows_of) none))
    (λ some. subst (λ x. Goal known rows r x None) (sym some.2)
    (back_directive known rows r some.0 some.1
    (h ∙ ap (flat_map rows_of) some.2 ∙ flat_map-join rows_of some.0 (some.1 ∷ [])
    ∙ ap (λ l. flat_map rows_of some.0 ++ l) (append-nil (rows_of some.1)))))
    (last_of es)

-- the lines before the last are written, and the last is a move
pub written-back : (known : Keywords) (rows : List Row) (line : ℕ) (ts : List Symbol) (es : List Directive)
    (p : Option OpenBlock)
    → AreWritten known (rows ++ row line ts ∷ []) es p → Back known rows (row line ts) es p
written-back known rows line [] es p w = back_blank known rows line es p w
written-back known rows line (t ∷ ts) es None w =
    back_closed known rows (row line (t ∷ ts)) es
    (sym (filter-join has_symbols rows (row line (t ∷ ts) ∷ [])) ∙ w.spelled ∙ append-nil _) w
written-back known rows line (t ∷ ts) es (Some b) w =
    back_open known rows line t ts es b (sym (filter-join has_symbols rows (row line (t ∷ ts) ∷ [])) ∙ w.spelled) w
