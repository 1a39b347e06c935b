-- The lines above a line, and what the line makes of them.
use Rattle.std.proofs.Common.{◌≡◌, ◌≤◌, Bool, true, false, List, [], ◌∷◌, ◌++◌, map, filter, length, refl, ap, sym, ◌∙◌}
use Rattle.std.proofs.Common.{subst, arith, append-nil, Option}
use Rattle.std.specs.List.{AllByRecursion, list_any}
use Rattle.gomod.specs.declared.keyword.Keyword.{Keyword}
use Rattle.gomod.specs.declared.keyword.Keyword.TheVariants.{Module, Go, Toolchain, Require, Exclude, Replace, Retract}
use Rattle.gomod.specs.declared.keyword.Keyword.TheVariants.{Tool, Godebug, Ignore}
use Rattle.gomod.specs.Keywords.{Keywords}
use Rattle.gomod.specs.Entries.{IsRight}
use Rattle.gomod.specs.Grammar.{Row, row, has_symbols, Directive, one, OpenBlock, keyword_of, keywords_in, items}
use Rattle.gomod.specs.Grammar.{is_keyword, is_single, IsKnown, IsBlock, IsOpenBlock, AreWritten}
use Rattle.gomod.proofs.Lists.{all-append, filter-join, any-none, length-join}
use Rattle.gomod.proofs.Moves.{Move, blank, single, begins, inside, closes, closed, IsFresh, keywords_more, items_more}
use Rattle.gomod.proofs.Moves.{keywords_in-move, items-move, rows-move}

-- two keywords that pass the test of equality are equal
pub same_keyword : (j k : Keyword) → is_keyword j k ≡ true → j ≡ k
same_keyword Module Module h = refl
same_keyword Go Go h = refl
same_keyword Toolchain Toolchain h = refl
same_keyword Require Require h = refl
same_keyword Exclude Exclude h = refl
same_keyword Replace Replace h = refl
same_keyword Retract Retract h = refl
same_keyword Tool Tool h = refl
same_keyword Godebug Godebug h = refl
same_keyword Ignore Ignore h = refl
same_keyword _ _ h = cc

-- a keyword passes the test of equality with itself
pub is_keyword-itself : (k : Keyword) → is_keyword k k ≡ true
is_keyword-itself Module = refl
is_keyword-itself Go = refl
is_keyword-itself Toolchain = refl
is_keyword-itself Require = refl
is_keyword-itself Exclude = refl
is_keyword-itself Replace = refl
is_keyword-itself Retract = refl
is_keyword-itself Tool = refl
is_keyword-itself Godebug = refl
is_keyword-itself Ignore = refl

-- ---- a line more

known_more : {known : Keywords} {ds es : List Directive} {o p : Option OpenBlock} {r : Row} (m : Move known ds o r es p)
    → AllByRecursion (IsKnown known) (keywords_more m)
known_more (blank ds o line) = tt
known_more (single ds line k ts a f s) = (a, tt)
known_more (begins ds line k a f h) = (a, tt)
known_more (inside ds b line t ts room s) = tt
known_more (closes ds b line filled) = tt

right_more : {known : Keywords} {ds es : List Directive} {o p : Option OpenBlock} {r : Row} (m : Move known ds o r es p)
    → AllByRecursion (λ i. IsRight i.keyword i.entry.symbols) (items_more m)
right_more (blank ds o line) = tt
right_more (single ds line k ts a f s) = (s, tt)
right_more (begins ds line k a f h) = tt
right_more (inside ds b line t ts room s) = (s, tt)
right_more (closes ds b line filled) = tt

blocks_more : {known : Keywords} {ds es : List Directive} {o p : Option OpenBlock} {r : Row}
    (m : Move known ds o r es p) → AllByRecursion IsBlock ds → IsOpenBlock o → AllByRecursion IsBlock es
blocks_more (blank ds o line) hs h = hs
blocks_more (single ds line k ts a f s) hs h = all-append IsBlock ds (one k (row line ts) ∷ []) hs (tt, tt)
blocks_more (begins ds line k a f b) hs h = hs
blocks_more (inside ds b line t ts room s) hs h = hs
blocks_more (closes ds b line filled) hs h =
    all-append IsBlock ds (closed b line ∷ []) hs
    ((h.0, λ is. (let some = filled is in let few = h.1 is in omega (arith, some, few))), tt)

open_more : {known : Keywords} {ds es : List Directive} {o p : Option OpenBlock} {r : Row} (m : Move known ds o r es p)
    → IsOpenBlock o → IsOpenBlock p
open_more (blank ds o line) h = h
open_more (single ds line k ts a f s) h = tt
open_more (begins ds line k a f b) h = (b, λ is. omega arith)
open_more (inside ds b line t ts room s) h =
    (h.0, λ is. (let none = ap length (room is) in omega (arith, none, length-join b.entries (row line (t ∷ ts) ∷ []))))
open_more (closes ds b line filled) h = tt

-- one keyword more
fresh_by : (ds : List Directive) (j k : Keyword) (b : Bool) → is_keyword j k ≡ b → IsFresh ds k → is_single j ≡ true
    → length (filter (is_keyword j) (map keyword_of ds ++ [])) ≤ 1
    → length (filter (is_keyword j) ((map keyword_of ds ++ []) ++ k ∷ [])) ≤ 1
fresh_by ds j k false same fresh only few =
    let join : filter (is_keyword j) ((map keyword_of ds ++ []) ++ k ∷ [])
    ≡ filter (is_keyword j) (map keyword_of ds ++ []) ++ filter (is_keyword j) (k ∷ []) =
    filter-join (is_keyword j) (map keyword_of ds ++ []) (k ∷ []) in
    let none : length (filter (is_keyword j) (k ∷ [])) ≡ 0 = rw same refl in
    omega (
      arith,
      ap length join,
      length-join (filter (is_keyword j) (map keyword_of ds ++ [])) (filter (is_keyword j) (k ∷ [])),
      none,
      few,
    )
fresh_by ds j k true same fresh only few =
    let is = same_keyword j k same in
    let absent : list_any (is_keyword j) (map keyword_of ds) ≡ false =
    subst (λ i. list_any (is_keyword i) (map keyword_of ds) ≡ false) (sym is)
    (fresh (subst (λ i. is_single i ≡ true) is only)) in
    let empty : filter (is_keyword j) (map keyword_of ds ++ []) ≡ [] =
    ap (filter (is_keyword j)) (append-nil (map keyword_of ds))
    ∙ any-none (is_keyword j) (map keyword_of ds) absent in
    let one_more : length (filter (is_keyword j) (k ∷ [])) ≡ 1 = rw same refl in
    let join = filter-join (is_keyword j) (map keyword_of ds ++ []) (k ∷ []) in
    omega (
      arith,
      ap length join,
      length-join (filter (is_keyword j) (map keyword_of ds ++ [])) (filter (is_keyword j) (k ∷ [])),
      ap length empty,
      one_more,
    )

once_more : {known : Keywords} {ds es : List Directive} {o p : Option OpenBlock} {r : Row} (m : Move known ds o r es p)
    (j : Keyword) → is_single j ≡ true
    → length (filter (is_keyword j) (keywords_in ds o)) ≤ 1
    → length (filter (is_keyword j) (keywords_in ds o ++ keywords_more m)) ≤ 1
once_more (blank ds o line) j only few = subst (λ l. length (filter (is_keyword j) l) ≤ 1) (sym (append-nil _)) few
once_more (single ds line k ts a f s) j only few = fresh_by ds j k (is_keyword j k) refl f only few
once_more (begins ds line k a f h) j only few = fresh_by ds j k (is_keyword j k) refl f only few
once_more (inside ds b line t ts room s) j only few =
    subst (λ l. length (filter (is_keyword j) l) ≤ 1) (sym (append-nil _)) few
once_more (closes ds b line filled) j only few =
    subst (λ l. length (filter (is_keyword j) l) ≤ 1) (sym (append-nil _)) few

-- the lines with the line more are written too
pub written-move : {known : Keywords} {ds es : List Directive} {o p : Option OpenBlock} {r : Row} (rows : List Row)
    (m : Move known ds o r es p)
    → AreWritten known rows ds o → AreWritten known (rows ++ r ∷ []) es p
written-move {known = known} {ds = ds} {es = es} {o = o} {p = p} {r = r} rows m w = record {
  spelled = filter-join has_symbols rows (r ∷ []) ∙ ap (λ l. l ++ filter has_symbols (r ∷ [])) w.spelled
      ∙ sym (rows-move m);
  known_keywords = subst (AllByRecursion (IsKnown known)) (sym (keywords_in-move m))
      (all-append (IsKnown known) (keywords_in ds o) (keywords_more m) w.known_keywords (known_more m));
  blocks = blocks_more m w.blocks w.open_block;
  open_block = open_more m w.open_block;
  single = λ j only. subst (λ l. length (filter (is_keyword j) l) ≤ 1) (sym (keywords_in-move m))
      (once_more m j only (w.single j only));
  entries =
      subst (AllByRecursion (λ i. IsRight i.keyword i.entry.symbols)) (sym (items-move m))
      (all-append (λ i. IsRight i.keyword i.entry.symbols) (items ds o) (items_more m) w.entries (right_more m));
}
