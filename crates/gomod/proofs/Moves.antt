-- One line more: how the directives of the lines above go on.
use Rattle.std.proofs.Common.{◌≡◌, ℕ, true, false, List, [], ◌∷◌, ◌++◌, map, filter, ap, sym, ◌∙◌, append_assoc}
use Rattle.std.proofs.Common.{append-nil, Option, Some, None}
use Rattle.std.specs.List.{flat_map, list_any}
use Rattle.gomod.specs.declared.keyword.Keyword.{Keyword}
use Rattle.modlex.specs.Symbols.{Symbol}
use Rattle.gomod.specs.Keywords.{Keywords, has_block}
use Rattle.gomod.specs.Entries.{IsRight}
use Rattle.gomod.specs.Grammar.{Row, row, has_symbols, keyword_symbol, Directive, one, block, OpenBlock, opening}
use Rattle.gomod.specs.Grammar.{closing, rows_of}
use Rattle.gomod.specs.Grammar.{rows_of_open, keyword_of, keywords_in, Item, item, items_of, items, is_keyword}
use Rattle.gomod.specs.Grammar.{is_single, IsKnown}
use Rattle.gomod.specs.Faults.{HasRoom, IsFilled}
use Rattle.gomod.proofs.Lists.{map-join, flat_map-join}

-- an open block with one entry more
abbrev pub with_row : OpenBlock → Row → OpenBlock
with_row b r = record { keyword = b.keyword; first = b.first; entries = b.entries ++ r ∷ [] }

abbrev pub closed : OpenBlock → ℕ → Directive
closed b last = block b.keyword b.first b.entries last

-- no directive of a keyword that may stand once stands above
abbrev pub IsFresh : List Directive → Keyword → Type 0
IsFresh ds k = is_single k ≡ true → list_any (is_keyword k) (map keyword_of ds) ≡ false

-- what one line makes of the directives above it
pub data Move (known : Keywords) : List Directive → Option OpenBlock → Row → List Directive → Option OpenBlock
    → Type 0 where
  blank : (ds : List Directive) (o : Option OpenBlock) (line : ℕ) → Move known ds o (row line []) ds o
  single : (ds : List Directive) (line : ℕ) (k : Keyword) (ts : List Symbol) → IsKnown known k → IsFresh ds k
      → IsRight k ts → Move known ds None (row line (keyword_symbol k ∷ ts)) (ds ++ one k (row line ts) ∷ []) None
  begins : (ds : List Directive) (line : ℕ) (k : Keyword) → IsKnown known k → IsFresh ds k → has_block k ≡ true
      → Move known ds None (opening k line) ds (Some (record { keyword = k; first = line; entries = [] }))
  inside : (ds : List Directive) (b : OpenBlock) (line : ℕ) (t : Symbol) (ts : List Symbol) → HasRoom b
      → IsRight b.keyword (t ∷ ts)
      → Move known ds (Some b) (row line (t ∷ ts)) ds (Some (with_row b (row line (t ∷ ts))))
  closes : (ds : List Directive) (b : OpenBlock) (line : ℕ) → IsFilled b
      → Move known ds (Some b) (closing line) (ds ++ closed b line ∷ []) None

-- ---- what a move adds

abbrev pub keywords_more : {known : Keywords} {ds es : List Directive} {o p : Option OpenBlock} {r : Row}
    → Move known ds o r es p → List Keyword
keywords_more (blank ds o line) = []
keywords_more (single ds line k ts a f s) = k ∷ []
keywords_more (begins ds line k a f h) = k ∷ []
keywords_more (inside ds b line t ts room s) = []
keywords_more (closes ds b line filled) = []

abbrev pub items_more : {known : Keywords} {ds es : List Directive} {o p : Option OpenBlock} {r : Row}
    → Move known ds o r es p → List Item
items_more (blank ds o line) = []
items_more (single ds line k ts a f s) = item k (row line ts) ∷ []
items_more (begins ds line k a f h) = []
items_more (inside ds b line t ts room s) = item b.keyword (row line (t ∷ ts)) ∷ []
items_more (closes ds b line filled) = []

no_more : {A : Type 0} (xs : List A) → xs ≡ xs ++ []
no_more xs = sym (append-nil xs)

-- a list whose second half is empty, and one element more
at_end : {A : Type 0} (xs : List A) (x : A) → (xs ++ x ∷ []) ++ [] ≡ (xs ++ []) ++ x ∷ []
at_end xs x = append-nil (xs ++ x ∷ []) ∙ ap (λ l. l ++ x ∷ []) (no_more xs)

pub keywords_in-single : (ds : List Directive) (k : Keyword) (e : Row)
    → keywords_in (ds ++ one k e ∷ []) None ≡ keywords_in ds None ++ k ∷ []
keywords_in-single ds k e = ap (λ l. l ++ []) (map-join keyword_of ds (one k e ∷ [])) ∙ at_end (map keyword_of ds) k

pub items-single : (ds : List Directive) (k : Keyword) (e : Row)
    → items (ds ++ one k e ∷ []) None ≡ items ds None ++ item k e ∷ []
items-single ds k e = ap (λ l. l ++ []) (flat_map-join items_of ds (one k e ∷ []))
    ∙ at_end (flat_map items_of ds) (item k e)

pub items-inside : (ds : List Directive) (b : OpenBlock) (r : Row)
    → items ds (Some (with_row b r)) ≡ items ds (Some b) ++ item b.keyword r ∷ []
items-inside ds b r =
    ap (λ l. flat_map items_of ds ++ l) (map-join (item b.keyword) b.entries (r ∷ []))
    ∙ sym (append_assoc (flat_map items_of ds) (map (item b.keyword) b.entries) (item b.keyword r ∷ []))

pub keywords_in-move : {known : Keywords} {ds es : List Directive} {o p : Option OpenBlock} {r : Row}
    (m : Move known ds o r es p) → keywords_in es p ≡ keywords_in ds o ++ keywords_more m
keywords_in-move (blank ds o line) = no_more _
keywords_in-move (single ds line k ts a f s) = keywords_in-single ds k (row line ts)
keywords_in-move (begins ds line k a f h) = ap (λ l. l ++ k ∷ []) (no_more (map keyword_of ds))
keywords_in-move (inside ds b line t ts room s) = no_more _
keywords_in-move (closes ds b line filled) =
    ap (λ l. l ++ []) (map-join keyword_of ds (closed b line ∷ []))

pub items-move : {known : Keywords} {ds es : List Directive} {o p : Option OpenBlock} {r : Row}
    (m : Move known ds o r es p) → items es p ≡ items ds o ++ items_more m
items-move (blank ds o line) = no_more _
items-move (single ds line k ts a f s) = items-single ds k (row line ts)
items-move (begins ds line k a f h) = no_more _
items-move (inside ds b line t ts room s) = items-inside ds b (row line (t ∷ ts))
items-move (closes ds b line filled) =
    ap (λ l. l ++ []) (flat_map-join items_of ds (closed b line ∷ []))
    ∙ ap (λ l. (flat_map items_of ds ++ l) ++ []) (append-nil (map (item b.keyword) b.entries))

-- the lines of a directive, and of the open block, grow by the line
pub rows-move : {known : Keywords} {ds es : List Directive} {o p : Option OpenBlock} {r : Row}
    (m : Move known ds o r es p)
    → flat_map rows_of es ++ rows_of_open p ≡ (flat_map rows_of ds ++ rows_of_open o) ++ filter has_symbols (r ∷ [])
rows-move (blank ds o line) = no_more _
rows-move (single ds line k ts a f s) =
    ap (λ l. l ++ []) (flat_map-join rows_of ds (one k (row line ts) ∷ []))
    ∙ at_end (flat_map rows_of ds) (row line (keyword_symbol k ∷ ts))
rows-move (begins ds line k a f h) = ap (λ l. l ++ opening k line ∷ []) (no_more (flat_map rows_of ds))
rows-move (inside ds b line t ts room s) =
    sym (append_assoc (flat_map rows_of ds) (rows_of_open (Some b)) (row line (t ∷ ts) ∷ []))
rows-move (closes ds b line filled) =
    ap (λ l. l ++ []) (flat_map-join rows_of ds (closed b line ∷ []))
    ∙ append-nil _
    ∙ ap (λ l. flat_map rows_of ds ++ l) (append-nil (rows_of (closed b line)))
    ∙ sym (append_assoc (flat_map rows_of ds) (rows_of_open (Some b)) (closing line ∷ []))
