-- The lines of shelves in a health: read one after another, they are those of counts.
use Rattle.std.proofs.Common.{◌≡◌, ◌==◌, ◌<◌, ◌+◌, ◌^◌, ℕ, zero, suc, Bool, true, false, not, cond, List, [], ◌∷◌}
use Rattle.std.proofs.Common.{◌++◌}
use Rattle.std.proofs.Common.{length, take, drop, decimal, codes, append_assoc, Option, Some, None, refl, sym, ap}
use Rattle.std.proofs.Common.{subst, ◌∙◌, arith, inl, inr, All, take-append-drop}
use Rattle.std.specs.Prelude.{map as each, option_map, option_and_then, bytes_eq, ◌||◌, ◌&&◌}
use Rattle.std.specs.FinMap as map
use Rattle.std.specs.FinMap.Entries.{below_all, find}
use Rattle.std.specs.List.{flat_map, list_all}
use Rattle.std.specs.Ordering.{eq_by_cmp, is_eq, is_lt, ordering_reverse}
use Rattle.std.specs.declared.cmp.Ordering.{Ordering}
use Rattle.std.specs.declared.cmp.Ordering.TheVariants.{Less, Equal, Greater}
use Rattle.std.specs.Cmp.{tied_itself}
use Rattle.std.specs.Str.{IsAscii, IsUtf8}
use Rattle.std.proofs.lemmas.Bool.{and_from, and_parts, cases_Bool, eqb-true, false≢true, or_cases}
use Rattle.std.proofs.lemmas.Bool.Decides.{nat_tests}
use Rattle.std.proofs.lemmas.List.{drop_at, nil_from_length, take_at}
use Rattle.std.proofs.lemmas.List.Elements.{All-cons, All-head, All-nil, All-tail}
use Rattle.std.proofs.lemmas.Option.{none-some, same_Some}
use lib.Dec.{T}
use Rattle.world.specs.Names.{is_name_byte, is_team_name}
use Rattle.world.specs.World.{common, text_cmp}
use Rattle.world.proofs.Orders.{text_same, texts_total}
use Rattle.control.specs.HealthText.{are_shelf_lines, counts, named, next_shelf, number, some_passes, word, word_len}
use Rattle.control.specs.Traffic.{IsShelf, is_shelf_name, lines_of, shelf_line}
use Rattle.control.specs.declared.traffic.ShelfTraffic.{ShelfTraffic}
use Rattle.control.specs.declared.traffic.Traffic.{Traffic}
use Rattle.control.proofs.HealthPieces.{map-some, number-at, number-some, then-some, word-at, word-some}

abbrev pub Shelf : Type 0
Shelf = List ℕ × ShelfTraffic

-- ---- names

no_space_byte : (b : ℕ) → is_name_byte b ≡ true → (b == 32) ≡ false
no_space_byte b is = grind (arith, nat_tests)

abbrev is_other : ℕ → Bool
is_other b = not (b == 32)

others : (name : List ℕ) → list_all is_name_byte name ≡ true → list_all is_other name ≡ true
others [] all = refl
others (b ∷ bs) all =
    let parts = and_parts (is_name_byte b) (list_all is_name_byte bs) all in
    and_from (is_other b) (list_all is_other bs) (ap not (no_space_byte b parts.0)) (others bs parts.1)

no_space : (name : List ℕ) → is_shelf_name name ≡ true → list_all is_other name ≡ true
no_space name is = elim (or_cases (is_team_name name) (bytes_eq name common) is) [
  | inl team ↦ others name (and_parts _ _ (and_parts _ _ team).0).1
  | inr same ↦ subst (λ (n : List ℕ). list_all is_other n ≡ true) (sym (text_same name common same)) refl
]

word_len-front : (name rest : List ℕ) → list_all is_other name ≡ true → word_len (name ++ 32 ∷ rest) ≡ length name
word_len-front [] rest all = refl
word_len-front (b ∷ bs) rest all =
    let halves = and_parts (is_other b) (list_all is_other bs) all in
    let yes = halves.0 in
    let more = word_len-front bs rest halves.1 in
    let here : word_len (b ∷ (bs ++ 32 ∷ rest)) ≡ word_len (bs ++ 32 ∷ rest) + 1 = rw yes (omega arith) in
    omega (arith, more, here)

-- ---- one line

abbrev counts_text : ShelfTraffic → List ℕ → List ℕ
counts_text t rest =
    codes " publishes=" ++ (decimal t.publishes ++ (codes " fetches=" ++ (decimal t.fetches ++ (codes "\n" ++ rest))))

line_spread : (name rest : List ℕ) (t : ShelfTraffic)
    → shelf_line name (Some t) ++ rest ≡ codes "shelf " ++ (name ++ counts_text t rest)
line_spread name rest t = simp append_assoc

module _ (t : ShelfTraffic) (rest : List ℕ) where
  counts-at : t.publishes < 2 ^ 64 → t.fetches < 2 ^ 64 → counts (counts_text t rest) ≡ Some rest
  counts-at publishes fetches =
      let end : List ℕ = codes "\n" ++ rest in
      let second : List ℕ = codes " fetches=" ++ (decimal t.fetches ++ end) in
      ap (λ left. word (codes "\n") (number (codes " fetches=") left))
      (number-at (codes " publishes=") second t.publishes publishes refl)
      ∙ ap (word (codes "\n")) (number-at (codes " fetches=") end t.fetches fetches refl)
      ∙ word-at (codes "\n") rest

counts-some : (text rest : List ℕ) → counts text ≡ Some rest
    → (t : ShelfTraffic) × (t.publishes < 2 ^ 64) × (t.fetches < 2 ^ 64) × (text ≡ counts_text t rest)
counts-some text rest is =
    let first = number (codes " publishes=") (Some text) in
    let end = word-some (codes "\n") rest (number (codes " fetches=") first) is in
    let fetches = number-some (codes " fetches=") (codes "\n" ++ rest) first end in
    let second : List ℕ = codes " fetches=" ++ (decimal fetches.0 ++ (codes "\n" ++ rest)) in
    let publishes = number-some (codes " publishes=") second (Some text) fetches.2 in (
      record { publishes = publishes.0; fetches = fetches.0 },
      publishes.1,
      fetches.1,
      same_Some text _ publishes.2,
    )

-- the line of a shelf whose name comes behind the last one
next-at : (last : List ℕ) (e : Shelf) (rest : List ℕ) → IsShelf e → text_cmp last e.0 ≡ Less
    → next_shelf last (shelf_line e.0 (Some e.1) ++ rest) ≡ Some (e.0, rest)
unfolding next_shelf
next-at last e rest is behind =
    let name : List ℕ = e.0 in
    let tail : List ℕ = counts_text e.1 rest in
    let len : word_len (name ++ tail) ≡ length name = word_len-front name _ (no_space name is.0) in
    ap (λ (t : List ℕ). option_and_then (λ (r : List ℕ). named last (take (word_len r) r) (drop (word_len r) r))
    (word (codes "shelf ") (Some t))) (line_spread name rest e.1)
    ∙ ap (option_and_then (λ (r : List ℕ). named last (take (word_len r) r) (drop (word_len r) r)))
    (word-at (codes "shelf ") (name ++ tail))
    ∙ ap (λ n. named last (take n (name ++ tail)) (drop n (name ++ tail))) len
    ∙ (λ i. named last (take_at name tail (length name) refl i) (drop_at name tail (length name) refl i))
    ∙ ap (λ b. cond b (cond (is_lt (text_cmp last name)) (option_map (λ (r : List ℕ). (name, r)) (counts tail)) None)
    None) is.0
    ∙ ap (λ r. cond (is_lt r) (option_map (λ (s : List ℕ). (name, s)) (counts tail)) None) behind
    ∙ ap (option_map (λ (r : List ℕ). (name, r))) (counts-at e.1 rest is.1 is.2)

less : (r : Ordering) → is_lt r ≡ true → r ≡ Less
less Less is = refl
less Equal is = absurd (false≢true is)
less Greater is = absurd (false≢true is)

module _ {A : Type 0} where
  given : (b : Bool) (o : Option A) (y : A) → cond b o None ≡ Some y → (b ≡ true) × (o ≡ Some y)
  given true o y is = (refl, is)
  given false o y is = absurd (none-some y is)

next-some : (last text : List ℕ) (x : List ℕ × List ℕ) → next_shelf last text ≡ Some x
    → (t : ShelfTraffic) × IsShelf (x.0, t) × (text_cmp last x.0 ≡ Less) × (text ≡ shelf_line x.0 (Some t) ++ x.1)
unfolding next_shelf
next-some last text x is =
    let begun = then-some (λ (r : List ℕ). named last (take (word_len r) r) (drop (word_len r) r))
    (word (codes "shelf ") (Some text)) x is in
    let rest : List ℕ = begun.0 in
    let size = word_len rest in
    let name : List ℕ = take size rest in
    let shown = given (is_shelf_name name) _ x begun.2 in
    let behind = given (is_lt (text_cmp last name)) _ x shown.1 in
    let read = map-some (λ (r : List ℕ). (name, r)) (counts (drop size rest)) x behind.1 in
    let told = counts-some (drop size rest) read.0 read.1 in
    let line : text ≡ shelf_line name (Some told.0) ++ read.0 =
    same_Some text _ (word-some (codes "shelf ") rest (Some text) begun.1)
    ∙ ap (λ (r : List ℕ). codes "shelf " ++ r)
    (sym (take-append-drop size rest) ∙ ap (λ (r : List ℕ). name ++ r) told.3)
    ∙ sym (line_spread name read.0 told.0) in
    subst (λ (y : List ℕ × List ℕ). (t : ShelfTraffic) × IsShelf (y.0, t) × (text_cmp last y.0 ≡ Less)
    × (text ≡ shelf_line y.0 (Some t) ++ y.1)) read.2
    (told.0, (shown.0, told.1, told.2), less (text_cmp last name) behind.0, line)

-- ---- all lines

abbrev pub text_of : List Shelf → List ℕ
text_of es = flat_map (λ (e : Shelf). shelf_line e.0 (Some e.1)) es

-- each name comes behind the one before it
abbrev pub AreAfter : List ℕ → List Shelf → Type 0
AreAfter last [] = Unit {0}
AreAfter last (e ∷ es) = (text_cmp last e.0 ≡ Less) × AreAfter e.0 es

lines-at : (es : List Shelf) (last : List ℕ) → AreAfter last es → All IsShelf es
    → are_shelf_lines (length es) last (text_of es) ≡ true
lines-at [] last after all = refl
lines-at (e ∷ es) last after all =
    ap (some_passes (λ (x : List ℕ × List ℕ). are_shelf_lines (length es) x.0 x.1))
    (next-at last e (text_of es) (All-head IsShelf e es all) after.0)
    ∙ lines-at es e.0 after.1 (All-tail IsShelf e es all)

pub passes-some : {A : Type 0} (test : A → Bool) (o : Option A) → some_passes test o ≡ true
    → (x : A) × (o ≡ Some x) × (test x ≡ true)
passes-some test None is = absurd (false≢true is)
passes-some test (Some x) is = (x, refl, is)

-- these are the shelves whose lines a text is, with names behind the last one
record AreLines (n : ℕ) (last text : List ℕ) : Type 0 where
  shelves : List Shelf
  many : length shelves ≡ n
  after : AreAfter last shelves
  are : All IsShelf shelves
  text_is : text ≡ text_of shelves

lines-some : (n : ℕ) (last text : List ℕ) → are_shelf_lines n last text ≡ true → AreLines n last text
lines-some zero last text is = record {
  shelves = [];
  many = refl;
  after = tt;
  are = All-nil IsShelf;
  text_is = nil_from_length text (eqb-true (length text) 0 is);
}
lines-some (suc n) last text is =
    let next = passes-some (λ (x : List ℕ × List ℕ). are_shelf_lines n x.0 x.1) (next_shelf last text) is in
    let line = next-some last text next.0 next.1 in
    let more = lines-some n next.0.0 next.0.1 next.2 in
    record {
      shelves = (next.0.0, line.0) ∷ more.shelves;
      many = ap suc more.many;
      after = (line.2, more.after);
      are = All-cons IsShelf (next.0.0, line.0) more.shelves line.1 more.are;
      text_is = line.3 ∙ ap (λ (t : List ℕ). shelf_line next.0.0 (Some line.0) ++ t) more.text_is;
    }

-- ---- the order of names

of_T : (b : Bool) → T b → b ≡ true
of_T true is = refl
of_T false is = absurd is

to_T : (b : Bool) → b ≡ true → T b
to_T b is = subst T (sym is) tt

after_sorted : (last : List ℕ) (es : List Shelf) → below_all text_cmp last es ≡ true
    → map.is_sorted text_cmp es ≡ true → AreAfter last es
after_sorted last [] below sorted = tt
after_sorted last (e ∷ es) below sorted =
    let first = and_parts (is_lt (text_cmp last e.0)) (below_all text_cmp last es) below in
    let rest = and_parts (below_all text_cmp e.0 es) (map.is_sorted text_cmp es) sorted in
    (less (text_cmp last e.0) first.0, after_sorted e.0 es rest.0 rest.1)

below_more : (last name : List ℕ) (es : List Shelf) → text_cmp last name ≡ Less → below_all text_cmp name es ≡ true
    → below_all text_cmp last es ≡ true
below_more last name [] behind below = refl
below_more last name (e ∷ es) behind below =
    let parts = and_parts (is_lt (text_cmp name e.0)) (below_all text_cmp name es) below in
    and_from (is_lt (text_cmp last e.0)) (below_all text_cmp last es)
    (ap is_lt (texts_total.trans last name e.0 behind (less (text_cmp name e.0) parts.0)))
    (below_more last name es behind parts.1)

sorted_after : (last : List ℕ) (es : List Shelf) → AreAfter last es
    → (below_all text_cmp last es ≡ true) × (map.is_sorted text_cmp es ≡ true)
sorted_after last [] after = (refl, refl)
sorted_after last (e ∷ es) after =
    let rest = sorted_after e.0 es after.1 in (
      and_from (is_lt (text_cmp last e.0)) (below_all text_cmp last es) (ap is_lt after.0)
          (below_more last e.0 es after.0 rest.0),
      and_from (below_all text_cmp e.0 es) (map.is_sorted text_cmp es) rest.0 rest.1,
    )

-- a name has a byte, so it comes behind no byte
behind_none : (name : List ℕ) → is_shelf_name name ≡ true → text_cmp [] name ≡ Less
behind_none [] is = absurd (false≢true is)
behind_none (b ∷ bs) is = refl

below_none : (es : List Shelf) → All IsShelf es → below_all text_cmp [] es ≡ true
below_none [] all = refl
below_none (e ∷ es) all =
    and_from (is_lt (text_cmp [] e.0)) (below_all text_cmp [] es)
    (ap is_lt (behind_none e.0 (All-head IsShelf e es all).0)) (below_none es (All-tail IsShelf e es all))

-- ---- the lines of counts

-- at the names behind one, a list that has it finds what the rest of the list finds
found_behind : (e : Shelf) (rest : List Shelf) (es : List Shelf) → below_all text_cmp e.0 es ≡ true
    → flat_map (λ (s : List ℕ). shelf_line s (find text_cmp s (e ∷ rest))) (each (λ (x : Shelf). x.0) es)
    ≡ flat_map (λ (s : List ℕ). shelf_line s (find text_cmp s rest)) (each (λ (x : Shelf). x.0) es)
found_behind e rest [] below = refl
found_behind e rest (x ∷ es) below =
    let parts = and_parts (is_lt (text_cmp e.0 x.0)) (below_all text_cmp e.0 es) below in
    let greater : text_cmp x.0 e.0 ≡ Greater =
    texts_total.antisymm x.0 e.0 ∙ ap ordering_reverse (less (text_cmp e.0 x.0) parts.0) in
    let here : find text_cmp x.0 (e ∷ rest) ≡ find text_cmp x.0 rest =
    ap (λ r. cond (is_eq r) (Some e.1) (find text_cmp x.0 rest)) greater in
    λ i. shelf_line x.0 (here i) ++ found_behind e rest es parts.1 i

-- each name of a sorted list finds its own counts there
found_each : (es : List Shelf) → map.is_sorted text_cmp es ≡ true
    → flat_map (λ (s : List ℕ). shelf_line s (find text_cmp s es)) (each (λ (x : Shelf). x.0) es) ≡ text_of es
found_each [] sorted = refl
found_each (e ∷ es) sorted =
    let parts = and_parts (below_all text_cmp e.0 es) (map.is_sorted text_cmp es) sorted in
    let here : find text_cmp e.0 (e ∷ es) ≡ Some e.1 =
    ap (λ r. cond (is_eq r) (Some e.1) (find text_cmp e.0 es)) (tied_itself texts_total e.0) in
    λ i. shelf_line e.0 (here i) ++ (found_behind e es es parts.0 ∙ found_each es parts.1) i

lines_listed : (t : Traffic) → lines_of t ≡ text_of (map.entries t.shelves)
lines_listed t =
    let es = map.entries t.shelves in
    flat_same (each (λ (x : Shelf). x.0) es)
    ∙ found_each es (of_T (map.is_sorted text_cmp es) (map.entries_sorted t.shelves))
  where
    flat_same : (names : List (List ℕ))
        → flat_map (λ (s : List ℕ). shelf_line s (map.get t.shelves s)) names
        ≡ flat_map (λ (s : List ℕ). shelf_line s (find text_cmp s (map.entries t.shelves))) names
    flat_same [] = refl
    flat_same (s ∷ names) = λ i. shelf_line s (map.get-entries t.shelves s i) ++ flat_same names i

-- the lines of counts are read
pub traffic-at : (t : Traffic) → All IsShelf (map.entries t.shelves)
    → are_shelf_lines (map.len t.shelves) [] (lines_of t) ≡ true
traffic-at t all =
    let es = map.entries t.shelves in
    let sorted = of_T (map.is_sorted text_cmp es) (map.entries_sorted t.shelves) in
    ap (λ n. are_shelf_lines n [] (lines_of t)) (map.len-entries t.shelves)
    ∙ ap (are_shelf_lines (length es) []) (lines_listed t)
    ∙ lines-at es [] (after_sorted [] es (below_none es all) sorted) all

-- and what is read are the lines of counts
pub traffic-some : (n : ℕ) (text : List ℕ) → are_shelf_lines n [] text ≡ true
    → (t : Traffic) × All IsShelf (map.entries t.shelves) × (map.len t.shelves ≡ n) × (text ≡ lines_of t)
traffic-some n text is =
    let lines = lines-some n [] text is in
    let sorted = to_T (map.is_sorted text_cmp lines.shelves) (sorted_after [] lines.shelves lines.after).1 in
    let t : Traffic = record { shelves = map.from_sorted lines.shelves } in
    let same : map.entries t.shelves ≡ lines.shelves = map.entries-from_sorted text_cmp lines.shelves sorted in (
      t,
      subst (All IsShelf) (sym same) lines.are,
      map.len-entries t.shelves ∙ ap length same ∙ lines.many,
      lines.text_is ∙ ap text_of (sym same) ∙ sym (lines_listed t),
    )
