-- What the walk over the rows of `piece` tells.
use Rattle.std.proofs.Common.{◌≡◌, ◌<◌, ◌+◌, ◌++◌, ◌⊎◌, ℕ, ℤ, zero, suc, pos, true, false, List, [], ◌∷◌, map, Some}
use Rattle.std.proofs.Common.{None, inl, inr, refl, sym, ap, subst, ◌∙◌, arith, Less, Equal, Greater}
use Rattle.std.specs.Prelude.{◌<ℤ◌}
use Rattle.std.specs.Ordering.{ordering_then, int_cmp}
use Rattle.std.specs.declared.cmp.Ordering.{Ordering}
use Rattle.std.specs.Cmp.{IsTotalOrder, tied_itself, int_cmp_total, int_cmp_is}
use Rattle.std.specs.FinMap.{IsAntisymmetric, int_cmp-IsAntisymmetric}
use Rattle.std.proofs.lemmas.Cmp.{on_total, then_total, int_ranked}
use Rattle.std.proofs.lemmas.Int.{ints}
use Rattle.std.proofs.lemmas.List.Sorted.{IsPermutation-sym}
use Rattle.sqlite.specs.Order.{Row, column}
use Rattle.sqlite.specs.Effect.{Database}
use Rattle.sqlite.specs.Query.{key_cmp}
use Rattle.sqlite.specs.Collation.TheVariants.{Binary}
use Rattle.sqlite_value.specs.Keys.{ascending}
use Rattle.sqlite_value.proofs.OrderLemmas.{value_cmp-Int, then-Equal}
use Rattle.sqlite_trees.specs.Tree.{IsAscending}
use Rattle.sqlite_rules.specs.Lists.{Has}
use Rattle.sqlite_rules.proofs.ListLemmas.{has_right, has_either}
use Rattle.tables.specs.Fit.{IsPieceRow, ArePiecesFit, piece_key, piece_in, piece_shown, full_piece, int_in, nat_in}
use Rattle.tables.specs.Walks.{Pass, Walks, GoesOn, MayGoOn}
use Rattle.tables.specs.declared.pieces.LastPiece.{LastPiece}
use Rattle.tables.specs.declared.pieces.PieceRows.{PieceRows}
use Rattle.tables.proofs.Texts.{piece_rows_text}
use Rattle.tables.proofs.Ascending.{has_permuted, Steps, Adjacent, adjacent_among, front_ascends, across}
use Rattle.tables.proofs.ListingLemmas.{piece_rows, rows_listed, in_its_order, all_shown, first_shown, number_columns}
use Rattle.tables.proofs.PieceLemmas.{zero_unless}
use Rattle.tables.proofs.RunLemmas.{adjacent_follow, pass_at, last_row}
use Rattle.tables.proofs.FitTests.{not_itself, Apart, apart_permuted, rises_apart, rise, pass_each, at_index}

abbrev pub PieceFits : PieceRows → Row → Type 0
PieceFits rows row = IsPieceRow row × MayGoOn rows.last (piece_in row)

abbrev pub PieceKeeps : PieceRows → Row → PieceRows → Type 0
PieceKeeps rows row next = next.last ≡ Some (piece_in row)

-- ---- the order of versions and numbers

abbrev PieceKey : Type 0
PieceKey = ℤ × ℕ

abbrev version_cmp : PieceKey → PieceKey → Ordering
version_cmp a b = int_cmp a.0 b.0

abbrev number_cmp : PieceKey → PieceKey → Ordering
number_cmp a b = int_cmp (pos a.1) (pos b.1)

abbrev piece_cmp : PieceKey → PieceKey → Ordering
piece_cmp a b = ordering_then (version_cmp a b) (number_cmp a b)

pieces_total : IsTotalOrder piece_cmp
pieces_total = then_total (on_total (λ (k : PieceKey). k.0) int_cmp_total)
    (on_total (λ (k : PieceKey). pos k.1) int_cmp_total)

-- keys of pieces that tie are equal
pieces_exact : IsAntisymmetric piece_cmp
pieces_exact a b h = go (version_cmp a b) (number_cmp a b) refl refl h
  where
    go : (v n : Ordering) → version_cmp a b ≡ v → number_cmp a b ≡ n → ordering_then v n ≡ Equal → a ≡ b
    go Equal n one two h =
        let version = int_cmp-IsAntisymmetric a.0 b.0 one in
        let e : pos a.1 ≡ pos b.1 = int_cmp-IsAntisymmetric (pos a.1) (pos b.1) (two ∙ h) in
        let number : a.1 ≡ b.1 = cc in
        λ i. (version i, number i)
    go Less n one two h = absurd (cc)
    go Greater n one two h = absurd (cc)

-- a piece is below another: of a version below, or of the same with a number below
abbrev IsBelow : PieceKey → PieceKey → Type 0
IsBelow a b = (a.0 <ℤ b.0) ⊎ ((a.0 ≡ b.0) × (a.1 < b.1))

below : (a b : PieceKey) → piece_cmp a b ≡ Less → IsBelow a b
below a b h = go (version_cmp a b) (number_cmp a b) refl refl h
  where
    go : (v n : Ordering) → version_cmp a b ≡ v → number_cmp a b ≡ n → ordering_then v n ≡ Less → IsBelow a b
    go Less n one two h = inl (int_ranked a.0 b.0 Less (sym one))
    go Equal n one two h =
        let low : pos a.1 <ℤ pos b.1 = int_ranked (pos a.1) (pos b.1) Less (sym (two ∙ h)) in
        inr (int_ranked a.0 b.0 Equal (sym one), omega (arith, ints, low))
    go Greater n one two h = absurd (cc)

above : (a b : PieceKey) → a.0 ≡ b.0 → a.1 < b.1 → piece_cmp a b ≡ Less
above a b version low =
    let same : version_cmp a b ≡ Equal = ap (int_cmp a.0) (sym version) ∙ tied_itself int_cmp_total a.0 in
    let high : number_cmp a b ≡ Less = sym (int_cmp_is (pos a.1) (pos b.1) Less (omega (arith, ints, low))) in
    λ i. ordering_then (same i) (high i)

-- pieces in SQL's order are in ours
pieces_ordered : (a b : Row) → IsPieceRow a → IsPieceRow b
    → key_cmp 0 (ascending Binary ∷ ascending Binary ∷ []) (number_columns a) (number_columns b)
    ≡ piece_cmp (piece_key a) (piece_key b)
pieces_ordered a b one two = rw (one.of_version, one.numbered, two.of_version, two.numbered)
    (λ i. ordering_then (value_cmp-Int one.version two.version i)
    ((then-Equal _ ∙ value_cmp-Int (pos one.number) (pos two.number)) i))

abbrev Rises : Row → Row → Type 0
Rises a b = piece_cmp (piece_key a) (piece_key b) ≡ Less

ascending_adjacent : (P : Row → Row → Type 0) (rows : List Row) → IsAscending P rows → Adjacent P rows
ascending_adjacent P [] up = tt
ascending_adjacent P (x ∷ rows) up = go x rows up
  where
    go : (x : Row) (rows : List Row) → IsAscending P (x ∷ rows) → Steps P x rows
    go x [] up = tt
    go x (y ∷ rows) up = (up.0.0, go y rows up.1)

-- a piece that goes on after another has another key
goes_apart : (a b : Row) → GoesOn (piece_in a) (piece_in b) → Apart piece_key a b
goes_apart a b may same =
    let next = (may.next (ap (λ (k : PieceKey). k.0) same)).1 in
    let number = ap (λ (k : PieceKey). k.1) same in
    omega (arith, next, number)

-- ---- all rows pass

-- the key of a piece that goes on, behind the first, is the next one of a full piece
goes_on : (last : LastPiece) (row : Row) (n : ℕ) → GoesOn last (piece_in row) → nat_in (column row 1) ≡ n + 1
    → last ≡ full_piece (int_in (column row 0)) n
goes_on last row n may is = go (int_cmp last.version (int_in (column row 0))) refl
  where
    other : (last.version ≡ int_in (column row 0) → ⊥) → last ≡ full_piece (int_in (column row 0)) n
    other apart = let first = may.first apart in absurd (omega (arith, first, is))

    go : (o : Ordering) → int_cmp last.version (int_in (column row 0)) ≡ o → last ≡ full_piece (int_in (column row 0)) n
    go Equal e =
        let version = int_cmp-IsAntisymmetric last.version (int_in (column row 0)) e in
        let next = may.next version in
        let step = next.1 in
        let number : last.number ≡ n = omega (arith, step, is) in
        λ i. record { version = version i; number = number i; is_full = next.0 i }
    go Less e = other (λ same. not_itself int_cmp_total _ _ e same)
    go Greater e = other (λ same. let f : Greater ≡ Equal = sym e
        ∙ (ap (int_cmp last.version) (sym same) ∙ tied_itself int_cmp_total last.version) in absurd (cc))

module _ (db : Database) (start end : PieceRows) (new : start.last ≡ None) where
  abbrev all : List Row
  all = map piece_shown (db.trees 8)

  -- among rows that passed, a piece n + 1 has a full piece n of its version
  piece_before : (rows : List Row) → Pass PieceFits PieceKeeps start rows end → (row : Row) (n : ℕ) → Has rows row
      → nat_in (column row 1) ≡ n + 1
      → (other : Row) × Has rows other × (piece_in other ≡ full_piece (int_in (column row 0)) n)
  piece_before rows p row n there is = elim it.2 [
    | inl first ↦ (
        let number : (piece_in row).number ≡ 0 =
        subst (λ l. MayGoOn l (piece_in row)) (ap (λ (x : PieceRows). x.last) first ∙ new) it.1.1 in
        absurd (omega (arith, number, is)))
    | inr (b, here, was) ↦ (b, here, goes_on (piece_in b) row n (subst (λ l. MayGoOn l (piece_in row)) was it.1.1) is)
  ]
    where
      it : (so_far : PieceRows) × PieceFits so_far row
          × ((so_far ≡ start) ⊎ ((r : Row) × Has rows r × (so_far.last ≡ Some (piece_in r))))
      it = pass_at PieceFits PieceKeeps (λ (x : PieceRows). x.last) piece_in (λ x row next keeps. keeps) start rows end
          p row there

  -- if each row of `piece` passed, the rows of the table fit
  pub pieces_true : Walks PieceFits PieceKeeps piece_rows_text db start end true → ArePiecesFit all
  pieces_true w =
      let rows = w.0 in
      let it = all_shown piece_rows db rows w.1 in
      let same = rows_listed piece_rows db.trees rows it in
      let back = IsPermutation-sym _ _ same in
      let each = λ (row : Row) (there : Has rows row).
      (pass_each PieceFits PieceKeeps start rows end w.2 row there).1.0 in
      let follow = adjacent_follow PieceFits PieceKeeps (λ (x : PieceRows). x.last) piece_in (λ x row next keeps. keeps)
      GoesOn
      (λ x row k fits is. subst (λ l. MayGoOn l (piece_in row)) is fits.1) start rows end w.2 in
      let apart = adjacent_among _ (Apart piece_key) rows (λ a b here there may. goes_apart a b may) follow in
      let up = rise pieces_total piece_key pieces_exact IsPieceRow (ascending Binary ∷ ascending Binary ∷ [])
      number_columns pieces_ordered rows each
      (in_its_order piece_rows db.trees rows it number_columns (λ env. refl)) apart in
      record {
        pieces = record {
          each = λ row there. each row (has_permuted rows all row back there);
          once = apart_permuted piece_key rows all back (rises_apart pieces_total piece_key rows up);
        };
        before = λ row n there is.
            let it = piece_before rows w.2 row n (has_permuted rows all row back there) is in
            (it.0, has_permuted all rows it.0 same it.1, it.2);
      }

-- ---- a row does not pass

-- what has a key below that of a row stands before it
stands_before : (rows : List Row) (row : Row) (tail : List Row) → IsAscending Rises ((rows ++ row ∷ []) ++ tail)
    → (c : Row) → Has ((rows ++ row ∷ []) ++ tail) c → Rises c row → Has rows c
stands_before rows row tail up c there less = elim (has_either (rows ++ row ∷ []) tail c there) [
  | inl front ↦ elim (has_either rows (row ∷ []) c front) [
    | inl before ↦ before
    | inr (inl same) ↦ absurd (not_itself pieces_total (piece_key c) (piece_key row) less (ap piece_key same))
    | inr (inr none) ↦ absurd none
  ]
  | inr behind ↦ (
      let high : Rises row c =
      across Rises (rows ++ row ∷ []) tail up row c (has_right rows (row ∷ []) row (inl refl)) behind in
      absurd (not_itself pieces_total (piece_key c) (piece_key c)
      (pieces_total.trans (piece_key c) (piece_key row) (piece_key c) less high) refl))
]

-- between a piece and the next of its version there is none
none_between : (c b row : PieceKey) → IsBelow c b → IsBelow b row → c.0 ≡ row.0 → row.1 ≡ c.1 + 1 → ⊥
none_between c b row (inl low) (inl high) version next = omega (arith, ints, low, high, version)
none_between c b row (inl low) (inr high) version next = let same = high.0 in omega (arith, ints, low, same, version)
none_between c b row (inr low) (inl high) version next = let same = low.0 in omega (arith, ints, same, high, version)
none_between c b row (inr low) (inr high) version next = let one = low.1 in let two = high.1 in
    omega (arith, one, two, next)

-- a row behind others, of all that are listed
module _ (rows : List Row) (row : Row) (tail : List Row) (up : IsAscending Rises ((rows ++ row ∷ []) ++ tail))
    (before : (n : ℕ) → nat_in (column row 1) ≡ n + 1
    → (other : Row) × Has ((rows ++ row ∷ []) ++ tail) other
    × (piece_in other ≡ full_piece (int_in (column row 0)) n)) where
  -- the piece before it stands before it
  found_before : (n : ℕ) → nat_in (column row 1) ≡ n + 1
      → (other : Row) × Has rows other × (piece_in other ≡ full_piece (int_in (column row 0)) n)
  found_before n is =
      let it = before n is in
      let version : int_in (column it.0 0) ≡ int_in (column row 0) = ap (λ (p : LastPiece). p.version) it.2 in
      let number : nat_in (column it.0 1) ≡ n = ap (λ (p : LastPiece). p.number) it.2 in (
        it.0,
        stands_before rows row tail up it.0 it.1
            (above (piece_key it.0) (piece_key row) version (omega (arith, number, is))),
        it.2,
      )

  -- where none stands before it, it is the first of its version
  comes_first : rows ≡ [] → nat_in (column row 1) ≡ 0
  comes_first none = zero_unless _ (λ n is. let it = found_before n is in subst (λ l. Has l it.0) none it.1)

  module _ (front : List Row) (b : Row) (ends : rows ≡ front ++ b ∷ []) where
    rows_rise : IsAscending Rises (front ++ b ∷ [])
    rows_rise = subst (IsAscending Rises) ends
        (front_ascends Rises rows (row ∷ []) (front_ascends Rises (rows ++ row ∷ []) tail up))

    last_there : Has rows b
    last_there = subst (λ l. Has l b) (sym ends) (has_right front (b ∷ []) b (inl refl))

    last_below : IsBelow (piece_key b) (piece_key row)
    last_below = below (piece_key b) (piece_key row)
        (across Rises rows (row ∷ []) (front_ascends Rises (rows ++ row ∷ []) tail up) b row last_there (inl refl))

    -- the piece before it is the last one
    is_last : (n : ℕ) → nat_in (column row 1) ≡ n + 1 → piece_in b ≡ full_piece (int_in (column row 0)) n
    is_last n is =
        let it = found_before n is in
        let version : int_in (column it.0 0) ≡ int_in (column row 0) = ap (λ (p : LastPiece). p.version) it.2 in
        let number : nat_in (column it.0 1) ≡ n = ap (λ (p : LastPiece). p.number) it.2 in
        elim (has_either front (b ∷ []) it.0 (subst (λ l. Has l it.0) ends it.1)) [
          | inl earlier ↦ (
              let low : IsBelow (piece_key it.0) (piece_key b) =
              below (piece_key it.0) (piece_key b)
              (across Rises front (b ∷ []) rows_rise it.0 b earlier (inl refl)) in
              absurd (none_between (piece_key it.0) (piece_key b) (piece_key row) low last_below version
              (omega (arith, number, is))))
          | inr (inl same) ↦ ap piece_in (sym same) ∙ it.2
          | inr (inr none) ↦ absurd none
        ]

    -- a piece right behind one of its version has the next number, and that one is full
    comes_next : int_in (column b 0) ≡ int_in (column row 0)
        → ((piece_in b).is_full ≡ true) × (nat_in (column row 1) ≡ nat_in (column b 1) + 1)
    comes_next version = go (nat_in (column row 1)) refl last_below
      where
        go : (n : ℕ) → nat_in (column row 1) ≡ n → IsBelow (piece_key b) (piece_key row)
            → ((piece_in b).is_full ≡ true) × (nat_in (column row 1) ≡ nat_in (column b 1) + 1)
        go n is (inl low) = absurd (omega (arith, ints, low, version))
        go zero is (inr low) = let less = low.1 in absurd (omega (arith, is, less))
        go (suc n) is (inr low) =
            let it = is_last n (omega (arith, is)) in
            let number : nat_in (column b 1) ≡ n = ap (λ (p : LastPiece). p.number) it in
            (ap (λ (p : LastPiece). p.is_full) it, omega (arith, number, is))

    comes_anew : (int_in (column b 0) ≡ int_in (column row 0) → ⊥) → nat_in (column row 1) ≡ 0
    comes_anew apart = zero_unless _ (λ n is. apart (ap (λ (p : LastPiece). p.version) (is_last n is)))

module _ (db : Database) (start end : PieceRows) (new : start.last ≡ None) where
  -- if a row of `piece` did not pass, the rows of the table do not fit
  pub pieces_false : Walks PieceFits PieceKeeps piece_rows_text db start end false
      → ArePiecesFit (map piece_shown (db.trees 8)) → ⊥
  pieces_false w fit =
      let rows = w.0 in
      let row = w.1 in
      let first = first_shown piece_rows db (rows ++ row ∷ []) w.3 in
      let tail = first.0 in
      let long = (rows ++ row ∷ []) ++ tail in
      let here = map piece_shown (db.trees 8) in
      let same = rows_listed piece_rows db.trees long first.1 in
      let back = IsPermutation-sym _ _ same in
      let each = λ (r : Row) (there : Has long r). fit.pieces.each r (has_permuted here long r same there) in
      let apart = ascending_adjacent (Apart piece_key) long (apart_permuted piece_key here long same fit.pieces.once) in
      let up = rise pieces_total piece_key pieces_exact IsPieceRow (ascending Binary ∷ ascending Binary ∷ [])
      number_columns pieces_ordered long each
      (in_its_order piece_rows db.trees long first.1 number_columns (λ env. refl)) apart in
      let there = has_permuted here long row same (at_index rows tail row) in
      let before : (n : ℕ) → nat_in (column row 1) ≡ n + 1
      → (other : Row) × Has long other × (piece_in other ≡ full_piece (int_in (column row 0)) n) = λ n is. let it =
      fit.before row n there is in
      (it.0, has_permuted long here it.0 back it.1, it.2) in
      let may : MayGoOn w.2.last (piece_in row) =
      elim (last_row PieceFits PieceKeeps (λ (x : PieceRows). x.last) piece_in (λ x row next keeps. keeps) start
      rows w.2 w.4) [
        | inl none ↦ subst (λ l. MayGoOn l (piece_in row)) (sym (ap (λ (x : PieceRows). x.last) none.1 ∙ new))
            (comes_first rows row tail up before none.0)
        | inr some ↦ subst
            (λ l. MayGoOn l (piece_in row)) (sym some.3)
            (record {
              next = comes_next rows row tail up before some.0 some.1 some.2;
              first =
                  comes_anew rows row tail up before some.0 some.1 some.2;
            })
      ] in
      w.5 (fit.pieces.each row there, may)
