-- The rows of `piece`, put into a store that has none.
use Rattle.std.proofs.Common.{◌≡◌, ◌++◌, ◌∙◌, true, false, List, [], ◌∷◌, map, Some}
use Rattle.std.proofs.Common.{refl, sym, ap, subst, true≢false, append-nil, IsPermutation, Less, Equal, Greater}
use Rattle.std.specs.Ordering.{is_eq, match_ordering}
use Rattle.std.specs.declared.cmp.Ordering.{Ordering}
use Rattle.std.proofs.lemmas.Bool.{and_parts, or_parts, not-true}
use Rattle.std.proofs.lemmas.List.Sorted.{IsPermutation-refl, IsPermutation-sym, IsPermutation-cons}
use Rattle.std.proofs.lemmas.List.Sorted.{IsPermutation-trans, IsPermutation-map, IsPermutation-middle}
use Rattle.std.proofs.lemmas.List.Sorted.{IsPermutation-append_right}
use Rattle.sqlite.specs.Order.{Row, column}
use Rattle.sqlite.specs.Edit.{put_all, are_fresh}
use Rattle.sqlite.specs.Tree.{Trees, rowid}
use Rattle.sqlite_trees.specs.Tree.{put_row}
use Rattle.sqlite_value.specs.Order.{value_cmp}
use Rattle.sqlite_rules.specs.Edit.{is_taken}
use Rattle.tables.specs.Fit.{ArePiecesFit, IsPieceRow, piece_key, piece_in, piece_shown}
use Rattle.tables.specs.Walks.{Pass, MayGoOn}
use Rattle.tables.specs.Schema.{piece_table}
use Rattle.tables.proofs.Ascending.{has_permuted, ascends_permuted}
use Rattle.tables.proofs.PieceTests.{PieceFits, PieceKeeps}
use Rattle.statements.specs.Rows.{PutsPiece, piece_of, IsElseSame}
use Rattle.statements.proofs.RowLemmas.{else_itself, else_then}
use Rattle.older_rows.specs.declared.pieces.ZipRows.{ZipRows}
use Rattle.older_rows.specs.Visits.{Visits}

abbrev pub Puts : ZipRows → Row → Trees → ZipRows → Trees → Type 0
Puts so_far row db next after = IsPieceRow row
    × (MayGoOn so_far.last (piece_in row) × ((next.last ≡ Some (piece_in row)) × PutsPiece row db after))

-- ---- a row that is put in is put in at some place

abbrev Put : Ordering → Row → Row → List Row → List Row
Put o new r rows = match_ordering o (r ∷ put_row new rows) (new ∷ rows) (new ∷ r ∷ rows)

flipped : (a b : Row) (rows : List Row) → IsPermutation (a ∷ b ∷ rows) (b ∷ a ∷ rows)
flipped a b rows = IsPermutation-middle (a ∷ []) b rows

put_permuted : (new : Row) (rows : List Row) → is_taken rows new ≡ false → IsPermutation (new ∷ rows) (put_row new rows)
put_permuted new [] free = IsPermutation-refl (new ∷ [])
put_permuted new (r ∷ rows) free =
    go (value_cmp (rowid r) (rowid new)) (or_parts _ _ free).0 (put_permuted new rows (or_parts _ _ free).1)
  where
    go : (o : Ordering) → is_eq o ≡ false → IsPermutation (new ∷ rows) (put_row new rows)
        → IsPermutation (new ∷ r ∷ rows) (Put o new r rows)
    go Less other later = IsPermutation-trans _ _ _ (flipped new r rows) (IsPermutation-cons r _ _ later)
    go Equal other later = absurd (true≢false other)
    go Greater other later = IsPermutation-refl (new ∷ r ∷ rows)

one_permuted : (new : Row) (rows : List Row) → are_fresh rows (new ∷ []) ≡ true
    → IsPermutation (new ∷ rows) (put_all rows (new ∷ []))
one_permuted new rows fresh = put_permuted new rows (not-true _ (and_parts _ _ fresh).0)

-- ---- the rows that were put in

abbrev cut : Row → Row
cut row = column row 0 ∷ column row 1 ∷ column row 2 ∷ []

-- what is read from the fresh rows is what was read before and the rows that were put in, in some order
put_pieces : (so_far end : ZipRows) (db after : Trees) (rows : List Row) → Visits Puts so_far db rows end after
    → IsPermutation (map cut rows ++ map piece_shown (db 8)) (map piece_shown (after 8))
put_pieces so_far end db after [] same =
    subst (λ t. IsPermutation (map piece_shown (db 8)) (map piece_shown (t 8))) (sym same.1) (IsPermutation-refl _)
put_pieces so_far end db after (row ∷ rows) visited =
    let put = visited.2.1.1.1 in
    let one : IsPermutation (cut row ∷ map piece_shown (db 8)) (map piece_shown (visited.1 8)) = subst
    (λ l. IsPermutation (cut row ∷ map piece_shown (db 8)) (map piece_shown l)) (sym put.put.rows)
    (IsPermutation-map piece_shown _ _ (one_permuted (piece_of put.id row) (db 8) put.put.fresh)) in
    let rest = put_pieces visited.0 end visited.1 after rows visited.3 in
    IsPermutation-trans _ _ _
    (IsPermutation-sym _ _ (IsPermutation-middle (map cut rows) (cut row) (map piece_shown (db 8))))
    (IsPermutation-trans _ _ _ (IsPermutation-append_right (map cut rows) _ _ one) rest)

-- no other table is changed
pub else_same : (so_far end : ZipRows) (db after : Trees) (rows : List Row) → Visits Puts so_far db rows end after
    → IsElseSame piece_table db after
else_same so_far end db after [] same = subst (IsElseSame piece_table db) (sym same.1) (else_itself piece_table db)
else_same so_far end db after (row ∷ rows) visited =
    else_then piece_table db visited.1 after visited.2.1.1.1.put.tables
    (else_same visited.0 end visited.1 after rows visited.3)

abbrev pub FirstOf : {A : Type 0} → (A → Row → Type 0) → Type 0
FirstOf {A} P = A

-- what the visitor keeps, as today's test keeps it
abbrev pub tested : ZipRows → FirstOf PieceFits
tested so_far = record { last = so_far.last }

-- each passes today's test after those before it
pub passed : (so_far end : ZipRows) (db after : Trees) (rows : List Row) → Visits Puts so_far db rows end after
    → Pass PieceFits PieceKeeps (tested so_far) rows (tested end)
passed so_far end db after [] same = ap tested same.0
passed so_far end db after (row ∷ rows) visited = let it = visited.2 in
    ((it.0, it.1.0), tested visited.0, it.1.1.0, passed visited.0 end visited.1 after rows visited.3)

-- ---- fit pieces in another order

abbrev Apart : Row → Row → Type 0
Apart a b = piece_key a ≡ piece_key b → ⊥

-- pieces that are fit are fit in another order
pub pieces_permuted : (xs ys : List Row) → IsPermutation xs ys → ArePiecesFit xs → ArePiecesFit ys
pieces_permuted xs ys same fit = record {
  pieces = record {
    each = λ row there. fit.pieces.each row (has_permuted xs ys row same there);
    once = ascends_permuted Apart (λ a b apart equal. apart (sym equal)) xs ys same fit.pieces.once;
  };
  before = λ row n there number.
      let it = fit.before row n (has_permuted xs ys row same there) number in
      (it.0, has_permuted ys xs it.0 (IsPermutation-sym _ _ same) it.1, it.2);
}

cut_shown : (rows : List Row) → map cut (map piece_shown rows) ≡ map piece_shown rows
cut_shown [] = refl
cut_shown (r ∷ rows) = ap (λ l. piece_shown r ∷ l) (cut_shown rows)

-- if there were no pieces, what is read from the fresh rows is what is read from the old ones, in some order
pub same_pieces_read : (old db after : Trees) (so_far end : ZipRows) (rows : List Row)
    → IsPermutation (map piece_shown (old 8)) rows
    → db 8 ≡ [] → Visits Puts so_far db rows end after
    → IsPermutation (map piece_shown (old 8)) (map piece_shown (after 8))
same_pieces_read old db after so_far end rows listed none visited =
    let put = subst (λ l. IsPermutation l (map piece_shown (after 8)))
    (ap (λ l. map cut rows ++ map piece_shown l) none ∙ append-nil (map cut rows))
    (put_pieces so_far end db after rows visited) in
    IsPermutation-trans _ _ _
    (subst (λ l. IsPermutation l (map cut rows)) (cut_shown (old 8)) (IsPermutation-map cut _ _ listed)) put
