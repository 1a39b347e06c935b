-- The rows of a zip, put in one after another.
use Rattle.std.proofs.Common.{◌≡◌, ◌≢◌, ◌<◌, ◌+◌, ◌⊎◌, ◌==◌, ℕ, ℤ, true, false, true≢false, pos, List, [], ◌∷◌, length}
use Rattle.std.proofs.Common.{take, drop, min, inl, inr, refl, sym, ap, subst, ◌∙◌, arith}
use lib.Dec.{eqb-suc-zero}
use Rattle.std.proofs.lemmas.Bool.{cases_order}
use Rattle.std.proofs.lemmas.List.{length-drop, drop-drop, drop_all, take_min}
use Rattle.sqlite.specs.declared.types.Value.{Value}
use Rattle.sqlite.specs.declared.types.Value.TheVariants.{Int}
use Rattle.sqlite.specs.Order.{Row, column}
use Rattle.sqlite.specs.Tree.{Trees}
use Rattle.sqlite.specs.Edit.{put_all}
use Rattle.sqlite_rules.specs.Lists.{Has}
use Rattle.sqlite_rules.proofs.ListLemmas.{all_from}
use Rattle.tables.specs.Schema.{piece_table}
use Rattle.tables.specs.Pieces.{piece_size, begin, HasPiece, piece}
use Rattle.tables.specs.Means.{IsEachPieceOnce}
use Rattle.statements.specs.Rows.{AddsRows, IsElseSame, PutsPiece, piece_of, piece_read}
use Rattle.statements.specs.Added.{AddsZip, AddsUpTo, piece_values}
use Rattle.statements.proofs.RowLemmas.{adds_one, adds_none, adds_then, adds_as, else_itself, else_then, read_columns}
use Rattle.statements.proofs.TabulateLemmas.{put_apart}

-- ---- the pieces of the bytes that remain

pub is_none : (l : List ℕ) → (length l == 0) ≡ true → length l ≡ 0
is_none [] h = refl
is_none (x ∷ l) h = absurd (true≢false (sym h ∙ eqb-suc-zero (length l)))

pub is_some : (l : List ℕ) → (length l == 0) ≡ false → length l ≡ 0 → ⊥
is_some [] h none = true≢false h
is_some (x ∷ l) h none = omega (arith, none)

pub some_left : (zip rest : List ℕ) (n : ℕ) → rest ≡ drop (begin n) zip → (length rest ≡ 0 → ⊥) → HasPiece zip n
some_left zip rest n is some = let long = ap length is ∙ length-drop (begin n) zip in omega (arith, long, some)

pub none_left : (zip rest : List ℕ) (n : ℕ) → rest ≡ drop (begin n) zip → length rest ≡ 0 → (k : ℕ) → HasPiece zip k
    → k < n
none_left zip rest n is none k has = let long = ap length is
    ∙ length-drop (begin n) zip in omega (arith, long, none, has)

pub piece_cut : (zip rest : List ℕ) (n : ℕ) → rest ≡ drop (begin n) zip
    → take (min (length rest) piece_size) rest ≡ piece zip n
piece_cut zip rest n is =
    ap (λ k. take k rest) {x = min (length rest) piece_size} {y = min piece_size (length rest)} (omega arith)
    ∙ (take_min piece_size rest ∙ ap (take piece_size) is)

-- the bytes that remain, without their next piece, are the bytes of the zip from the piece after it
pub rest_cut : (zip rest : List ℕ) (n : ℕ) → rest ≡ drop (begin n) zip
    → drop (min (length rest) piece_size) rest ≡ drop (begin (n + 1)) zip
rest_cut zip rest n is =
    cut (min (length rest) piece_size) rest refl
    ∙ (ap (drop piece_size) is
    ∙ (drop-drop piece_size (begin n) zip
    ∙ ap (λ k. drop k zip) {x = begin n + piece_size} {y = begin (n + 1)} (omega arith)))
  where
    cut : (k : ℕ) (l : List ℕ) → k ≡ min (length l) piece_size → drop k l ≡ drop piece_size l
    cut k l least = elim (cases_order (length l) piece_size) [
      | inl same ↦ ap (λ m. drop m l) {x = k} {y = piece_size} (omega (arith, least, same))
      | inr (inl less) ↦ drop_all k l (omega (arith, least, less)) ∙ sym (drop_all piece_size l (omega (arith, less)))
      | inr (inr above) ↦ ap (λ m. drop m l) {x = k} {y = piece_size} (omega (arith, least, above))
    ]

-- ---- up to a number

pub adds_nothing : (id : ℤ) (zip : List ℕ) (db : Trees) → AddsUpTo id zip 0 db db
adds_nothing id zip db = record {
  pieces = adds_as piece_read _ _ (db 8) (db 8) (λ values none. absurd none)
      (λ values it. let below = it.1 in absurd (omega (arith, below))) (adds_none piece_read (db 8));
  once = λ apart once. once;
  tables = else_itself piece_table db;
}

int_same : {m n : ℤ} → ◌≡◌ {A = Value} (Int m) (Int n) → m ≡ n
int_same e = cc

pos_same : {m n : ℕ} → ◌≡◌ {A = ℤ} (pos m) (pos n) → m ≡ n
pos_same e = cc

module _ (id : ℤ) (zip : List ℕ) (k : ℕ) (db mid after : Trees) (so_far : AddsUpTo id zip k db mid)
    (has : HasPiece zip k) (put : PutsPiece (piece_values id zip k) mid after) where
  abbrev new : Row
  new = piece_of put.id (piece_values id zip k)

  -- no row so far has the number of the next piece
  apart_so_far : ((row : Row) → Has (db 8) row → column row 1 ≢ Int id) → (row : Row) → Has (mid 8) row
      → column new 1 ≡ column row 1 → column new 2 ≡ column row 2 → ⊥
  apart_so_far apart row there one two = elim ((so_far.pieces (piece_read row)).0 (row, there, refl)) [
    | inl was ↦ apart was.0 was.1 (sym (read_columns row was.0 was.2).0 ∙ sym one)
    | inr it ↦ (let same : it.0 ≡ k = pos_same (int_same (sym (ap (λ (r : Row). column r 1) it.3) ∙ sym two)) in
        let below = it.1 in omega (arith, same, below))
  ]

  -- once the row of piece `k` is put in, there is a row for each piece of the zip that is numbered below `k + 1`
  pub adds_piece : AddsUpTo id zip (k + 1) db after
  adds_piece = record {
    pieces = subst (AddsRows piece_read
        (λ values. (n : ℕ) × (n < k + 1) × HasPiece zip n × (values ≡ piece_values id zip n)) (db 8)) (sym put.put.rows)
        (adds_as piece_read _ _ (db 8) (put_all (mid 8) (new ∷ []))
        (λ values it. elim it [
          | inl below ↦ (below.0, (let b = below.1 in omega (arith, b)), below.2, below.3)
          | inr is ↦ (k, omega arith, has, is)
        ])
        (λ values it. next_or_below values it)
        (adds_then piece_read _ _ (db 8) (mid 8) (put_all (mid 8) (new ∷ [])) so_far.pieces
        (adds_one piece_read (mid 8) new put.put.fresh)));
    once = λ apart once. subst IsEachPieceOnce (sym put.put.rows)
        (put_apart (λ a b. column a 1 ≡ column b 1 → column a 2 ≡ column b 2 → ⊥)
        (λ a b other one two. other (sym one) (sym two)) new (mid 8)
        (all_from _ (mid 8) (apart_so_far apart)) (so_far.once apart once));
    tables = else_then piece_table db mid after so_far.tables put.put.tables;
  }
    where
      -- the piece of a number below `k + 1` is one below `k`, or the new row
      next_or_below : (values : Row) → ((n : ℕ) × (n < k + 1) × HasPiece zip n × (values ≡ piece_values id zip n))
          → ((n : ℕ) × (n < k) × HasPiece zip n × (values ≡ piece_values id zip n)) ⊎ (values ≡ piece_read new)
      next_or_below values it = elim (last_or_below it.0 it.1) [
        | inl below ↦ inl (it.0, below, it.2, it.3)
        | inr same ↦ inr (it.3 ∙ ap (piece_values id zip) same)
      ]
        where
          last_or_below : (n : ℕ) → n < k + 1 → (n < k) ⊎ (n ≡ k)
          last_or_below n below = elim (cases_order n k) [
            | inl same ↦ inr same
            | inr (inl less) ↦ inl less
            | inr (inr above) ↦ absurd (omega (arith, below, above))
          ]

-- if each piece of the zip is numbered below this, the zip is put in
pub zip_added : (id : ℤ) (zip : List ℕ) (k : ℕ) (db after : Trees) → ((n : ℕ) → HasPiece zip n → n < k)
    → AddsUpTo id zip k db after → AddsZip id zip db after
zip_added id zip k db after all it = record {
  pieces = adds_as piece_read _ _ (db 8) (after 8) (λ values of. (of.0, of.2, of.3))
      (λ values of. (of.0, all of.0 of.1, of.1, of.2)) it.pieces;
  once = it.once;
  tables = it.tables;
}
