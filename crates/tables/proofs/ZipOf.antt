-- The zip that the pieces of a version make.
use Rattle.std.proofs.Common.{◌≡◌, ◌≤◌, ◌<◌, ◌+◌, ◌⊎◌, ◌==◌, ℕ, suc, pos, Bool, true, false, cond, List, [], ◌∷◌}
use Rattle.std.proofs.Common.{length}
use Rattle.std.proofs.Common.{map as mapped, filter, inl, inr, refl, sym, ap, ◌∙◌, arith, true≢false, eqb-true, eq-eqb}
use Rattle.sqlite.specs.declared.types.Value.TheVariants.{Int, Blob}
use Rattle.sqlite.specs.Order.{Row, column}
use Rattle.sqlite.specs.Tree.{Trees, rowid}
use Rattle.sqlite.specs.Collation.TheVariants.{Binary}
use Rattle.sqlite_schema.specs.Rules.{equal}
use Rattle.sqlite_rules.specs.Lists.{Has}
use Rattle.sqlite_rules.proofs.ListLemmas.{has_filtered, has_kept}
use Rattle.sqlite_rules.proofs.ProbeLemmas.{has_mapped, mapped_has}
use Rattle.world.specs.World.{zip_limit}
use Rattle.tables.specs.declared.pieces.LastPiece.{LastPiece}
use Rattle.tables.specs.Pieces.{piece_size, piece_limit, piece}
use Rattle.tables.specs.Means.{is_of, ArePieces}
use Rattle.tables.specs.Fit.{int_in, nat_in, blob_in, piece_shown, piece_key, piece_in, IsPieceRow, ArePiecesFit}
use Rattle.tables.proofs.Ascending.{ascending_from_map, one_by_key}
use Rattle.tables.proofs.PieceLemmas.{pieces_from, AreWhole, from_most, piece_joined, piece_some, some_piece}
use Rattle.tables.proofs.SoundLemmas.{one_version}

-- ---- the bytes of a number

-- the bytes of the first row that has the number, or none
bytes_at : List Row → ℕ → List ℕ
bytes_at [] n = []
bytes_at (r ∷ rows) n = cond (nat_in (column r 2) == n) (blob_in (column r 3)) (bytes_at rows n)

-- the bytes of a number are none, or those of a row that has the number
bytes_either : (rows : List Row) (n : ℕ)
    → (bytes_at rows n ≡ [])
    ⊎ ((r : Row) × Has rows r × (nat_in (column r 2) ≡ n) × (bytes_at rows n ≡ blob_in (column r 3)))
unfolding bytes_at
bytes_either [] n = inl refl
bytes_either (r ∷ rows) n = go (nat_in (column r 2) == n) refl (bytes_either rows n)
  where
    go : (b : Bool) → (nat_in (column r 2) == n) ≡ b
        → (bytes_at rows n ≡ [])
        ⊎ ((x : Row) × Has rows x × (nat_in (column x 2) ≡ n) × (bytes_at rows n ≡ blob_in (column x 3)))
        → (cond b (blob_in (column r 3)) (bytes_at rows n) ≡ [])
        ⊎ ((x : Row) × Has (r ∷ rows) x × (nat_in (column x 2) ≡ n)
        × (cond b (blob_in (column r 3)) (bytes_at rows n) ≡ blob_in (column x 3)))
    go true is rest = inr (r, inl refl, eqb-true (nat_in (column r 2)) n is, refl)
    go false is (inl none) = inl none
    go false is (inr it) = inr (it.0, inr it.1, it.2, it.3)

bytes_found : (rows : List Row) (n : ℕ) (r : Row) → Has rows r → nat_in (column r 2) ≡ n
    → ((x : Row) → Has rows x → nat_in (column x 2) ≡ n → x ≡ r) → bytes_at rows n ≡ blob_in (column r 3)
unfolding bytes_at
bytes_found [] n r there is one = absurd there
bytes_found (x ∷ rows) n r there is one =
    go (nat_in (column x 2) == n) refl there (λ later. bytes_found rows n r later is (λ y here. one y (inr here)))
  where
    go : (b : Bool) → (nat_in (column x 2) == n) ≡ b → Has (x ∷ rows) r
        → (Has rows r → bytes_at rows n ≡ blob_in (column r 3))
        → cond b (blob_in (column x 3)) (bytes_at rows n) ≡ blob_in (column r 3)
    go true e there rest = ap (λ (y : Row). blob_in (column y 3))
        (one x (inl refl) (eqb-true (nat_in (column x 2)) n e))
    go false e (inl same) rest =
        absurd (true≢false (sym (eq-eqb (nat_in (column x 2)) n (ap (λ (y : Row). nat_in (column y 2)) (sym same) ∙ is))
        ∙ e))
    go false e (inr later) rest = rest later

-- ---- all of them

pub zip_of : List Row → Row → List ℕ
zip_of pieces version = pieces_from (bytes_at (filter (is_of version) pieces)) 0 piece_limit

module _ (db : Trees) (fit : ArePiecesFit (mapped piece_shown (db 8))) (version : Row) where
  abbrev own : List Row
  own = filter (is_of version) (db 8)

  shown : (r : Row) → Has (db 8) r → IsPieceRow (piece_shown r)
  shown r there = fit.pieces.each (piece_shown r) (mapped_has piece_shown (db 8) r there)

  own_there : (r : Row) → Has own r → Has (db 8) r × (is_of version r ≡ true)
  own_there r there = has_filtered (is_of version) (db 8) r there

  number_held : (r : Row) → Has (db 8) r → column r 2 ≡ Int (pos (nat_in (column r 2)))
  number_held r there = let it = shown r there in it.numbered ∙ ap (λ v. Int (pos (nat_in v))) (sym it.numbered)

  bytes_held : (r : Row) → Has (db 8) r → column r 3 ≡ Blob (blob_in (column r 3))
  bytes_held r there = let it = shown r there in it.holds ∙ ap (λ v. Blob (blob_in v)) (sym it.holds)

  bytes_fit : (r : Row) → Has (db 8) r
      → (0 < length (blob_in (column r 3))) × (length (blob_in (column r 3)) ≤ piece_size)
  bytes_fit r there = let it = shown r there in let same = ap (λ v. length (blob_in v)) it.holds in let some =
      it.some in let most = it.most in (omega (arith, same, some), omega (arith, same, most))

  number_within : (r : Row) → Has (db 8) r → nat_in (column r 2) < piece_limit
  number_within r there = let it = shown r there in let same = ap nat_in it.numbered in let low = it.within in
      omega (arith, same, low)

  -- no two rows of the version have one number
  only_one : (a b : Row) → Has own a → Has own b → nat_in (column a 2) ≡ nat_in (column b 2) → a ≡ b
  only_one a b here there number =
      let one = own_there a here in
      let two = own_there b there in
      let of_a = shown a one.0 in
      let of_b = shown b two.0 in
      let same : column a 1 ≡ column b 1 =
      one_version version (column a 1) (column b 1) of_a.version of_b.version of_a.of_version of_b.of_version one.1
      two.1 in
      one_by_key (λ r. piece_key (piece_shown r)) (db 8) (ascending_from_map _ piece_shown (db 8) fit.pieces.once) a b
      one.0 two.0 (λ i. (int_in (same i), number i))

  row_bytes : (r : Row) → Has own r → bytes_at own (nat_in (column r 2)) ≡ blob_in (column r 3)
  row_bytes r there = bytes_found own (nat_in (column r 2)) r there refl (λ x here is. only_one x r here there is)

  -- before each but the first there is a full one
  own_before : (r : Row) (n : ℕ) → Has own r → nat_in (column r 2) ≡ n + 1
      → (b : Row) × Has own b × (nat_in (column b 2) ≡ n) × (length (blob_in (column b 3)) ≡ piece_size)
  own_before r n there is =
      let one = own_there r there in
      let it = fit.before (piece_shown r) n (mapped_has piece_shown (db 8) r one.0) is in
      let from = has_mapped piece_shown (db 8) it.0 it.1 in
      let b = from.0 in
      let same : piece_in (piece_shown b) ≡ piece_in it.0 = ap piece_in (sym from.2) in
      let version_is : int_in (column b 1) ≡ int_in (column r 1) = ap (λ (p : LastPiece). p.version) (same ∙ it.2) in
      let number_is : nat_in (column b 2) ≡ n = ap (λ (p : LastPiece). p.number) (same ∙ it.2) in
      let full : (length (blob_in (column b 3)) == piece_size) ≡ true =
      ap (λ (p : LastPiece). p.is_full) (same ∙ it.2) in
      let of_b = shown b from.1 in
      let of_r = shown r one.0 in
      let held_b : column b 1 ≡ Int (int_in (column b 1)) = of_b.of_version
      ∙ ap (λ v. Int (int_in v)) (sym of_b.of_version) in
      let held_r : column r 1 ≡ Int (int_in (column r 1)) = of_r.of_version
      ∙ ap (λ v. Int (int_in v)) (sym of_r.of_version) in
      let column_is : column b 1 ≡ column r 1 = held_b ∙ (ap Int version_is ∙ sym held_r) in
      let tied : is_of version b ≡ true = ap (λ v. equal Binary v (rowid version)) column_is ∙ one.1 in (
        b,
        has_kept (is_of version) (db 8) b from.1 tied,
        number_is,
        eqb-true (length (blob_in (column b 3))) piece_size full,
      )

  -- if the rows fit, the bytes of each number are at most a piece, and a full one where the next number has some
  whole : AreWhole (bytes_at own)
  whole = record {
    most = λ n. elim (bytes_either own n) [
      | inl none ↦ (let none_length = ap length none in omega (arith, none_length))
      | inr it ↦ (let same = ap length it.3 in let fits = (bytes_fit it.0 (own_there it.0 it.1).0).1 in
          omega (arith, same, fits))
    ];
    full = λ n some. elim (bytes_either own (suc n)) [
      | inl none ↦ (let none_length = ap length none in absurd (omega (arith, some, none_length)))
      | inr it ↦ (
          let is = it.2 in
          let b = own_before it.0 n it.1 (omega (arith, is)) in
          let bytes : bytes_at own n ≡ blob_in (column b.0 3) = ap (bytes_at own) (sym b.2) ∙ row_bytes b.0 b.1 in
          ap length bytes ∙ b.3)
    ];
  }

  none_behind : (n : ℕ) → piece_limit ≤ n → length (bytes_at own n) ≡ 0
  none_behind n high = elim (bytes_either own n) [
    | inl none ↦ ap length none
    | inr it ↦ (let low = number_within it.0 (own_there it.0 it.1).0 in let is = it.2 in
        absurd (omega (arith, low, is, high)))
  ]

  zip_piece : (n : ℕ) → piece (zip_of (db 8) version) n ≡ bytes_at own n
  unfolding zip_of
  zip_piece n = piece_joined (bytes_at own) whole piece_limit none_behind n

  -- if the rows fit, those of a version are the pieces of the zip that is made of them
  pub zip_pieces : ArePieces own (zip_of (db 8) version)
  zip_pieces = record {
    each = λ r there.
        let one = own_there r there in
        let n = nat_in (column r 2) in
        let bytes : piece (zip_of (db 8) version) n ≡ blob_in (column r 3) = zip_piece n ∙ row_bytes r there in
        let long = ap length bytes in
        let some = (bytes_fit r one.0).0 in (
          n,
          record { number = number_held r one.0; bytes = bytes_held r one.0 ∙ ap Blob (sym bytes) },
          some_piece (zip_of (db 8) version) n (omega (arith, long, some)),
        );
    found = λ n has.
        let some = piece_some (zip_of (db 8) version) n has in
        let long = ap length (zip_piece n) in
        elim (bytes_either own n) [
          | inl none ↦ (let none_length = ap length none in absurd (omega (arith, some, long, none_length)))
          | inr it ↦ (
              let one = own_there it.0 it.1 in
              let bytes : piece (zip_of (db 8) version) n ≡ blob_in (column it.0 3) = zip_piece n ∙ it.3 in (
                it.0,
                it.1,
                record {
                  number = number_held it.0 one.0
                      ∙ ap (λ k. Int (pos k)) it.2;
                  bytes = bytes_held it.0 one.0 ∙ ap Blob (sym bytes);
                },
              ))
        ];
  }

  pub zip_small : length (zip_of (db 8) version) ≤ zip_limit
  unfolding zip_of
  zip_small = from_most (bytes_at own) whole 0 piece_limit
