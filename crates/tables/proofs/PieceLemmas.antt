-- A zip and its pieces.
use Rattle.std.proofs.Common.{◌≡◌, ◌≤◌, ◌<◌, ◌+◌, ◌-◌, ◌++◌, ◌⊎◌, ℕ, zero, suc, List, [], length, take, drop, min, inl}
use Rattle.std.proofs.Common.{inr, refl, sym, ap, ◌∙◌, arith, length-append, append-nil}
use Rattle.std.proofs.lemmas.List.{length-take, length-drop, drop-drop, take-append-drop, take_all, take_at, drop_all}
use Rattle.std.proofs.lemmas.List.{drop_at, nil_from_length}
use Rattle.tables.specs.Pieces.{piece_size, begin, piece, HasPiece}

-- what follows no number is 0
pub zero_unless : (n : ℕ) → ((m : ℕ) → n ≡ m + 1 → ⊥) → n ≡ 0
zero_unless zero none = refl
zero_unless (suc n) none = absurd (none n (omega arith))

-- ---- one piece

piece_length : (zip : List ℕ) (n : ℕ) → length (piece zip n) ≡ min piece_size (length zip - begin n)
piece_length zip n = length-take piece_size (drop (begin n) zip) ∙ ap (min piece_size) (length-drop (begin n) zip)

pub piece_some : (zip : List ℕ) (n : ℕ) → HasPiece zip n → 0 < length (piece zip n)
piece_some zip n has = let long = piece_length zip n in omega (arith, long, has)

pub piece_most : (zip : List ℕ) (n : ℕ) → length (piece zip n) ≤ piece_size
piece_most zip n = let long = piece_length zip n in omega (arith, long)

pub some_piece : (zip : List ℕ) (n : ℕ) → 0 < length (piece zip n) → HasPiece zip n
some_piece zip n some = let long = piece_length zip n in omega (arith, long, some)

-- each piece before the last is full
pub piece_full : (zip : List ℕ) (n : ℕ) → HasPiece zip (n + 1) → length (piece zip n) ≡ piece_size
piece_full zip n has = let long = piece_length zip n in omega (arith, long, has)

pub piece_before : (zip : List ℕ) (n : ℕ) → HasPiece zip (n + 1) → HasPiece zip n
piece_before zip n has = omega (arith, has)

pub no_piece : (zip : List ℕ) (n : ℕ) → length zip ≤ begin n → piece zip n ≡ []
no_piece zip n short = let long = piece_length zip n in nil_from_length (piece zip n) (omega (arith, long, short))

-- ---- k pieces from a number on, joined

pub pieces_from : (ℕ → List ℕ) → ℕ → ℕ → List ℕ
pieces_from f at zero = []
pieces_from f at (suc k) = f at ++ pieces_from f (suc at) k

from_same : (f g : ℕ → List ℕ) → ((n : ℕ) → f n ≡ g n) → (at k : ℕ) → pieces_from f at k ≡ pieces_from g at k
from_same f g same at k = ap (λ (h : ℕ → List ℕ). pieces_from h at k) (λ i n. same n i)

next_begin : (n : ℕ) (l : List ℕ) → drop piece_size (drop (begin n) l) ≡ drop (begin (suc n)) l
next_begin n l = drop-drop piece_size (begin n) l
    ∙ ap (λ k. drop k l) {x = begin n + piece_size} {y = begin (suc n)} (omega arith)

-- the pieces of a zip, joined, are the zip
rejoined : (zip : List ℕ) (k at : ℕ) → length zip ≤ begin (at + k) → pieces_from (piece zip) at k ≡ drop (begin at) zip
unfolding pieces_from
rejoined zip zero at long = sym (drop_all (begin at) zip (omega (arith, long)))
rejoined zip (suc k) at long =
    let rest = rejoined zip k (suc at) (omega (arith, long)) in
    ap (λ l. piece zip at ++ l) (rest ∙ sym (next_begin at zip)) ∙ take-append-drop piece_size (drop (begin at) zip)

-- zips of the same pieces are the same
pub same_zip : (a b : List ℕ) → ((n : ℕ) → piece a n ≡ piece b n) → a ≡ b
same_zip a b same =
    let k = length a + length b in
    sym (rejoined a k 0 (omega arith)) ∙ (from_same (piece a) (piece b) same 0 k ∙ rejoined b k 0 (omega arith))

-- ---- what are the pieces of what they make, joined

-- none has too many bytes, and each but the last is full
pub record AreWhole (f : ℕ → List ℕ) : Type 0 where
  pub most : (n : ℕ) → length (f n) ≤ piece_size
  pub full : (n : ℕ) → 0 < length (f (suc n)) → length (f n) ≡ piece_size

pub from_most : (f : ℕ → List ℕ) → AreWhole f → (at k : ℕ) → length (pieces_from f at k) ≤ begin k
unfolding pieces_from
from_most f whole at zero = omega arith
from_most f whole at (suc k) =
    let both = length-append (f at) (pieces_from f (suc at) k) in
    let here = whole.most at in
    let rest = from_most f whole (suc at) k in
    omega (arith, both, here, rest)

module _ (f : ℕ → List ℕ) (whole : AreWhole f) where
  none_next : (at : ℕ) → length (f at) ≡ 0 → length (f (suc at)) ≡ 0
  none_next at none = zero_unless _ (λ n is. let full = whole.full at (omega (arith, is)) in omega (arith, full, none))

  -- behind an empty one there are none
  none_from : (at k : ℕ) → length (f at) ≡ 0 → length (pieces_from f at k) ≡ 0
  unfolding pieces_from
  none_from at zero none = refl
  none_from at (suc k) none =
      let rest = none_from (suc at) k (none_next at none) in
      let both = length-append (f at) (pieces_from f (suc at) k) in
      omega (arith, both, none, rest)

  -- a piece is full, or there is none behind it
  full_or_last : (at k : ℕ) → (length (f at) ≡ piece_size) ⊎ (pieces_from f (suc at) k ≡ [])
  full_or_last at k = go (length (f (suc at))) refl
    where
      go : (n : ℕ) → length (f (suc at)) ≡ n → (length (f at) ≡ piece_size) ⊎ (pieces_from f (suc at) k ≡ [])
      go zero none = inr (nil_from_length _ (none_from (suc at) k none))
      go (suc n) some = inl (whole.full at (omega (arith, some)))

  first_taken : (at k : ℕ) → take piece_size (pieces_from f at (suc k)) ≡ f at
  unfolding pieces_from
  first_taken at k = elim (full_or_last at k) [
    | inl full ↦ take_at (f at) (pieces_from f (suc at) k) piece_size full
    | inr last ↦ ap (λ l. take piece_size (f at ++ l)) last
        ∙ (ap (take piece_size) (append-nil (f at)) ∙ take_all piece_size (f at) (whole.most at))
  ]

  first_dropped : (at k : ℕ) → drop piece_size (pieces_from f at (suc k)) ≡ pieces_from f (suc at) k
  unfolding pieces_from
  first_dropped at k = elim (full_or_last at k) [
    | inl full ↦ drop_at (f at) (pieces_from f (suc at) k) piece_size full
    | inr last ↦ ap (λ l. drop piece_size (f at ++ l)) last
        ∙ (ap (drop piece_size) (append-nil (f at)) ∙ (drop_all piece_size (f at) (whole.most at) ∙ sym last))
  ]

  front_dropped : (n k at : ℕ) → drop (begin n) (pieces_from f at (n + k)) ≡ pieces_from f (at + n) k
  front_dropped zero k at = λ i. pieces_from f (at_is i) (k_is i)
    where
      at_is : at ≡ at + 0
      at_is = omega arith

      k_is : 0 + k ≡ k
      k_is = omega arith
  front_dropped (suc n) k at =
      let more : suc n + k ≡ suc (n + k) = omega arith in
      let there : suc at + n ≡ at + suc n = omega arith in
      let first : begin (suc n) ≡ piece_size + begin n = omega arith in
      let l = pieces_from f at (suc n + k) in
      ap (λ b. drop b l) first
      ∙ (sym (drop-drop (begin n) piece_size l)
      ∙ (ap (λ m. drop (begin n) (drop piece_size (pieces_from f at m))) more
      ∙ (ap (drop (begin n)) (first_dropped at (n + k))
      ∙ (front_dropped n k (suc at) ∙ ap (λ m. pieces_from f m k) there))))

  -- of k pieces, joined, each one is the piece of its number
  piece_within : (n k : ℕ) → n < k → piece (pieces_from f 0 k) n ≡ f n
  piece_within n k within =
      let rest = k - suc n in
      let all : k ≡ n + suc rest = omega (arith, within) in
      let there : 0 + n ≡ n = omega arith in
      ap (λ m. piece (pieces_from f 0 m) n) all
      ∙ (ap (take piece_size) (front_dropped n (suc rest) 0 ∙ ap (λ m. pieces_from f m (suc rest)) there)
      ∙ first_taken n rest)

  -- if no bytes come behind the k pieces, each number has its piece
  pub piece_joined : (k : ℕ) → ((n : ℕ) → k ≤ n → length (f n) ≡ 0) → (n : ℕ) → piece (pieces_from f 0 k) n ≡ f n
  piece_joined k none n = go (k - n) refl
    where
      go : (d : ℕ) → k - n ≡ d → piece (pieces_from f 0 k) n ≡ f n
      go zero past =
          let most = from_most f whole 0 k in
          let high : k ≤ n = omega (arith, past) in
          no_piece (pieces_from f 0 k) n (omega (arith, most, high)) ∙ sym (nil_from_length (f n) (none n high))
      go (suc d) before = piece_within n k (omega (arith, before))
