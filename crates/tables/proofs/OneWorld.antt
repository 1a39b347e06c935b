-- Tables stand for at most one world.
use Rattle.std.proofs.Common.{◌≡◌, ℕ, Bool, true, false, pos, cond, List, length, filter, Option, Some, None, refl, sym}
use Rattle.std.proofs.Common.{ap, subst, ◌∙◌, nat_lt, ltb-true, ltb-false}
use Rattle.std.specs.declared.cmp.Ordering.{Ordering}
use Rattle.std.specs.FinMap as map
use Rattle.sqlite.specs.declared.types.Value.{Value}
use Rattle.sqlite.specs.declared.types.Value.TheVariants.{Int, Text, Blob}
use Rattle.sqlite.specs.Order.{Row, column}
use Rattle.world.specs.declared.entry.Place.{Place}
use Rattle.world.specs.declared.entry.Entry.{Entry}
use Rattle.world.specs.declared.entry.Holder.{Holder}
use Rattle.world.specs.declared.entry.Right.{Right}
use Rattle.world.specs.declared.entry.Right.TheVariants.{Reads, Publishes}
use Rattle.world.proofs.Orders.{texts_total, texts_exact, places_total, places_exact}
use Rattle.tables.specs.Pieces.{begin, piece, HasPiece}
use Rattle.tables.specs.Means.{may_publish, Tabulates, IsAccess, IsVersion, IsShelf, ArePieces, is_of}
use Rattle.tables.specs.Laws.{StandForOne}
use Rattle.tables.proofs.PieceLemmas.{no_piece, same_zip}
use Rattle.tables.proofs.RowFits.{time_read}
use Rattle.tables.proofs.CountedRows.{same_place}

-- where a row is of one thing alone, the things of a table are the same however they are named
pub carried : {X : Type 0} (IsRow : Row → X → Type 0) (rows : List Row) (P Q : X → Type 0)
    → ((row : Row) (x y : X) → IsRow row x → IsRow row y → y ≡ x) → Tabulates IsRow rows P → Tabulates IsRow rows Q
    → (x : X) → P x → Q x
carried IsRow rows P Q one p q x holds =
    let from = p.found x holds in
    let to = q.each from.0 from.1 in
    subst Q (one from.0 x to.0 from.2 to.1) to.2

pub same_got : {K X : Type 0} {R : K → K → Ordering} (m n : map.FinMap R X) (k : K)
    → ((x : X) → map.get m k ≡ Some x → map.get n k ≡ Some x)
    → ((x : X) → map.get n k ≡ Some x → map.get m k ≡ Some x) → map.get m k ≡ map.get n k
same_got {K} {X} {R} m n k there back = go (map.get m k) (map.get n k) refl refl
  where
    go : (a b : Option X) → map.get m k ≡ a → map.get n k ≡ b → map.get m k ≡ map.get n k
    go (Some x) b one two = one ∙ sym (there x one)
    go None (Some x) one two = back x two ∙ sym two
    go None None one two = one ∙ sym two

pub texts_same : (v : Value) (s t : List ℕ) → v ≡ Text s → v ≡ Text t → t ≡ s
texts_same v s t one two = let e = sym two ∙ one in cc

pub ints_same : (v : Value) (m n : ℕ) → v ≡ Int (pos m) → v ≡ Int (pos n) → n ≡ m
ints_same v m n one two = let e = sym two ∙ one in cc

pub blobs_same : (v : Value) (s t : List ℕ) → v ≡ Blob s → v ≡ Blob t → t ≡ s
blobs_same v s t one two = let e = sym two ∙ one in cc

pub rights_same : (v : Value) (r s : Right) → v ≡ Int (cond (may_publish r) (pos 1) (pos 0))
    → v ≡ Int (cond (may_publish s) (pos 1) (pos 0)) → s ≡ r
rights_same v Reads Reads one two = refl
rights_same v Publishes Publishes one two = refl
rights_same v Reads Publishes one two = let e = sym two ∙ one in absurd (cc)
rights_same v Publishes Reads one two = let e = sym two ∙ one in absurd (cc)

pub one_access : (row : Row) (x y : List ℕ × Holder) → IsAccess row x → IsAccess row y → y ≡ x
one_access row x y one two =
    let key = texts_same (column row 1) x.0 y.0 one.0 two.0 in
    let shelf = texts_same (column row 2) x.1.shelf y.1.shelf one.1 two.1 in
    let right = rights_same (column row 3) x.1.right y.1.right one.2 two.2 in
    λ i. (key i, record { shelf = shelf i; right = right i })

-- rows that are the pieces of two zips tell the same pieces
same_piece : (rows : List Row) (a b : List ℕ) → ArePieces rows a → ArePieces rows b → (n : ℕ) → HasPiece a n
    → HasPiece b n × (piece a n ≡ piece b n)
same_piece rows a b one two n has =
    let from = one.found n has in
    let to = two.each from.0 from.1 in
    let number : to.0 ≡ n = ints_same (column from.0 2) n to.0 from.2.number to.1.number in
    let bytes : piece b to.0 ≡ piece a n =
    blobs_same (column from.0 3) (piece a n) (piece b to.0) from.2.bytes to.1.bytes in
    (subst (HasPiece b) number to.2, sym bytes ∙ ap (piece b) number)

pub one_zip : (rows : List Row) (a b : List ℕ) → ArePieces rows a → ArePieces rows b → a ≡ b
one_zip rows a b one two =
    same_zip a b (λ n. go n (nat_lt (begin n) (length a)) (nat_lt (begin n) (length b)) refl refl)
  where
    go : (n : ℕ) (p q : Bool) → nat_lt (begin n) (length a) ≡ p → nat_lt (begin n) (length b) ≡ q
        → piece a n ≡ piece b n
    go n true q in_a in_b = (same_piece rows a b one two n (ltb-true (begin n) (length a) in_a)).1
    go n false true in_a in_b = sym (same_piece rows b a two one n (ltb-true (begin n) (length b) in_b)).1
    go n false false in_a in_b = no_piece a n (ltb-false (begin n) (length a) in_a)
        ∙ sym (no_piece b n (ltb-false (begin n) (length b) in_b))

one_version : (pieces : List Row) (row : Row) (x y : Place × Entry) → IsVersion pieces row x → IsVersion pieces row y
    → y ≡ x
one_version pieces row x y one two =
    let place = same_place row y.0 x.0 two.place one.place in
    let gomod = blobs_same (column row 6) x.1.gomod y.1.gomod one.gomod two.gomod in
    let zip = one_zip (filter (is_of row) pieces) y.1.zip x.1.zip two.zip one.zip in
    let time : y.1.time ≡ x.1.time = time_read (column row 5) y.1.time two.time
    ∙ sym (time_read (column row 5) x.1.time one.time) in
    λ i. (place i, record { gomod = gomod i; zip = zip i; time = time i })

pub one_shelf : (row : Row) (x y : List ℕ × Option (List ℕ)) → IsShelf row x → IsShelf row y → y ≡ x
one_shelf row x y one two =
    let name = texts_same (column row 1) x.0 y.0 one.0 two.0 in
    let parent : y.1 ≡ x.1 = time_read (column row 2) y.1 two.1 ∙ sym (time_read (column row 2) x.1 one.1) in
    λ i. (name i, parent i)

-- tables mean at most one world
pub stand_for_one : StandForOne
stand_for_one db w x one two =
    let keys = map.same_map texts_total texts_exact w.keys x.keys
    (λ k. same_got w.keys x.keys k
    (λ h. carried IsAccess (db 4) (λ it. map.get w.keys it.0 ≡ Some it.1) (λ it. map.get x.keys it.0 ≡ Some it.1)
    one_access one.access two.access (k, h))
    (λ h. carried IsAccess (db 4) (λ it. map.get x.keys it.0 ≡ Some it.1) (λ it. map.get w.keys it.0 ≡ Some it.1)
    one_access two.access one.access (k, h))) in
    let shelves = map.same_map texts_total texts_exact w.shelves x.shelves
    (λ s. same_got w.shelves x.shelves s
    (λ o. carried IsShelf (db 2) (λ it. map.get w.shelves it.0 ≡ Some it.1)
    (λ it. map.get x.shelves it.0 ≡ Some it.1) one_shelf one.shelves two.shelves (s, o))
    (λ o. carried IsShelf (db 2) (λ it. map.get x.shelves it.0 ≡ Some it.1) (λ it. map.get w.shelves it.0 ≡ Some it.1)
    one_shelf two.shelves one.shelves (s, o))) in
    let entries = map.same_map places_total places_exact w.entries x.entries
    (λ q. same_got w.entries x.entries q
    (λ e. carried (IsVersion (db 8)) (db 6) (λ it. map.get w.entries it.0 ≡ Some it.1)
    (λ it. map.get x.entries it.0 ≡ Some it.1) (one_version (db 8)) one.entries two.entries (q, e))
    (λ e. carried (IsVersion (db 8)) (db 6) (λ it. map.get x.entries it.0 ≡ Some it.1)
    (λ it. map.get w.entries it.0 ≡ Some it.1) (one_version (db 8)) two.entries one.entries (q, e))) in
    λ i. record { keys = keys i; shelves = shelves i; entries = entries i }
