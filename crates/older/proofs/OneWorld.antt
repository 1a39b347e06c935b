-- Tables of an older schema stand for at most one world.
use Rattle.std.proofs.Common.{◌≡◌, ℕ, List, filter, Option, Some, sym, ap, ◌∙◌}
use Rattle.std.specs.FinMap as map
use Rattle.sqlite.specs.Order.{Row, column}
use Rattle.sqlite.specs.Tree.{Trees}
use Rattle.world.specs.declared.entry.Place.{Place}
use Rattle.world.specs.declared.entry.Entry.{Entry}
use Rattle.world.proofs.Orders.{texts_total, texts_exact, places_total, places_exact}
use Rattle.tables.specs.Means.{IsAccess, is_of}
use Rattle.tables.proofs.CountedRows.{same_place}
use Rattle.tables.proofs.OneWorld.{carried, same_got, texts_same, blobs_same, one_access, one_zip}
use Rattle.tables.proofs.RowFits.{time_read}
use Rattle.older.specs.declared.schema.Format.{Format}
use Rattle.older.specs.declared.schema.Format.TheVariants.{One, Two}
use Rattle.older.specs.Means.{IsShelf, IsEntryIn, parent_of}
use Rattle.older.specs.Laws.{MeanOne}

one_shelf : (row : Row) (x y : List ℕ × Option (List ℕ)) → IsShelf row x → IsShelf row y → y ≡ x
one_shelf row x y one two =
    let name = texts_same (column row 1) x.0 y.0 one.0 two.0 in
    let parent : y.1 ≡ x.1 = two.1 ∙ (ap parent_of name ∙ sym one.1) in
    λ i. (name i, parent i)

-- a row of `version` is that of at most one entry
one_entry : (format : Format) (db : Trees) (row : Row) (x y : Place × Entry) → IsEntryIn format db row x
    → IsEntryIn format db row y → y ≡ x
one_entry One db row x y one two =
    let place = same_place row y.0 x.0 two.place one.place in
    let gomod = blobs_same (column row 6) x.1.gomod y.1.gomod one.gomod two.gomod in
    let zip = blobs_same (column one.zip.body 2) x.1.zip y.1.zip (one.zip.holds one.zip.body one.zip.there one.zip.same)
    (two.zip.holds one.zip.body one.zip.there one.zip.same) in
    let time : y.1.time ≡ x.1.time = time_read (column row 5) y.1.time two.time
    ∙ sym (time_read (column row 5) x.1.time one.time) in
    λ i. (place i, record { gomod = gomod i; zip = zip i; time = time i })
one_entry Two db row x y one two =
    let place = same_place row y.0 x.0 two.place one.place in
    let gomod = blobs_same (column row 6) x.1.gomod y.1.gomod one.gomod two.gomod in
    let zip = one_zip (filter (is_of row) (db 8)) y.1.zip x.1.zip two.zip one.zip in
    let time : y.1.time ≡ x.1.time = time_read (column row 5) y.1.time two.time
    ∙ sym (time_read (column row 5) x.1.time one.time) in
    λ i. (place i, record { gomod = gomod i; zip = zip i; time = time i })

-- tables of an older schema stand for at most one world, because its keys, its shelves and its entries are all
-- determined
pub mean_one : MeanOne
mean_one format db w x one two =
    let keys = map.same_map texts_total texts_exact w.keys x.keys
    (λ k. same_got w.keys x.keys k
    (λ h. carried IsAccess (db 4) (λ it. map.get w.keys it.0 ≡ Some it.1) (λ it. map.get x.keys it.0 ≡ Some it.1)
    one_access one.access two.access (k, h))
    (λ h. carried IsAccess (db 4) (λ it. map.get x.keys it.0 ≡ Some it.1) (λ it. map.get w.keys it.0 ≡ Some it.1)
    one_access two.access one.access (k, h))) in
    let shelves = map.same_map texts_total texts_exact w.shelves x.shelves
    (λ s. same_got w.shelves x.shelves s
    (λ o. carried IsShelf (db 2) (λ it. map.get w.shelves it.0 ≡ Some it.1)
    (λ it. map.get x.shelves it.0 ≡ Some it.1) one_shelf one.shelves two.shelves (s, o))
    (λ o. carried IsShelf (db 2) (λ it. map.get x.shelves it.0 ≡ Some it.1) (λ it. map.get w.shelves it.0 ≡ Some it.1)
    one_shelf two.shelves one.shelves (s, o))) in
    let entries = map.same_map places_total places_exact w.entries x.entries
    (λ q. same_got w.entries x.entries q
    (λ e. carried (IsEntryIn format db) (db 6) (λ it. map.get w.entries it.0 ≡ Some it.1)
    (λ it. map.get x.entries it.0 ≡ Some it.1) (one_entry format db) one.entries two.entries (q, e))
    (λ e. carried (IsEntryIn format db) (db 6) (λ it. map.get x.entries it.0 ≡ Some it.1)
    (λ it. map.get w.entries it.0 ≡ Some it.1) (one_entry format db) two.entries one.entries (q, e))) in
    λ i. record { keys = keys i; shelves = shelves i; entries = entries i }
