-- The kept number of all versions stays right when one more is stored.
use Rattle.std.proofs.Common.{◌≡◌, ◌∙◌, ◌+◌, ℕ, cond, Option, Some, None, is_some, sym, ap}
use Rattle.std.specs.FinMap as map
use Rattle.world.specs.declared.entry.Entry.{Entry}
use Rattle.world.specs.declared.entry.Place.{Place}
use Rattle.world.specs.World.{World, with_entry}
use Rattle.world.proofs.Orders.{places_total}
use Rattle.cache.specs.Total.{IsTotal}

pub no_total : (w : World) (total : Option ℕ) → total ≡ None → IsTotal w total
no_total w total none n is = let never : ◌≡◌ {A = Option ℕ} None (Some n) = sym none ∙ is in cc never

pub one_more : (w : World) (q : Place) (e : Entry) (total : Option ℕ) (n m : ℕ) → map.get w.entries q ≡ None
    → IsTotal w total → total ≡ Some n → m ≡ n + 1
    → IsTotal (with_entry w q e) (Some m)
one_more w q e total n m free right kept more k is =
    let number : m ≡ k = cc is in
    let grown : map.len (map.insert w.entries q e) ≡ map.len w.entries + 1 =
    map.len-insert places_total w.entries q e
    ∙ ap (λ (g : Option Entry). cond (is_some g) (map.len w.entries) (map.len w.entries + 1)) free in
    sym number ∙ (more ∙ (ap (λ i. i + 1) (right n kept) ∙ sym grown))
