-- The number of all versions that is kept from a count, and the count of failures.
use Rattle.std.proofs.Common.{◌≡◌, ◌≢◌, ◌<◌, ◌≤◌, ◌+◌, ◌∙◌, ℕ, Option, Some, ap, min, refl, arith}
use Rattle.std.specs.FinMap as map
use Rattle.world.specs.World.{World}
use Rattle.statements.specs.Counted.{most_counted, versions_in}
use Rattle.cache.specs.Total.{IsTotal}
use Rattle.world.specs.declared.registry.StoreFault.{StoreFault}
use Rattle.world.specs.declared.registry.StoreFault.TheVariants.{Device, Memory}
use Rattle.store.specs.Counted.{counting}

below : (k n : ℕ) → n ≡ min k most_counted → n < most_counted → n ≡ k
below k n is few = omega (arith, is, few)

pub total_of_count : (w : World) (count : ℕ) (total : Option ℕ)
    → ((n : ℕ) → total ≡ Some n → (n ≡ count) × (n < most_counted)) → count ≡ versions_in w
    → IsTotal w total
total_of_count w count total exact is n kept = let it = exact n kept in below (map.len w.entries) n (it.0 ∙ is) it.1

pub count_of_total : (w : World) (total : Option ℕ) (n m : ℕ) → total ≡ Some n → m ≡ min n most_counted
    → IsTotal w total → m ≡ versions_in w
count_of_total w total n m kept capped right = capped ∙ ap (λ k. min k most_counted) (right n kept)

-- ---- the count of failures after a fault

-- it grows by one at most
pub counts_once : (fault : StoreFault) (before now : ℕ) → now ≡ counting fault before → now ≤ before + 1
counts_once Device before now is = omega (arith, is)
counts_once Memory before now is = omega (arith, is)

-- and only for `Device`
pub counts_same : (fault : StoreFault) (before now : ℕ) → now ≡ counting fault before → fault ≢ Device → now ≡ before
counts_same Device before now is other = absurd (other refl)
counts_same Memory before now is other = is
