-- What a crash leaves after more messages.
use Rattle.std.proofs.Common.{◌≡◌, List, [], ◌∷◌, ◌++◌, refl, sym, subst}
use Rattle.world.specs.World.{World}
use Rattle.world.specs.Store.{Shown}
use Rattle.engine.specs.Exchange.{Exchange, Outcome, Unserved, Met, Served}
use Rattle.engine.specs.Store.{LeavesTwo, AllCalm, world_at}

-- if each crash that may leave a world before may also leave it now, `LeavesTwo` still holds
pub leaves_still : (mid new : Shown) → ((w x : World) → mid.leaves w x → new.leaves w x)
    → (w : World) (xs : List Exchange)
    → LeavesTwo mid w xs → LeavesTwo new w xs
leaves_still mid new still w [] leaves = still w w leaves
leaves_still mid new still w (x ∷ []) leaves = still w _ leaves
leaves_still mid new still w (x ∷ y ∷ more) leaves = λ unmet.
    leaves_still mid new still (world_at w (x ∷ [])) (y ∷ more) (leaves unmet)

pub world_step : (w : World) (x : Exchange) (xs : List Exchange)
    → world_at (world_at w (x ∷ [])) xs ≡ world_at w (x ∷ xs)
world_step w x xs = by_outcome x.outcome
  where
    by_outcome : (o : Outcome)
        → world_at (world_at w (record { message = x.message; outcome = o } ∷ [])) xs
        ≡ world_at w (record { message = x.message; outcome = o } ∷ xs)
    by_outcome Unserved = refl
    by_outcome (Met fault) = refl
    by_outcome (Served reply) = refl

-- if `LeavesTwo` holds of more messages once the first ones were calm, it holds of all of them
pub leaves_more : (new : Shown) (w : World) (xs : List Exchange) (y : Exchange) (ys : List Exchange)
    → (AllCalm w xs → LeavesTwo new (world_at w xs) (y ∷ ys)) → LeavesTwo new w (xs ++ y ∷ ys)
leaves_more new w [] y ys next = next tt
leaves_more new w (x ∷ []) y ys next = λ unmet. next (unmet, tt)
leaves_more new w (x ∷ x' ∷ more) y ys next =
    λ unmet.
    leaves_more new (world_at w (x ∷ [])) (x' ∷ more) y ys
    (λ all. subst (λ v. LeavesTwo new v (y ∷ ys)) (sym (world_step w x (x' ∷ more))) (next (unmet, all)))
