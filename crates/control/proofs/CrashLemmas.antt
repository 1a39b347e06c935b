-- What a crash leaves after more tasks.
use Rattle.std.proofs.Common.{◌≡◌, List, [], ◌∷◌, ◌++◌, refl, sym, subst, Ok, Err}
use Rattle.world.specs.World.{World}
use Rattle.world.specs.Store.{Shown}
use Rattle.framing.specs.Message.{MessageView}
use Rattle.engine.specs.Exchange.{Outcome, Unserved, Met, Served}
use Rattle.control.specs.Tasks.{Task, Asked, Ordered, LeavesTwo, AllCalm, world_at}

-- if each crash that may leave a world before may also leave it now, `LeavesTwo` still holds
pub leaves_still : (mid new : Shown) → ((w x : World) → mid.leaves w x → new.leaves w x) → (w : World) (ts : List Task)
    → LeavesTwo mid w ts → LeavesTwo new w ts
leaves_still mid new still w [] leaves = still w w leaves
leaves_still mid new still w (t ∷ []) leaves = still w _ leaves
leaves_still mid new still w (t ∷ u ∷ more) leaves = λ calm.
    leaves_still mid new still (world_at w (t ∷ [])) (u ∷ more) (leaves calm)

step_asked : (w : World) (m : MessageView) (o : Outcome) (ts : List Task)
    → world_at (world_at w (Asked (record { message = m; outcome = o }) ∷ [])) ts
    ≡ world_at w (Asked (record { message = m; outcome = o }) ∷ ts)
step_asked w m Unserved ts = refl
step_asked w m (Met fault) ts = refl
step_asked w m (Served reply) ts = refl

pub world_step : (w : World) (t : Task) (ts : List Task) → world_at (world_at w (t ∷ [])) ts ≡ world_at w (t ∷ ts)
world_step w (Asked x) ts = step_asked w x.message x.outcome ts
world_step w (Ordered command (Ok r)) ts = refl
world_step w (Ordered command (Err fault)) ts = refl

-- if `LeavesTwo` holds of more tasks once the first ones were calm, it holds of all of them
pub leaves_more : (new : Shown) (w : World) (ts : List Task) (u : Task) (us : List Task)
    → (AllCalm w ts → LeavesTwo new (world_at w ts) (u ∷ us)) → LeavesTwo new w (ts ++ u ∷ us)
leaves_more new w [] u us next = next tt
leaves_more new w (t ∷ []) u us next = λ calm. next (calm, tt)
leaves_more new w (t ∷ t' ∷ more) u us next =
    λ calm.
    leaves_more new (world_at w (t ∷ [])) (t' ∷ more) u us
    (λ all. subst (λ v. LeavesTwo new v (u ∷ us)) (sym (world_step w t (t' ∷ more))) (next (calm, all)))
