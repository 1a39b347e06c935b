-- Stores that are as they were.
use Rattle.std.proofs.Common.{arith}
use Rattle.std.specs.FinSet as set
use Rattle.world.specs.Store.{Shown}
use Rattle.world.specs.World.{place_cmp}
use Rattle.interleave.specs.Interleave.{IsAsItWas, Notes}

pub as_it_was : (s : Shown) → IsAsItWas s s
as_it_was s =
    record { honest = λ h. h; stays = λ h w stands. stands; left = λ h w x y stands may. may; failures = omega arith }

pub as_it_was_then : (r s t : Shown) → IsAsItWas r s → IsAsItWas s t → IsAsItWas r t
as_it_was_then r s t one two = record {
  honest = λ h. one.honest (two.honest h);
  stays = λ h w stands. two.stays h w (one.stays (two.honest h) w stands);
  left = λ h w x y stands may.
      let early = two.honest h in two.left h w x y (one.stays early w stands) (one.left early w x y stands may);
  failures = omega (arith, one.failures, two.failures);
}

-- a turn that does nothing notes nothing
pub notes_none : (s : Shown) (news : set.FinSet place_cmp) → Notes s s news news
notes_none s news h w stands =
    record { was = w; stood = stands; later = w; stands = stands; since = λ v since. since }
