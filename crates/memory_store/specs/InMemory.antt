-- What is known of a store in memory.
use Rattle.std.specs.Prelude.{◌≡◌, ◌⊎◌}
use Rattle.world.specs.World.{World, IsWorld}
use Rattle.world.specs.Store.{Shown}

-- it stands for the world that it holds, if that is well formed, a crash leaves that world, and no device has failed
abbrev pub in_memory : World → Shown
in_memory m = record {
  stands = λ w. (m ≡ w) × IsWorld w;
  is_honest = Unit {0};
  leaves = λ w x. (m ≡ w) ⊎ (m ≡ x);
  failures = 0;
}

-- the disks are honest, the store stands for this world and no other, and a crash leaves only this world
pub record IsJust (shown : Shown) (w : World) : Type 0 where
  pub honest : shown.is_honest
  pub stands : shown.stands w
  pub no_other : (x : World) → shown.stands x → x ≡ w
  pub left : shown.leaves w w
  pub none_but : (x : World) → shown.leaves x x → x ≡ w
