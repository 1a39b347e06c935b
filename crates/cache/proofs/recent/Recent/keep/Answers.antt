use Rattle.std.proofs.Common.{inl, inr}
use Rattle.cache.proofs.recent.Recent.keep.Goals as goal

pub returns : goal.returns
returns g c v h = elim (c.put.ensures v h) [
  | inl was ↦ inl (c.drop_one.ensures v (c.make_room.ensures v was))
  | inr same ↦ inr same
]
