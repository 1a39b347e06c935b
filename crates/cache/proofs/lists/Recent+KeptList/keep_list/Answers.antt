use Rattle.std.proofs.Common.{◌∙◌, inl, inr}
use Rattle.cache.proofs.lists.Recent+KeptList.keep_list.Goals as goal

pub returns-in-Ok : goal.returns-in-Ok
returns-in-Ok c list h = elim (c.keep.ensures list h) [
  | inl was ↦ inl was
  | inr same ↦ inr (same ∙ c.in-Ok.ensures)
]
