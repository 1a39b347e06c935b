use Rattle.std.proofs.Common.{◌∙◌}
use Rattle.store.proofs.look.has_own_table.Goals as goal

pub returns-in_err-read_at : goal.returns-in_err-read_at
returns-in_err-read_at g c = record {
  seen = c.read_at.ensures.seen ∙ c.len.ensures.seen;
  clean = λ it. c.len.ensures.clean (c.read_at.ensures.clean it);
  usable = c.read_at.ensures.usable;
  key = c.read_at.ensures.key ∙ c.len.ensures.key;
  rot = c.read_at.ensures.rot ∙ c.len.ensures.rot;
  crash = λ left may. c.len.ensures.crash left (c.read_at.ensures.crash left may);
}

pub returns : goal.returns
returns g c = record {
  seen = c.read_at.ensures.seen ∙ c.len.ensures.seen;
  clean = λ it. c.len.ensures.clean (c.read_at.ensures.clean it);
  usable = c.read_at.ensures.usable;
  key = c.read_at.ensures.key ∙ c.len.ensures.key;
  rot = c.read_at.ensures.rot ∙ c.len.ensures.rot;
  crash = λ left may. c.len.ensures.crash left (c.read_at.ensures.crash left may);
}
