use Rattle.std.proofs.Common.{append_assoc}
use Rattle.control.proofs.tally.Tally.counts.Goals as goal

pub returns : goal.returns
returns c = rw (c.in_ok-text.ensures.ok) (simp append_assoc)
