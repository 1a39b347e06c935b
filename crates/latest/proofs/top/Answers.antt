use Rattle.std.proofs.Common.{None, refl}
use Rattle.latest.proofs.Scans.{named_alike}
use Rattle.latest.proofs.top.Goals as goal

pub returns : goal.returns
returns c = named_alike _ _ _ (λ v h. h.0) (λ v h. (h, refl)) _ (c.top_of.ensures None tt)
