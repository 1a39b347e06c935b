use Rattle.std.proofs.Common.{ap}
use Rattle.control.proofs.OrderedLemmas.{obeys_either}
use Rattle.control.proofs.busy_copies.obey_with.Goals as goal

pub returns-clause-same : goal.returns-clause-same
returns-clause-same g c = obeys_either _ _ _ _ _ _ _ _ _ _ _ _ _ (λ heard rest. rest.0)
    (λ making done. ap (λ b. b.reserve.ghost_name) done.0) c.obeyed-after.ensures.obeys
