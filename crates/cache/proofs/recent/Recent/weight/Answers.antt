use Rattle.std.proofs.Common.{◌≤◌, subst}
use Rattle.cache.specs.Recent.{weighed_in}
use Rattle.cache.proofs.RecentLemmas.{entries_in, weighed_fits}
use Rattle.cache.proofs.recent.Recent.weight.Goals as goal

pub returns-clause-at_least : goal.returns-clause-at_least
returns-clause-at_least g c =
    let fits = weighed_fits g.V.Weighed.weighs (entries_in c.self.inside.cache) c.self.inside.weight g.V.Weighed.MOST
    c.self.invariant in
    subst (λ l. weighed_in g.V.Weighed.weighs l ≤ c.self.inside.weight) c.self.view_is fits
