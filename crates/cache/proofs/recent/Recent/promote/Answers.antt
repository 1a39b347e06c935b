use Rattle.std.proofs.Common.{◌≡◌, subst, rules}
use Rattle.cache.specs.Recent.{Holds}
use Rattle.cache.proofs.RecentLemmas.{entries_in, promoted_holds, promoted_fits}
use Rattle.cache.proofs.recent.Recent.promote.Goals as goal

pub invariant_of-self-2 : goal.invariant_of-self-2
invariant_of-self-2 g c =
    let es = entries_in c.self.inside.cache in
    let was : c.in-Some.cache.entries ≡ es = search rules in
    promoted_fits g.V.Weighed.weighs c.in-Some.cache c.promote.new.self es was c.self.inside.weight g.V.Weighed.MOST
    c.self.invariant _ c.promote.ensures.entries

pub returns : goal.returns
returns g c v h =
    let es = entries_in c.self.inside.cache in
    let was : c.in-Some.cache.entries ≡ es = search rules in
    let held = promoted_holds g.V.Weighed.weighs c.in-Some.cache c.promote.new.self es was c.self.inside.weight
    g.V.Weighed.MOST c.self.invariant _ c.promote.ensures.entries v h in
    subst (λ l. Holds l v) c.self.view_is held
