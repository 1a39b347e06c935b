use Rattle.std.proofs.Common.{◌≡◌, ◌≤◌, ◌-◌, ◌⊎◌, ◌∙◌, inl, ap, subst, nat_eq, arith, rules}
use Rattle.cache.specs.Recent.{Holds}
use Rattle.cache.proofs.RecentLemmas.{Cache, entries_in, put_holds, put_fits}
use Rattle.cache.proofs.recent.Recent.put.Goals as goal

pub returns-in_default-put : goal.returns-in_default-put
returns-in_default-put g c v h =
    let was : c.in-Ok.cache.entries ≡ entries_in c.self.inside.cache = c.in-Ok.ensures
    ∙ ap entries_in c.take.ensures.value in
    let now = ap (λ (k : Cache g.row.V.Denot). k.entries) c.in_default-put.ensures.err ∙ was ∙ c.self.view_is in
    inl (subst (λ l. Holds l v) now h)

pub invariant_of-self-2 : goal.invariant_of-self-2
invariant_of-self-2 g c =
    let was : c.in-Ok.cache.entries ≡ entries_in c.self.inside.cache = c.in-Ok.ensures
    ∙ ap entries_in c.take.ensures.value in
    let room : c.weight-weight.result ≤ g.V.Weighed.MOST - c.self.inside.weight = search rules in
    let enough = c.weight-weight.ensures (omega (arith, room)) in
    put_fits g.V.Weighed.weighs c.in-Ok.cache c.put.new.self (entries_in c.self.inside.cache) was c.self.inside.weight
    g.V.Weighed.MOST c.self.invariant nat_eq c.args.hash
    (c.weight-weight.result, c.args.value) c.in-Ok-put.ensures.entries room enough

pub returns : goal.returns
returns g c v h =
    let was : c.in-Ok.cache.entries ≡ entries_in c.self.inside.cache = c.in-Ok.ensures
    ∙ ap entries_in c.take.ensures.value in
    let held = put_holds g.V.Weighed.weighs c.in-Ok.cache c.put.new.self (entries_in c.self.inside.cache) was
    c.self.inside.weight g.V.Weighed.MOST c.self.invariant nat_eq c.args.hash
    (c.weight-weight.result, c.args.value) c.in-Ok-put.ensures.entries v h in
    subst (λ l. Holds l v ⊎ (v ≡ c.args.value)) c.self.view_is held
