use Rattle.std.proofs.Common.{◌≡◌, sym, subst, rules}
use Rattle.cache.specs.Recent.{Holds}
use Rattle.cache.proofs.RecentLemmas.{entries_in, cut_holds, none_cut_fits, cut_fits}
use Rattle.cache.proofs.recent.Recent.drop_last.Goals as goal

pub invariant_of-self-in-Some-pop_lru : goal.invariant_of-self-in-Some-pop_lru
invariant_of-self-in-Some-pop_lru g c =
    let es = entries_in c.self.inside.cache in
    let was : c.in-Some.cache.entries ≡ es = search rules in
    let fits = cut_fits g.V.Weighed.weighs c.in-Some.cache c.pop_lru.new.self es was c.self.inside.weight
    g.V.Weighed.MOST c.self.invariant c.pop_lru.ensures.entries _ (sym c.in-Some-pop_lru.ensures.value) in
    rw c.saturating_sub-self-inside.ensures fits

pub invariant_of-self-in_default-pop_lru : goal.invariant_of-self-in_default-pop_lru
invariant_of-self-in_default-pop_lru g c =
    let es = entries_in c.self.inside.cache in
    let was : c.in-Some.cache.entries ≡ es = search rules in
    none_cut_fits g.V.Weighed.weighs c.in-Some.cache c.pop_lru.new.self es was c.self.inside.weight g.V.Weighed.MOST
    c.self.invariant c.pop_lru.ensures.entries

pub returns-in-Some-pop_lru : goal.returns-in-Some-pop_lru
returns-in-Some-pop_lru g c v h =
    let es = entries_in c.self.inside.cache in
    let was : c.in-Some.cache.entries ≡ es = search rules in
    let held = cut_holds g.V.Weighed.weighs c.in-Some.cache c.pop_lru.new.self es was c.self.inside.weight
    g.V.Weighed.MOST c.self.invariant c.pop_lru.ensures.entries v h in
    subst (λ l. Holds l v) c.self.view_is held

pub returns-in_default-pop_lru : goal.returns-in_default-pop_lru
returns-in_default-pop_lru g c v h =
    let es = entries_in c.self.inside.cache in
    let was : c.in-Some.cache.entries ≡ es = search rules in
    let held = cut_holds g.V.Weighed.weighs c.in-Some.cache c.pop_lru.new.self es was c.self.inside.weight
    g.V.Weighed.MOST c.self.invariant c.pop_lru.ensures.entries v h in
    subst (λ l. Holds l v) c.self.view_is held
