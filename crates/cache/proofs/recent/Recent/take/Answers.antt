use Rattle.std.proofs.Common.{◌≡◌, sym, subst, rules}
use Rattle.cache.specs.Recent.{Holds}
use Rattle.cache.proofs.RecentLemmas.{entries_in, removed_holds, none_removed_fits, removed_fits, removed_held}
use Rattle.cache.proofs.recent.Recent.take.Goals as goal

pub invariant_of-self-in_err-weight : goal.invariant_of-self-in_err-weight
invariant_of-self-in_err-weight g c =
    let es = entries_in c.self.inside.cache in
    let was : c.in-Some.cache.entries ≡ es = search rules in
    none_removed_fits g.V.Weighed.weighs c.in-Some.cache c.pop_entry.new.self es was c.self.inside.weight
    g.V.Weighed.MOST c.self.invariant _ c.pop_entry.ensures.entries

pub returns-in_err-weight-clause-others : goal.returns-in_err-weight-clause-others
returns-in_err-weight-clause-others g c v h =
    let es = entries_in c.self.inside.cache in
    let was : c.in-Some.cache.entries ≡ es = search rules in
    let held = removed_holds g.V.Weighed.weighs c.in-Some.cache c.pop_entry.new.self es was c.self.inside.weight
    g.V.Weighed.MOST c.self.invariant _ c.pop_entry.ensures.entries v h in
    subst (λ l. Holds l v) c.self.view_is held

pub invariant_of-self-2 : goal.invariant_of-self-2
invariant_of-self-2 g c =
    let es = entries_in c.self.inside.cache in
    let was : c.in-Some.cache.entries ≡ es = search rules in
    let fits = removed_fits g.V.Weighed.weighs c.in-Some.cache c.pop_entry.new.self es was c.self.inside.weight
    g.V.Weighed.MOST c.self.invariant _ c.pop_entry.ensures.entries _ (sym c.in_ok-weight.ensures.value) in
    rw c.saturating_sub-self-inside.ensures fits

pub returns-clause-others : goal.returns-clause-others
returns-clause-others g c v h =
    let es = entries_in c.self.inside.cache in
    let was : c.in-Some.cache.entries ≡ es = search rules in
    let held = removed_holds g.V.Weighed.weighs c.in-Some.cache c.pop_entry.new.self es was c.self.inside.weight
    g.V.Weighed.MOST c.self.invariant _ c.pop_entry.ensures.entries v h in
    subst (λ l. Holds l v) c.self.view_is held

pub returns-clause-taken : goal.returns-clause-taken
returns-clause-taken g c =
    let es = entries_in c.self.inside.cache in
    let was : c.in-Some.cache.entries ≡ es = search rules in
    let held = removed_held g.V.Weighed.weighs c.in-Some.cache c.pop_entry.new.self es was c.self.inside.weight
    g.V.Weighed.MOST c.self.invariant _ c.pop_entry.ensures.entries _ (sym c.in_ok-weight.ensures.value) in
    subst (λ l. Holds l c.in_ok-weight.value) c.self.view_is held
