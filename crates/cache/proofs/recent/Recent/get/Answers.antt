use Rattle.std.proofs.Common.{◌≡◌, sym, subst, ◌∙◌, rules}
use Rattle.cache.specs.Recent.{Holds}
use Rattle.cache.proofs.RecentLemmas.{entries_in, holds_found}
use Rattle.cache.proofs.recent.Recent.get.Goals as goal

pub returns : goal.returns
returns g c =
    let was : c.in_ok-as_ref.field-0.now.entries ≡ entries_in c.self.inside.cache = search rules in
    let held = holds_found _ c.in_ok-as_ref.field-0.now.entries c.in_ok-held.held.now (sym c.in_ok-held.ensures) in
    subst (λ l. Holds l c.in_ok-held.held.now.1) (was ∙ c.self.view_is) held
