use Rattle.std.proofs.Common.{◌≡◌, ◌∙◌, true, sym, rules}
use Rattle.cache.proofs.KeptLemmas.{if_some}
use Rattle.cache.proofs.ListLemmas.{fewer}
use Rattle.cache.proofs.caches.Caches.versions.Goals as goal

pub returns-then-has-clause-found : goal.returns-then-has-clause-found
returns-then-has-clause-found c w right =
    let there : c.has.result ≡ true = search rules in
    c.no_versions.ensures ∙ sym (right.2.1 c.args.path.now c.args.shelf.now (sym c.has.ensures ∙ there))

pub returns-clause-others : goal.returns-clause-others
returns-clause-others c w right =
    (right.0, fewer w c.args.self.now.lists c.versions.new.self c.versions.ensures.others right.1, right.2, right.3)

pub returns-clause-found : goal.returns-clause-found
returns-clause-found c = if_some c.versions.result (λ versions found w right. found w right.1) c.versions.ensures.found
