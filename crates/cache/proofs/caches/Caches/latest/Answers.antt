use Rattle.std.proofs.Common.{◌≡◌, ◌∙◌, true, sym, rules}
use Rattle.cache.proofs.AbsenceLemmas.{no_latest}
use Rattle.cache.proofs.KeptLemmas.{if_some}
use Rattle.cache.proofs.ListLemmas.{fewer}
use Rattle.cache.proofs.caches.Caches.latest.Goals as goal

pub returns-then-has-clause-found : goal.returns-then-has-clause-found
returns-then-has-clause-found c w right =
    let there : c.has.result ≡ true = search rules in
    no_latest w c.args.shelf.now c.args.path.now
    (right.2.1 c.args.path.now c.args.shelf.now (sym c.has.ensures ∙ there))

pub returns-clause-others : goal.returns-clause-others
returns-clause-others c w right =
    (right.0, fewer w c.args.self.now.lists c.latest.new.self c.latest.ensures.others right.1, right.2, right.3)

pub returns-clause-found : goal.returns-clause-found
returns-clause-found c = if_some c.latest.result (λ latest found w right. found w right.1) c.latest.ensures.found
