use Rattle.std.proofs.Common.{◌≡◌, ◌∙◌, true, sym, rules}
use Rattle.cache.proofs.AbsenceLemmas.{none_viewed}
use Rattle.cache.proofs.ListLemmas.{fewer}
use Rattle.cache.proofs.caches.Caches.lacks.Goals as goal

pub returns-then-has-clause-found : goal.returns-then-has-clause-found
returns-then-has-clause-found c _ w is right =
    let there : c.has.result ≡ true = search rules in
    none_viewed w is c.args.shelf.now c.args.path.now c.args.version.now
    (right.2.1 c.args.path.now c.args.shelf.now (sym c.has.ensures ∙ there))

pub returns-clause-others : goal.returns-clause-others
returns-clause-others c w right =
    (right.0, fewer w c.args.self.now.lists c.lacks.new.self c.lacks.ensures.others right.1, right.2, right.3)

pub returns-clause-found : goal.returns-clause-found
returns-clause-found c missing w is right = c.lacks.ensures.found missing w is right.1
