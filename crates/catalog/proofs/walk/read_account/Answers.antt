use Rattle.catalog.proofs.ReadLemmas.{only_read}
use Rattle.catalog.proofs.SinceLemmas.{facts_same, reads_past}
use Rattle.catalog.specs.Sight.{facts_in, facts_of, without}
use Rattle.catalog.proofs.walk.read_account.Goals as goal

pub returns-clause-reads : goal.returns-clause-reads
returns-clause-reads g c =
    let s = c.args.shelf.now in
    let p = c.args.path.now in
    let news = c.args.news.now in
    reads_past _ _ news s (facts_in c.account_of.result) (λ w. facts_of w s p)
    (λ w later since here. facts_same w later news since s here p) c.account_of.ensures.reads

pub returns-clause-only : goal.returns-clause-only
returns-clause-only g c =
    let s = c.args.shelf.now in
    let p = c.args.path.now in
    let news = c.args.news.now in
    only_read _ _ (facts_in c.account_of.result) (λ w. facts_of (without w news) s p) c.account_of.ensures.reads
