use Rattle.cache.proofs.ListLemmas.{found, none_seen}
use Rattle.cache.proofs.lists.Recent+KeptList.lacks.Goals as goal

pub returns-clause-found : goal.returns-clause-found
returns-clause-found c missing w is are =
    let list = c.in-Some.list.now in
    let held = c.promote.ensures list c.in-Some.ensures.held in
    let right = (found w c.args.self.now list c.args.shelf.now c.args.path.now held c.in-Some.ensures.names are).0 in
    none_seen w is c.args.shelf.now c.args.path.now c.args.version.now list.versions right (c.lacks.ensures missing)
