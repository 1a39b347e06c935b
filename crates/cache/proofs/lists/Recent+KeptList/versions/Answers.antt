use Rattle.std.proofs.Common.{◌∙◌}
use Rattle.cache.proofs.ListLemmas.{found}
use Rattle.cache.proofs.lists.Recent+KeptList.versions.Goals as goal

pub returns-in-Ok-clause-found : goal.returns-in-Ok-clause-found
returns-in-Ok-clause-found c w are =
    let list = c.in_ok-list.list.now in
    let held = c.promote.ensures list c.in_ok-list.ensures.held in
    c.in-Ok.ensures ∙ c.as_slice.ensures
    ∙ (found w c.args.self.now list c.args.shelf.now c.args.path.now held c.in_ok-list.ensures.names are).0
