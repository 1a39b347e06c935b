use Rattle.std.proofs.Common.{◌≡◌, true, rules}
use Rattle.cache.specs.Lists.{is_of}
use Rattle.cache.proofs.ListLemmas.{found}
use Rattle.cache.proofs.lists.Recent+KeptList.take_versions.Goals as goal

pub returns-then-is_of-clause-taken : goal.returns-then-is_of-clause-taken
returns-then-is_of-clause-taken c w are =
    let names : is_of c.args.shelf.now c.args.path.now c.in_ok-list.list ≡ true = search rules in
    (found w c.args.self.now c.in_ok-list.list c.args.shelf.now c.args.path.now c.in_ok-list.ensures.taken names are).0
