use Rattle.std.proofs.Common.{◌≡◌, false, rules}
use Rattle.world.specs.World.{place, with_entry}
use Rattle.cache.proofs.ListLemmas.{no_lists, fewer, others_still}
use Rattle.cache.proofs.lists.Recent+KeptList.forget.Goals as goal

pub returns-then-has_path : goal.returns-then-has_path
returns-then-has_path c w s v e are =
    no_lists (with_entry w (place s c.args.path.now v) e) c.no_lists.result c.no_lists.ensures

pub returns-else-has_path : goal.returns-else-has_path
returns-else-has_path c w s v e are =
    let none : c.has_path.result ≡ false = search rules in
    others_still w s c.args.path.now v e c.drop_on.new.self (c.has_path.ensures none)
    (fewer w c.args.self.now c.drop_on.new.self c.drop_on.ensures are)
