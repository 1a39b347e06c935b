use Rattle.std.proofs.Common.{◌∙◌, ap}
use Rattle.std.specs.FinMap as map
use Rattle.memory_store.proofs.MapsCounts.{none_at, some_at, is_of}
use Rattle.memory_store.proofs.entry_map.EntryMap.count.Goals as goal

pub returns-in-None : goal.returns-in-None
returns-in-None c = none_at c.self.inside.shelves c.args.shelf.now c.args.path.now c.in-None.ensures
    ∙ ap (λ m. map.len (map.retain_keys m (is_of c.args.shelf.now c.args.path.now))) c.self.view_is

pub returns-in-Some : goal.returns-in-Some
returns-in-Some c = c.len.ensures
    ∙ some_at c.self.inside.shelves c.args.shelf.now c.args.path.now c.in-Some.versions.now c.in-Some.ensures
    ∙ ap (λ m. map.len (map.retain_keys m (is_of c.args.shelf.now c.args.path.now))) c.self.view_is
