use Rattle.std.proofs.Common.{◌∙◌, ap}
use Rattle.std.specs.FinMap as map
use Rattle.std.specs.FinSet as set
use Rattle.std.proofs.lemmas.Result.{on_ok_weaker}
use Rattle.world.specs.Visible.{paths_among}
use Rattle.memory_store.proofs.MapsSeen.{no_paths, more_paths}
use Rattle.memory_store.proofs.entry_map.EntryMap.add_paths.Goals as goal

pub returns-in-None : goal.returns-in-None
returns-in-None c =
    no_paths c.self.inside.shelves c.args.shelf.now c.self.invariant c.args.paths.now c.in-None.ensures
    ∙ ap (λ m. set.union c.args.paths.now (paths_among c.args.shelf.now (map.entries m))) c.self.view_is

pub returns-in-Some : goal.returns-in-Some
returns-in-Some c = on_ok_weaker c.add_keys.result
    (λ more. more ∙ more_paths c.self.inside.shelves c.args.shelf.now c.self.invariant c.args.paths.now
    c.in-Some.found.now c.in-Some.ensures
    ∙ ap (λ m. set.union c.args.paths.now (paths_among c.args.shelf.now (map.entries m))) c.self.view_is)
    c.add_keys.ensures
