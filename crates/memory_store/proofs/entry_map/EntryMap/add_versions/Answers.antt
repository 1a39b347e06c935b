use Rattle.std.proofs.Common.{◌∙◌, ◌++◌, ap, sym}
use Rattle.std.specs.FinMap as map
use Rattle.std.proofs.lemmas.List.{append-nil}
use Rattle.std.proofs.lemmas.Result.{on_ok_weaker}
use Rattle.world.specs.Lines.{in_order}
use Rattle.world.specs.Versions.{named}
use Rattle.world.specs.Visible.{versions_among}
use Rattle.memory_store.proofs.MapsSeen.{no_versions, the_versions}
use Rattle.memory_store.proofs.entry_map.EntryMap.add_versions.Goals as goal

pub returns-in-None : goal.returns-in-None
returns-in-None c =
    let s = c.args.shelf.now in
    let p = c.args.path.now in
    let old = c.args.versions.now.items in
    sym (ap (λ m. old ++ named (in_order (versions_among s p (map.entries m)))) (sym c.self.view_is)
    ∙ ap (λ ts. old ++ named ts) (no_versions c.self.inside.shelves s p c.in-None.ensures) ∙ append-nil old)

pub returns-in-Some : goal.returns-in-Some
returns-in-Some c =
    let s = c.args.shelf.now in
    let p = c.args.path.now in
    let old = c.args.versions.now.items in
    on_ok_weaker c.add_named.result
    (λ more. more ∙ ap (λ ts. old ++ named ts)
    (sym (the_versions c.self.inside.shelves s p c.in-Some.found.now c.in-Some.ensures))
    ∙ ap (λ m. old ++ named (in_order (versions_among s p (map.entries m)))) c.self.view_is)
    c.add_named.ensures
