use Rattle.std.proofs.Common.{◌∙◌, ◌++◌, sym, ap}
use Rattle.world.specs.Lines.{in_order}
use Rattle.world.specs.Versions.{version_cmp, versions_total}
use Rattle.world.proofs.InOrder.{in_order-from_list, risen}
use Rattle.world.proofs.VersionOrder.{versions_exact}
use Rattle.world.proofs.version_set.VersionSet.into_list.Goals as goal

pub loop-ranked-init : goal.loop-ranked-init
loop-ranked-init c =
    let given = c.into_iter-ranked-iterator.ensures.into_iter_gives in
    ap (λ xs. xs ++ c.into_iter-ranked-iterator.result) c.new-list.ensures.items
    ∙ given.0 ∙ sym (in_order-from_list versions_total versions_exact c.self.inside.tree.keys
    (risen version_cmp c.self.inside.tree.keys given.4))
    ∙ ap in_order c.self.view_is
