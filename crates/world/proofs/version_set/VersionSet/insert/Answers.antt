use Rattle.std.proofs.Common.{◌∙◌, ap}
use Rattle.std.specs.FinSet as set
use Rattle.world.specs.Versions.{versions_total}
use Rattle.world.proofs.InOrder.{one_more_key}
use Rattle.world.proofs.VersionOrder.{versions_exact}
use Rattle.world.proofs.version_set.VersionSet.insert.Goals as goal

pub returns-clause-ok : goal.returns-clause-ok
returns-clause-ok c =
    ap set.from_list c.in_ok-insert.ensures.keys
    ∙ one_more_key versions_total versions_exact c.self.inside.tree.keys c.args.version
    ∙ ap (λ s. set.insert s c.args.version) c.self.view_is
