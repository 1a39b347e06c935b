use Rattle.std.proofs.Common.{rules, ◌∙◌}
use Rattle.gomod.proofs.CoverageLists.{none-covered}
use Rattle.gomod.proofs.coverage.coverage.Goals as goal

pub loop-retraction-init : goal.loop-retraction-init
loop-retraction-init c = c.in_ok-flags.ensures.items_if_clones_equal (λ y h. search rules)
    ∙ none-covered c.args.versions.now _ (search rules)
