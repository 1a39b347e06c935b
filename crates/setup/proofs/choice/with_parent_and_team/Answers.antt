use Rattle.std.proofs.Common.{◌∙◌}
use Rattle.statements.proofs.ChangeLemmas.{weaker}
use Rattle.setup.proofs.PartLemmas.{adds_both}
use Rattle.setup.proofs.choice.with_parent_and_team.Goals as goal

pub returns : goal.returns
returns c =
    weaker c.with-2.result
    (λ more then. adds_both c.args.list c.in_ok-list.list more c.args.parent c.args.team.now c.in_ok-copy_of.field-0
    c.in_ok-copy_of-2.field-0
    (c.in_ok-copy_of.ensures ∙ c.as_str.ensures) c.in_ok-copy_of-2.ensures c.in_ok-list.ensures then)
    c.with-2.ensures
