use Rattle.std.proofs.Common.{codes}
use Rattle.catalog.specs.Line.{requirement}
use Rattle.catalog.proofs.Pushed.{after_one}
use Rattle.catalog.proofs.line.push_next.Goals as goal

pub returns : goal.returns
returns c =
    after_one _ c.args.line.now.items (codes ",") (requirement c.args.requirement.now) _ _ c.in_ok-push.ensures
    c.push_requirement.ensures
