use Rattle.std.proofs.Common.{◌∙◌, ap}
use Rattle.control.specs.HealthText.{figures, shelves}
use Rattle.control.proofs.HealthLines.{health-exact}
use Rattle.control.proofs.health_text.is_health.Goals as goal

pub returns : goal.returns
returns c = health-exact c.shelves.result c.args.got.now
    (c.shelves.ensures ∙ ap shelves (c.figures.ensures ∙ ap figures c.beginning-left.ensures))
