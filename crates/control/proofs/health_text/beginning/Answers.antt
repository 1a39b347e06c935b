use Rattle.std.proofs.Common.{◌∙◌, ap, codes}
use Rattle.control.specs.HealthText.{number, time}
use Rattle.control.proofs.health_text.beginning.Goals as goal

pub returns : goal.returns
returns c =
    c.number.ensures ∙ ap (number (codes " versions="))
    (c.time-left.ensures ∙ ap (time (codes " since="))
    (c.number-left.ensures ∙ ap (number (codes " store-failures=")) c.tally.ensures))
