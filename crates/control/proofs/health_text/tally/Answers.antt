use Rattle.std.proofs.Common.{◌∙◌, ap, codes}
use Rattle.control.specs.HealthText.{number}
use Rattle.control.proofs.health_text.tally.Goals as goal

pub returns : goal.returns
returns c =
    c.number.ensures ∙ ap (number (codes " unanswered="))
    (c.number-left-4.ensures ∙ ap (number (codes " 5xx="))
    (c.number-left-3.ensures ∙ ap (number (codes " 4xx="))
    (c.number-left-2.ensures ∙ ap (number (codes " 2xx=")) c.number-left.ensures)))
