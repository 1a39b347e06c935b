use Rattle.std.proofs.Common.{ap, ◌∙◌}
use Rattle.modlex.proofs.WordLemmas.{without_first-stripped, without_last-stripped}
use Rattle.modlex.specs.Words.{without_last}
use Rattle.modlex.proofs.words.inside.Goals as goal

pub returns : goal.returns
returns c =
    without_last-stripped c.args.mark c.unwrap_or-text.result c.unwrap_or.result c.strip_suffix.result
    c.strip_suffix.ensures.cases c.requires c.unwrap_or.ensures
    ∙ ap (without_last c.args.mark)
    (without_first-stripped c.args.mark c.args.text c.unwrap_or-text.result c.strip_prefix.result
    c.strip_prefix.ensures.cases c.requires c.unwrap_or-text.ensures)
