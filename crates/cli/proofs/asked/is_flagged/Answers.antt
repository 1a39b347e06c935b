use Rattle.std.proofs.Common.{◌∙◌, ap}
use Rattle.clap.specs.Words.{found_of}
use Rattle.cli.specs.Asks.{is_by_words}
use Rattle.cli.proofs.Needed.{source_row}
use Rattle.cli.proofs.asked.is_flagged.Goals as goal

pub returns : goal.returns
returns c = c.is_by_words.ensures
    ∙ ap is_by_words (c.value_source.ensures ∙ source_row (found_of c.args.options.now) c.args.name.now)
