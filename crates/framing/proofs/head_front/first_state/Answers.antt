use Rattle.framing.proofs.HeadLineLemmas.{first_blank, first_line}
use Rattle.framing.proofs.head_front.first_state.Goals as goal

pub returns-then-are_newlines : goal.returns-then-are_newlines
returns-then-are_newlines c more = first_blank c.args.lines.now more c.if-are_newlines.ensures

pub returns : goal.returns
returns c more = first_line c.args.lines.now more c.if-are_newlines.ensures
