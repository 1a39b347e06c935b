use Rattle.peek.proofs.EditLemmas.{shown_more}
use Rattle.peek.proofs.add.Goals as goal

pub returns-clause-shows : goal.returns-clause-shows
returns-clause-shows c file = rw c.in_ok-push.ensures.items (shown_more file c.args.edits.now.items c.args.edit)
