use Rattle.control.proofs.ShownLemmas.{shows_none_after_fault, shows_only_shelves}
use Rattle.control.proofs.laws.notice_names_only_shelves.Goals as goal

pub returns : goal.returns
returns c = record { replied = shows_only_shelves; faults = shows_none_after_fault }
