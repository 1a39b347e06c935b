use Rattle.control.proofs.NoticeLemmas.{none_is_refusal}
use Rattle.control.proofs.laws.no_notice_is_a_refusal.Goals as goal

pub returns : goal.returns
returns c = none_is_refusal
