use Rattle.control.proofs.notice.Notice.of.Goals as goal

pub invariant_of-result : goal.invariant_of-result
invariant_of-result c = record { is = rw c.new.ensures c.requires }
