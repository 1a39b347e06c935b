use Rattle.std.proofs.Common.{sym}
use Rattle.modver.proofs.Forms.{stamp-form}
use Rattle.modver.proofs.Times.{time-of_tests}
use Rattle.modver.proofs.time.TimeText.of_stamp.Goals as goal

pub is_moment-requires : goal.is_moment-requires
is_moment-requires c = rw c.spelled-bytes.ensures (stamp-form c.args.stamp.now c.requires)

pub invariant_of-result : goal.invariant_of-result
invariant_of-result c = time-of_tests c.spelled-bytes.result
    (rw c.spelled-bytes.ensures (stamp-form c.args.stamp.now c.requires)) (sym c.if-is_moment.ensures)
