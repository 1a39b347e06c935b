use Rattle.std.proofs.Common.{true}
use Rattle.control.proofs.operator.ConnectionOperator.obeyed.Given as goal

abbrev pub ghosts-obey_since-I-Start : goal.ghosts-obey_since-I-Start
ghosts-obey_since-I-Start g a = record { calls = a.operator.reader.calls.calls; may_wait = true }

abbrev pub ghosts-obey_since-J-Start : goal.ghosts-obey_since-J-Start
ghosts-obey_since-J-Start g a = record { calls = a.operator.writer.calls.calls; may_wait = true }
