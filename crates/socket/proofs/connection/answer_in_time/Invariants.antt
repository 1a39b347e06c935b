use Rattle.std.proofs.Common.{true}
use Rattle.socket.proofs.connection.answer_in_time.Given as goal

abbrev pub ghosts-answer_since-K-Start : goal.ghosts-answer_since-K-Start
ghosts-answer_since-K-Start g a = record { calls = a.reader.calls.calls; may_wait = true }

abbrev pub ghosts-answer_since-J-Start : goal.ghosts-answer_since-J-Start
ghosts-answer_since-J-Start g a = record { calls = a.writer.calls.calls; may_wait = true }
