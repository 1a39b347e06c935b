use Rattle.std.proofs.Common.{[]}
use Rattle.std.proofs.KnownBytes.{Appends-nil}
use Rattle.control.proofs.HearingLemmas.{hears_line, obeys_told}
use Rattle.control.proofs.obeying.answer.Goals as goal

pub returns-clause-obeys : goal.returns-clause-obeys
returns-clause-obeys g c = λ got came came_new is reads.
    obeys_told _ _ _ _ _ _ came came_new _ _ _ [] (Appends-nil _) _ c.tell.result _
    (hears_line _ _ _ _ _ _ _ _ _ _ _ c.tell.result _ reads
    (c.handle-handled.ensures.heeds got is)) c.tell.ensures.same c.tell.ensures.tells
