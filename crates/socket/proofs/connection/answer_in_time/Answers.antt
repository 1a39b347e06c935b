use Rattle.std.proofs.Common.{Some}
use Rattle.engine.proofs.IsolationLemmas.{alike}
use Rattle.engine.proofs.KnownLemmas.{first_known, first_followed}
use Rattle.socket.proofs.connection.answer_in_time.Goals as goal

pub returns-clause-serves : goal.returns-clause-serves
returns-clause-serves g c = first_known _ _ _ _
    (Some c.args.writer.noted.bytes) (Some c.answer_since.result.writer.noted.bytes) _
    c.answer_since.result.reader.ended c.answer_since.ensures.heard

pub returns-clause-isolated : goal.returns-clause-isolated
returns-clause-isolated g c = alike _ _ _ _
    (Some c.args.writer.noted.bytes) (Some c.answer_since.result.writer.noted.bytes)
    (g.met.S.Shelves.sound c.args.shelves.now) _ (returns-clause-serves g c)

pub returns-clause-isolated_heard : goal.returns-clause-isolated_heard
returns-clause-isolated_heard g c bytes more gives may = alike _ _ _ _
    (Some c.args.writer.noted.bytes) (Some c.answer_since.result.writer.noted.bytes)
    (g.met.S.Shelves.sound c.args.shelves.now) _
    (first_followed _ _ _ _
    (Some c.args.writer.noted.bytes) (Some c.answer_since.result.writer.noted.bytes) _
    bytes more gives may c.answer_since.ensures.heard)
