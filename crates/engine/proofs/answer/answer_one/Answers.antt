use Rattle.std.proofs.Common.{ap}
use Rattle.framing.specs.Framing.{Framing}
use Rattle.engine.specs.Causes.{most_reads}
use Rattle.engine.proofs.CausesLemmas.{caused_ended}
use Rattle.engine.proofs.FirstLemmas.{first_handled}
use Rattle.engine.proofs.IsolationLemmas.{alike}
use Rattle.engine.proofs.KnownLemmas.{first_known, first_followed}
use Rattle.engine.proofs.answer.answer_one.Goals as goal

pub returns-clause-heard : goal.returns-clause-heard
returns-clause-heard g c = first_handled
    _ _ _ _ _ _ _ c.new-session.result.framer c.answer_next-handled.new.self.framer c.answer_next-handled.result _
    (ap (λ (f : Framing). f.held) c.new-session.ensures.framer) c.answer_next-handled.ensures.answers c.finish.ensures.bytes
    c.finish.ensures.ends

pub returns-clause-serves : goal.returns-clause-serves
returns-clause-serves g c =
    let laws = g.met.R.Hear in
    rw (← laws.left_is c.args.reader.now, ← laws.left_is c.answer_next-handled.new.reader)
    (first_known _ _ _ _ _ _ _ (laws.sound c.answer_next-handled.new.reader) (returns-clause-heard g c))

pub returns-clause-isolated : goal.returns-clause-isolated
returns-clause-isolated g c = alike _ _ _ _ _ _ (g.met.S.Shelves.sound c.args.shelves.now) _ (returns-clause-serves g c)

pub returns-clause-isolated_heard : goal.returns-clause-isolated_heard
returns-clause-isolated_heard g c bytes more gives may =
    alike _ _ _ _ _ _ (g.met.S.Shelves.sound c.args.shelves.now) _
    (first_followed _ _ _ _ _ _ _ bytes more gives may (returns-clause-heard g c))

pub returns-clause-asks : goal.returns-clause-asks
returns-clause-asks g c =
    rw (ap (λ (f : Framing). f.held) c.new-session.ensures.framer) at c.answer_next-handled.ensures.asks

pub returns-clause-cause : goal.returns-clause-cause
returns-clause-cause g c = caused_ended
    most_reads (g.R.Hear.reads c.args.reader.now) (g.R.Hear.reads c.answer_next-handled.new.reader)
    (g.W.Tell.writes c.args.writer.now) (g.W.Tell.writes c.answer_next-handled.new.writer)
    (g.W.Tell.writes c.finish.new.writer)
    c.answer_next-handled.result _
    (rw c.new-session.ensures.reads at c.answer_next-handled.ensures.cause)
    c.answer_next-handled.ensures.later_writes c.finish.ensures.later c.finish.ensures.ends c.finish.ensures.fails
