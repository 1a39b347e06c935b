use Rattle.interleave.proofs.MeanwhileLemmas.{as_it_was}
use Rattle.catalog.proofs.TurnLemmas.{fails_cut, line_cut, line_on, not_output_fails}
use Rattle.catalog.proofs.walk.print_line.Goals as goal

pub returns-in-Ok-clause-prints : goal.returns-in-Ok-clause-prints
returns-in-Ok-clause-prints g c = λ s.
    rw c.restart.ensures.bytes
    (line_on _ _ c.args.line.now _ _ g.T.Turns.halts c.take.result c.in-Ok.ensures.puts (c.take.ensures.stays s)
    c.take.ensures.halts)

pub returns-in-Ok-clause-fails : goal.returns-in-Ok-clause-fails
returns-in-Ok-clause-fails g c =
    rw c.restart.ensures.writes
    (not_output_fails _ _ c.in-Ok.ensures.fails.no_fewer c.take.result c.take.ensures.output)

pub returns-in-Err-clause-prints : goal.returns-in-Err-clause-prints
returns-in-Err-clause-prints g c = λ s.
    line_cut _ c.args.line.now _ _ g.T.Turns.halts c.in-Err.why c.in-Err.ensures.puts

pub returns-in-Err-clause-went : goal.returns-in-Err-clause-went
returns-in-Err-clause-went g c = g.met.T.Turns.rests _ _ _ (as_it_was _)

pub returns-in-Err-clause-fails : goal.returns-in-Err-clause-fails
returns-in-Err-clause-fails g c = fails_cut _ _ c.in-Err.why c.in-Err.ensures.fails
