use Rattle.std.proofs.Common.{inl}
use Rattle.sqlite.specs.Held.{state}
use Rattle.store_files.proofs.HistoryLemmas.{opened_closed}
use Rattle.control.proofs.TaskLemmas.{read_none}
use Rattle.interleave.proofs.MeanwhileLemmas.{as_it_was}
use Rattle.store.specs.Shown.{shown_with}
use Rattle.runner.proofs.copies.copy_to.Goals as goal

pub returns-in-Err-clause-turns : goal.returns-in-Err-clause-turns
returns-in-Err-clause-turns g c =
    let source = c.args.source.now in
    let shown = shown_with (state g.S.Store source.conn) source.kept source.failures in
    (source, g.met.B.Between.rests c.args.between.now source source (as_it_was shown), read_none shown)

pub returns-then-is_same-clause-turns : goal.returns-then-is_same-clause-turns
returns-then-is_same-clause-turns g c =
    let source = c.args.source.now in
    let shown = shown_with (state g.S.Store source.conn) source.kept source.failures in
    (source, g.met.B.Between.rests c.args.between.now source source (as_it_was shown), read_none shown)

pub returns-in-Err-open-clause-turns : goal.returns-in-Err-open-clause-turns
returns-in-Err-open-clause-turns g c =
    let source = c.args.source.now in
    let shown = shown_with (state g.S.Store source.conn) source.kept source.failures in
    (source, g.met.B.Between.rests c.args.between.now source source (as_it_was shown), read_none shown)

pub returns-clause-came : goal.returns-clause-came
returns-clause-came g c = inl (record {
  begun = c.in-Ok.file.store;
  ended = c.copy_into-told.new.fresh;
  begins = c.in-Ok.ensures.begun.0;
  does = c.copy_into-told.ensures.came;
  done = opened_closed _ _ _ _ _ _ _ c.in-Ok.ensures.begun.1 c.in-Ok.ensures.opened c.close.ensures;
})
