use Rattle.std.proofs.Common.{[], Err, subst}
use Rattle.sqlite.specs.Held.{state}
use Rattle.sqlite.specs.State.{HasCleanDisk, QueriesRow}
use Rattle.sqlite.specs.Values.{bound}
use Rattle.tables.proofs.FailureLemmas.{not_run}
use Rattle.statements.proofs.CallLemmas.{quiet_spares, row_spares, was_open, first_open, none_open, first_same}
use Rattle.statements.proofs.CallLemmas.{none_same, first_selected, none_selected}
use Rattle.statements.proofs.query.find_row.Goals as goal

pub returns-in_err-prepare-clause-spares : goal.returns-in_err-prepare-clause-spares
returns-in_err-prepare-clause-spares g c =
    quiet_spares (state g.S.Store c.args.conn.now) (state g.S.Store c.prepare.new.self) c.prepare.ensures.survives
    (λ clean. not_run _ _ c.args.sql.now [] _ (c.in_err-prepare.ensures.err clean []))

pub returns-in-Ok-clause-spares : goal.returns-in-Ok-clause-spares
returns-in-Ok-clause-spares g c =
    row_spares c.args.sql.now (bound c.args.params.now) c.requires.plain (state g.S.Store c.args.conn.now)
    (state g.S.Store c.prepare.new.self) (state g.S.Store c.query_row.new.self)
    (λ clean. (c.in_ok-prepare.ensures.ok clean).1) c.prepare.ensures.survives c.query_row.ensures.survives
    c.query_row.result c.query_row.ensures.row

pub returns-in-Err-QueryReturnedNoRows-clause-spares : goal.returns-in-Err-QueryReturnedNoRows-clause-spares
returns-in-Err-QueryReturnedNoRows-clause-spares g c =
    row_spares c.args.sql.now (bound c.args.params.now) c.requires.plain (state g.S.Store c.args.conn.now)
    (state g.S.Store c.prepare.new.self) (state g.S.Store c.query_row.new.self)
    (λ clean. (c.in_ok-prepare.ensures.ok clean).1) c.prepare.ensures.survives c.query_row.ensures.survives
    c.query_row.result c.query_row.ensures.row

pub returns-in-Ok-clause-row : goal.returns-in-Ok-clause-row
returns-in-Ok-clause-row g c clean w stands =
    let sql = c.args.sql.now in
    let params = bound c.args.params.now in
    let old = state g.S.Store c.args.conn.now in
    let mid = state g.S.Store c.prepare.new.self in
    let new = state g.S.Store c.query_row.new.self in
    let prepared = λ (clean : HasCleanDisk mid). (c.in_ok-prepare.ensures.ok clean).1 in (
      was_open sql params c.requires.plain old mid new prepared c.prepare.ensures.survives c.query_row.ensures.survives
          c.requires.tables clean w stands,
      first_open sql params c.requires.plain old mid new prepared c.prepare.ensures.survives
          c.query_row.ensures.survives c.requires.tables clean w stands c.in-Ok.row (c.in-Ok.ensures.row clean),
      first_selected sql params c.requires.plain old mid new prepared c.prepare.ensures.survives
          c.query_row.ensures.survives c.requires.tables clean w stands c.in-Ok.row (c.in-Ok.ensures.row clean),
    )

pub returns-in-Err-QueryReturnedNoRows-clause-row : goal.returns-in-Err-QueryReturnedNoRows-clause-row
returns-in-Err-QueryReturnedNoRows-clause-row g c clean w stands =
    let sql = c.args.sql.now in
    let params = bound c.args.params.now in
    let old = state g.S.Store c.args.conn.now in
    let mid = state g.S.Store c.prepare.new.self in
    let new = state g.S.Store c.query_row.new.self in
    let prepared = λ (clean : HasCleanDisk mid). (c.in_ok-prepare.ensures.ok clean).1 in (
      was_open sql params c.requires.plain old mid new prepared c.prepare.ensures.survives c.query_row.ensures.survives
          c.requires.tables clean w stands,
      none_open sql params c.requires.plain old mid new prepared c.prepare.ensures.survives c.query_row.ensures.survives
          c.requires.tables clean w stands
          (subst (λ e. QueriesRow sql params mid new (Err e)) c.in-Err-QueryReturnedNoRows.field-0-is
          (c.in-Err-QueryReturnedNoRows.ensures.row clean)),
      none_selected sql params c.requires.plain old mid new prepared c.prepare.ensures.survives
          c.query_row.ensures.survives c.requires.tables clean w stands
          (subst (λ e. QueriesRow sql params mid new (Err e)) c.in-Err-QueryReturnedNoRows.field-0-is
          (c.in-Err-QueryReturnedNoRows.ensures.row clean)),
    )

pub returns-in-Err : goal.returns-in-Err
returns-in-Err g c = record {
  spares =
      row_spares c.args.sql.now (bound c.args.params.now) c.requires.plain (state g.S.Store c.args.conn.now)
      (state g.S.Store c.prepare.new.self) (state g.S.Store c.query_row.new.self)
      (λ clean. (c.in_ok-prepare.ensures.ok clean).1) c.prepare.ensures.survives c.query_row.ensures.survives
      c.query_row.result c.query_row.ensures.row;
  row = λ _ _ _. tt;
  same = λ _ _ _. tt;
}

pub returns-in-Ok-clause-same : goal.returns-in-Ok-clause-same
returns-in-Ok-clause-same g c clean w stands =
    let sql = c.args.sql.now in
    let params = bound c.args.params.now in
    let old = state g.S.Store c.args.conn.now in
    let mid = state g.S.Store c.prepare.new.self in
    let new = state g.S.Store c.query_row.new.self in
    let prepared = λ (clean : HasCleanDisk mid). (c.in_ok-prepare.ensures.ok clean).1 in
    first_same sql params c.requires.plain old mid new prepared c.prepare.ensures.survives c.query_row.ensures.survives
    c.requires.tables clean w stands c.in-Ok.row (c.in-Ok.ensures.row clean)

pub returns-in-Err-QueryReturnedNoRows-clause-same : goal.returns-in-Err-QueryReturnedNoRows-clause-same
returns-in-Err-QueryReturnedNoRows-clause-same g c clean w stands =
    let sql = c.args.sql.now in
    let params = bound c.args.params.now in
    let old = state g.S.Store c.args.conn.now in
    let mid = state g.S.Store c.prepare.new.self in
    let new = state g.S.Store c.query_row.new.self in
    let prepared = λ (clean : HasCleanDisk mid). (c.in_ok-prepare.ensures.ok clean).1 in
    none_same sql params c.requires.plain old mid new prepared c.prepare.ensures.survives c.query_row.ensures.survives
    c.requires.tables clean w stands
    (subst (λ e. QueriesRow sql params mid new (Err e)) c.in-Err-QueryReturnedNoRows.field-0-is
    (c.in-Err-QueryReturnedNoRows.ensures.row clean))
