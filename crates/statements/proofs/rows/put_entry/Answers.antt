use Rattle.std.proofs.Common.{sym, ap, subst, to_z-of_z, w64, SFits, rules}
use Rattle.sqlite.specs.Held.{state}
use Rattle.world.specs.declared.entry.Entry.{Entry}
use Rattle.statements.specs.Rows.{GoesOn}
use Rattle.statements.proofs.ChangeLemmas.{not_ok, on_weaker}
use Rattle.statements.proofs.GoingLemmas.{goes_on_then}
use Rattle.tables.proofs.FailureLemmas.{was_clean}
use Rattle.statements.proofs.rows.put_entry.Goals as goal

pub returns-in_err-id-clause-goes_on : goal.returns-in_err-id-clause-goes_on
returns-in_err-id-clause-goes_on g c =
    let old = state g.S.Store c.args.tx.now.conn.now in
    let new = state g.S.Store c.put_version.new.tx.conn.now in
    subst (GoesOn old new) (sym (not_ok c.from_residual.result c.from_residual.ensures.0)) c.in_err-id.ensures.goes_on

pub returns-clause-goes_on : goal.returns-clause-goes_on
returns-clause-goes_on g c =
    let old = state g.S.Store c.args.tx.now.conn.now in
    let mid = state g.S.Store c.put_version.new.tx.conn.now in
    let new = state g.S.Store c.insert_zip.new.tx.conn.now in
    goes_on_then old mid new _ c.in_ok-id.ensures.goes_on c.insert_zip.ensures.goes_on

pub returns-clause-added : goal.returns-clause-added
returns-clause-added g c clean filling =
    let mid = state g.S.Store c.put_version.new.tx.conn.now in
    let new = state g.S.Store c.insert_zip.new.tx.conn.now in
    let late = was_clean mid new c.insert_zip.ensures.goes_on.survives.clean clean in
    let first = c.in_ok-id.ensures.puts late filling in
    let range : SFits w64 c.in_ok-id.id = search rules in
    let adds = rw (
      to_z-of_z {w = w64} {z = c.in_ok-id.id} range,
      ap (λ (x : Entry). x.zip) c.entry.view_is,
    ) at (c.insert_zip.ensures.adds clean first.2) in
    on_weaker c.insert_zip.result
    (λ it. (
      record { id = c.in_ok-id.id; is_given = first.0; mid = mid.now.trees; version = first.1; zip = it.0 },
      it.1,
    )) adds
