use Rattle.std.proofs.Common.{arith}
use Rattle.std.proofs.lemmas.Result.{err_from_is_err_and}
use Rattle.sqlite_trees.proofs.Doubt.{no_doubt}
use Rattle.sqlite.specs.Files.{file_state}
use Rattle.sqlite.specs.State.{HasCleanDisk}
use Rattle.tables.proofs.FailureLemmas.{was_clean}
use Rattle.store.proofs.FileLemmas.{keeps_fresh}
use Rattle.store.proofs.OpenLemmas.{begins_store, begins_empty, bad_is_no_store, no_database_is_no_store}
use Rattle.store.proofs.OpenLemmas.{recovers_store, keeps_trees}
use Rattle.store.proofs.open.open_over.Goals as goal

pub returns-in-Ok-clause-begins : goal.returns-in-Ok-clause-begins
returns-in-Ok-clause-begins g c clean =
    let it = c.in-Ok.ensures.opens clean in
    let old = file_state c.in_ok-connection.connection in
    let new = file_state c.in-Ok.shelves.conn in
    let was = was_clean old new c.in-Ok.ensures.clean clean in
    let opened = c.in_ok-connection.ensures.opened was in (
      it.world,
      begins_empty new c.in-Ok.shelves.kept _ it.world c.in-Ok.ensures.none_kept it.begins,
      recovers_store old new _ opened.1 opened.0.is_open opened.0.clean (c.in_ok-connection.ensures.found was) it,
    )

pub returns-in-Ok-clause-found : goal.returns-in-Ok-clause-found
returns-in-Ok-clause-found g c clean w held =
    let old = file_state c.in_ok-connection.connection in
    let new = file_state c.in-Ok.shelves.conn in
    let was = was_clean old new c.in-Ok.ensures.clean clean in
    let opened = c.in_ok-connection.ensures.opened was in
    begins_empty new c.in-Ok.shelves.kept _ w c.in-Ok.ensures.none_kept
    (begins_store old new _ opened.1 opened.0.is_open opened.0.clean (c.in_ok-connection.ensures.found was)
    (c.in-Ok.ensures.opens clean) w held)

pub returns-in-Ok-clause-begun : goal.returns-in-Ok-clause-begun
returns-in-Ok-clause-begun g c clean =
    c.in_ok-connection.ensures.begun
    (was_clean (file_state c.in_ok-connection.connection) (file_state c.in-Ok.shelves.conn) c.in-Ok.ensures.clean
    clean)

pub returns-in-Err-clause-bad : goal.returns-in-Err-clause-bad
returns-in-Err-clause-bad g c bad clean =
    let old = file_state c.in_ok-connection.connection in
    let here : HasCleanDisk (file_state c.in-Err.conn) =
    omega (arith, c.into_store.ensures.quiet.clean, no_doubt _ clean) in
    let was = was_clean old (file_state c.in-Err.conn) c.in-Err.ensures.was_clean here in
    let opened = c.in_ok-connection.ensures.opened was in
    bad_is_no_store old _ opened.1 opened.0.is_open opened.0.clean (c.in_ok-connection.ensures.found was)
    (c.in-Err.ensures.bad here bad)

pub returns-in_err-connection-clause-bad : goal.returns-in_err-connection-clause-bad
returns-in_err-connection-clause-bad g c =
    let p = err_from_is_err_and c.from_residual.result c.from_residual.ensures.1 in
    rw (p.1, p.2) (λ bad clean. no_database_is_no_store _ (c.in_err-connection.ensures.bad bad clean))

pub returns-in-Err-clause-keeps : goal.returns-in-Err-clause-keeps
returns-in-Err-clause-keeps g c clean =
    let old = file_state c.in_ok-connection.connection in
    let here : HasCleanDisk (file_state c.in-Err.conn) =
    omega (arith, c.into_store.ensures.quiet.clean, no_doubt _ clean) in
    let was = was_clean old (file_state c.in-Err.conn) c.in-Err.ensures.was_clean here in
    let opened = c.in_ok-connection.ensures.opened was in
    λ db may. keeps_trees old (file_state c.in-Err.conn) _ opened.1 opened.0.is_open opened.0.clean
    (c.in_ok-connection.ensures.found was)
    (c.in-Err.ensures.left here) db (c.into_store.ensures.quiet.outcomes db may)

pub returns-in_err-connection-clause-keeps : goal.returns-in_err-connection-clause-keeps
returns-in_err-connection-clause-keeps g c =
    let p = err_from_is_err_and c.from_residual.result c.from_residual.ensures.1 in
    rw (p.1, p.2) (λ clean. keeps_fresh c.args.files c.requires.settled _ (c.in_err-connection.ensures.unharmed clean))
