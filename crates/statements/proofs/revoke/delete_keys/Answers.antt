use Rattle.std.proofs.Common.{refl}
use Rattle.sqlite.specs.Command.TheVariants.{Delete}
use Rattle.sqlite.specs.Held.{state}
use Rattle.sqlite.specs.Listing.{understood}
use Rattle.sqlite_tied.specs.Compute.{everything}
use Rattle.world.specs.World.{without_keys_on}
use Rattle.statements.proofs.CopyKeyLemmas.{by_shelf}
use Rattle.statements.proofs.WriteLemmas.{deleting, done_changes, failed_changes}
use Rattle.statements.proofs.RevokeLemmas.{keys_by, revoke_params, revoke_all_turns}
use Rattle.statements.proofs.revoke.delete_keys.Goals as goal

pub returns-in-Err-clause-changes : goal.returns-in-Err-clause-changes
unfolding understood everything
returns-in-Err-clause-changes g c opened w =
    let old = state g.S.Store c.args.conn.now in
    let new = state g.S.Store c.execute.new.self in
    let shelf = c.args.shelf.now in
    let ran = rw c.params-to_sql.ensures at c.in-Err.ensures in
    failed_changes _ (revoke_params shelf) (Delete 2 (keys_by by_shelf)) refl (refl, refl)
    (deleting 2 (keys_by by_shelf)) old new
    (g.met.S.Store.settled c.args.conn.now.store) opened w (without_keys_on w shelf) (revoke_all_turns w shelf old)
    ran.survives
    c.in-Err.error ran.runs

pub returns-in-Ok-clause-changes : goal.returns-in-Ok-clause-changes
unfolding understood everything
returns-in-Ok-clause-changes g c opened w =
    let old = state g.S.Store c.args.conn.now in
    let new = state g.S.Store c.execute.new.self in
    let shelf = c.args.shelf.now in
    let ran = rw c.params-to_sql.ensures at c.in-Ok.ensures in
    done_changes _ (revoke_params shelf) (Delete 2 (keys_by by_shelf)) refl (refl, refl) (deleting 2 (keys_by by_shelf))
    old new
    (g.met.S.Store.settled c.execute.new.self.store) opened w (without_keys_on w shelf) (revoke_all_turns w shelf old)
    ran.survives c.in-Ok.field-0 ran.runs
