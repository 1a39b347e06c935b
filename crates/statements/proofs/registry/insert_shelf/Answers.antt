use Rattle.std.proofs.Common.{ℕ, List, Option, option_copied, refl}
use Rattle.sqlite.specs.Held.{state}
use Rattle.sqlite.specs.Listing.{understood}
use Rattle.sqlite_tied.specs.Compute.{everything}
use Rattle.world.specs.World.{with_shelf}
use Rattle.statements.proofs.WriteLemmas.{inserting, done_changes, failed_changes}
use Rattle.statements.proofs.AddTeamLemmas.{shelf_insert, shelf_params, parent_bound, add_shelf_turns}
use Rattle.statements.proofs.registry.insert_shelf.Goals as goal

pub returns-in-Err-clause-changes : goal.returns-in-Err-clause-changes
unfolding understood everything
returns-in-Err-clause-changes g c opened w free =
    let old = state g.S.Store c.args.conn.now in
    let new = state g.S.Store c.execute.new.self in
    let name = c.args.name.now in
    let parent : Option (List ℕ) = option_copied c.args.parent in
    let ran = rw (c.params-to_sql.ensures, c.params-to_sql-2.ensures, parent_bound c.args.parent) at c.in-Err.ensures in
    failed_changes _ (shelf_params name parent) shelf_insert refl (refl, refl) (inserting 1 _) old new
    (g.met.S.Store.settled c.args.conn.now.store) opened w
    (with_shelf w name parent) (add_shelf_turns name parent w free old) ran.survives c.in-Err.error ran.runs

pub returns-in-Ok-clause-changes : goal.returns-in-Ok-clause-changes
unfolding understood everything
returns-in-Ok-clause-changes g c opened w free =
    let old = state g.S.Store c.args.conn.now in
    let new = state g.S.Store c.execute.new.self in
    let name = c.args.name.now in
    let parent : Option (List ℕ) = option_copied c.args.parent in
    let ran = rw (c.params-to_sql.ensures, c.params-to_sql-2.ensures, parent_bound c.args.parent) at c.in-Ok.ensures in
    done_changes _ (shelf_params name parent) shelf_insert refl (refl, refl) (inserting 1 _) old new
    (g.met.S.Store.settled c.execute.new.self.store) opened w (with_shelf w name parent)
    (add_shelf_turns name parent w free old)
    ran.survives c.in-Ok.field-0 ran.runs
