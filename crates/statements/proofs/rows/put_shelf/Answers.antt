use Rattle.std.proofs.Common.{Ok, option_copied, refl}
use Rattle.sqlite.specs.Held.{state}
use Rattle.sqlite.specs.Listing.{understood}
use Rattle.sqlite.specs.State.{ExecutesInside}
use Rattle.sqlite_tied.specs.Compute.{everything}
use Rattle.statements.proofs.AddTeamLemmas.{shelf_params, shelf_put, parent_bound}
use Rattle.statements.proofs.rows.put_shelf.Goals as goal

pub returns-clause-puts : goal.returns-clause-puts
unfolding understood everything
returns-clause-puts g c clean filling =
    let old = state g.F.Store c.args.tx.now.conn.now in
    let new = state g.F.Store c.execute.new.self.conn.now in
    let name = c.args.name.now in
    let parent = option_copied c.args.parent in
    let ran : ExecutesInside 0 _ (shelf_params name parent) old new (Ok c.in_ok-execute.field-0) =
    rw (
      c.params-to_sql.ensures,
      c.params-to_sql-2.ensures,
      parent_bound c.args.parent,
    ) at (c.in_ok-execute.ensures.runs clean filling.inside) in
    shelf_put _ refl (refl, refl) old new name parent c.in_ok-execute.field-0 filling ran
