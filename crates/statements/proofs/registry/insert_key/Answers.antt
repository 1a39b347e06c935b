use Rattle.std.proofs.Common.{refl}
use Rattle.sqlite.specs.Held.{state}
use Rattle.sqlite.specs.Listing.{understood}
use Rattle.sqlite_tied.specs.Compute.{everything}
use Rattle.sqlite.specs.Command.TheVariants.{Insert}
use Rattle.sqlite.specs.Source.TheVariants.{Values}
use Rattle.world.specs.declared.entry.Holder.{Holder}
use Rattle.world.specs.World.{with_key}
use Rattle.statements.proofs.WriteLemmas.{inserting, done_changes, failed_changes}
use Rattle.statements.proofs.AddKeyLemmas.{terms, key_params, add_key_turns}
use Rattle.statements.proofs.registry.insert_key.Goals as goal

pub returns-in-Err-clause-changes : goal.returns-in-Err-clause-changes
unfolding understood everything
returns-in-Err-clause-changes g c opened w unused =
    let old = state g.S.Store c.args.conn.now in
    let new = state g.S.Store c.execute.new.self in
    let it : Holder = record { shelf = c.args.shelf.now; right = c.args.right } in
    let ran = rw (
      c.params-to_sql.ensures,
      c.params-to_sql-2.ensures,
      c.params-to_sql-3.ensures,
      c.may_publish-publishes.ensures,
    ) at c.in-Err.ensures in
    failed_changes _ (key_params c.args.token.now it) (Insert 2 (Values terms 4)) refl (refl, refl)
    (inserting 2 (Values terms 4)) old new
    (g.met.S.Store.settled c.args.conn.now.store) opened w (with_key w c.args.token.now it)
    (add_key_turns w c.args.token.now it unused old)
    ran.survives c.in-Err.error ran.runs

pub returns-in-Ok-clause-changes : goal.returns-in-Ok-clause-changes
unfolding understood everything
returns-in-Ok-clause-changes g c opened w unused =
    let old = state g.S.Store c.args.conn.now in
    let new = state g.S.Store c.execute.new.self in
    let it : Holder = record { shelf = c.args.shelf.now; right = c.args.right } in
    let ran = rw (
      c.params-to_sql.ensures,
      c.params-to_sql-2.ensures,
      c.params-to_sql-3.ensures,
      c.may_publish-publishes.ensures,
    ) at c.in-Ok.ensures in
    done_changes _ (key_params c.args.token.now it) (Insert 2 (Values terms 4)) refl (refl, refl)
    (inserting 2 (Values terms 4)) old new (g.met.S.Store.settled c.execute.new.self.store) opened w
    (with_key w c.args.token.now it)
    (add_key_turns w c.args.token.now it unused old) ran.survives c.in-Ok.field-0 ran.runs
