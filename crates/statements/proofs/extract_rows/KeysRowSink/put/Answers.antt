use Rattle.std.proofs.Common.{Ok, refl}
use Rattle.sqlite.specs.Held.{state}
use Rattle.sqlite.specs.Listing.{understood}
use Rattle.sqlite_tied.specs.Compute.{everything}
use Rattle.sqlite.specs.State.{ExecutesInside}
use Rattle.statements.proofs.AddKeyLemmas.{key_params}
use Rattle.statements.proofs.CopyKeyLemmas.{key_put}
use Rattle.statements.proofs.extract_rows.KeysRowSink.put.Goals as goal

pub returns-clause-puts : goal.returns-clause-puts
unfolding understood everything
returns-clause-puts g c clean fits filling =
    let old = state g.F.Store c.args.tx.now.conn.now in
    let new = state g.F.Store c.execute.new.self.conn.now in
    let it = fits.0 in
    let shows = fits.1 in
    let ran : ExecutesInside 0 _ (key_params it.0 it.1) old new (Ok c.in_ok-execute.field-0) =
    rw (
      c.in_ok-get_ref.ensures.ok.1,
      c.in_ok-get_ref-2.ensures.ok.1,
      c.in_ok-get_ref-3.ensures.ok.1,
      shows.0,
      shows.1,
      shows.2,
    ) at (c.in_ok-execute.ensures.runs clean filling.inside) in
    key_put _ refl (refl, refl) old new c.args.row.now it.0 it.1 c.in_ok-execute.field-0 shows filling ran
