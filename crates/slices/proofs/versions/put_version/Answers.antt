use Rattle.std.proofs.Common.{Ok, Some, [], to_z-of_z, w64, SFits, rules, refl}
use Rattle.sqlite.specs.Held.{state}
use Rattle.sqlite.specs.Listing.{understood}
use Rattle.sqlite_tied.specs.Compute.{everything}
use Rattle.sqlite.specs.State.{ExecutesInside}
use Rattle.statements.proofs.AddEntryLemmas.{version_params, text_bound}
use Rattle.statements.proofs.CopyRowLemmas.{version_copied}
use Rattle.slices.proofs.versions.put_version.Goals as goal

pub returns-clause-puts : goal.returns-clause-puts
unfolding understood everything
returns-clause-puts g c clean fits filling =
    let old = state g.F.Store c.args.tx.now.conn.now in
    let new = state g.F.Store c.execute.new.self.conn.now in
    let p = fits.0 in
    let h = fits.1 in
    let shows = fits.2 in
    let id = c.in_ok-id.id in
    let range : SFits w64 id = search rules in
    let ran : ExecutesInside 0 _ (version_params (Some id) p (record { gomod = h.gomod; zip = []; time = h.time })) old
    new (Ok c.in_ok-execute.field-0) =
    rw (
      to_z-of_z {w = w64} {z = id} range,
      c.in_ok-get_ref.ensures.ok.1,
      c.in_ok-get_ref-2.ensures.ok.1,
      c.in_ok-get_ref-3.ensures.ok.1,
      c.in_ok-get_ref-4.ensures.ok.1,
      c.in_ok-get_ref-5.ensures.ok.1,
      c.in_ok-get_ref-6.ensures.ok.1,
      c.in_ok-get_ref-7.ensures.ok.1,
      shows.shelf,
      shows.path,
      shows.version,
      shows.time,
      text_bound h.time,
      shows.gomod,
      shows.order,
      shows.rank,
    ) at (c.in_ok-execute.ensures.runs clean filling.inside) in
    version_copied _ refl (refl, refl) old new c.args.version.now.row id p h c.in_ok-execute.field-0
    c.in_ok-id.ensures.ok.1 shows filling ran
