use Rattle.std.proofs.Common.{◌∙◌, Some, subst, subst₂, to_z-of_z, w64, SFits, rules}
use Rattle.sqlite.specs.Held.{state}
use Rattle.world.specs.World.{place}
use Rattle.statements.specs.Added.{HasAdded}
use Rattle.older_rows.specs.Entries.{ShowsKeys}
use Rattle.older_rows.proofs.entries.EntryRowsVisit.visit.Goals as goal

pub returns-clause-puts : goal.returns-clause-puts
returns-clause-puts g c clean filling done =
    let old = state g.F.Store c.args.tx.now.conn.now in
    let new = state g.F.Store c.put_entry.new.tx.conn.now in
    let fit = c.in-Some.fit in
    let shown = fit.shown in
    let found = rw c.in-Some.is at c.in_ok-fit.ensures in
    let named = c.in_ok-keyed.ensures ∙ found.0 in
    let keys = subst (ShowsKeys c.args.self.now.format c.args.row.now) named
    (c.in_ok-shows_keys.ensures c.if-not-branch.false) in
    let follows = c.in_ok-follows.ensures c.if-not-branch-2.false in
    let put = c.in_ok-put_entry.ensures.added clean filling in
    let range : SFits w64 fit.id = search rules in
    let adds = subst₂ (λ n v.
    HasAdded (Some n) old.now.trees new.now.trees (place shown.shelf.now shown.path.now v) shown.entry)
    (to_z-of_z {w = w64} {z = fit.id} range) named put.0 in (
      (
        follows.1.0,
        record {
          id = fit.id;
          place = place shown.shelf.now shown.path.now shown.version.now;
          entry = shown.entry;
          fits = found.1;
          keys = keys;
          follows = follows.0;
          last_is = follows.1.1.0;
          many_is = follows.1.1.1;
          adds = adds;
          sound = put.1.sound;
        },
      ),
      put.1,
    )
