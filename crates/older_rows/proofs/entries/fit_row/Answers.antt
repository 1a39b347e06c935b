use Rattle.std.proofs.Common.{sym, ◌∙◌, subst, to_z-of_z, w64, SFits, rules}
use Rattle.world.specs.World.{place}
use Rattle.older_rows.specs.Entries.{IsFitRow}
use Rattle.older_rows.proofs.EntryLemmas.{fit_row}
use Rattle.older_rows.proofs.entries.fit_row.Goals as goal

pub returns : goal.returns
returns c =
    let s = c.in-Some-2.shown in
    let zip = rw c.in-Some.is at c.in_ok-zip.ensures in
    let shows = rw c.in-Some-2.is at c.in_ok-shown.ensures in
    let range : SFits w64 c.in-Some-4.id = search rules in
    let it = fit_row c.args.format c.args.row.now c.in-Some-4.id s.shelf.now s.path.now s.version.now c.in-Some.zip.now
    s.entry c.in-Some-3.version
    zip shows (sym c.in-Some-3.is ∙ c.in_ok-version.ensures) (rw c.in-Some-4.is at c.in_ok-id.ensures.found) in (
      it.0,
      subst (λ n. IsFitRow c.args.format c.args.row.now n (place s.shelf.now s.path.now s.version.now) s.entry)
          (sym (to_z-of_z {w = w64} {z = c.in-Some-4.id} range)) it.1,
    )
