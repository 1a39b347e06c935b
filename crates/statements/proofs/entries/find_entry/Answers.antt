use Rattle.std.proofs.Common.{map, sym, subst, to_z-of_z, w64, SFits, rules}
use Rattle.sqlite.specs.Held.{state}
use Rattle.sqlite.specs.Effect.{Database}
use Rattle.world.specs.World.{first_on}
use Rattle.statements.specs.Reading.{HasRow, IsZip}
use Rattle.tables.proofs.FailureLemmas.{was_clean}
use Rattle.statements.proofs.CallLemmas.{spares_then}
use Rattle.statements.proofs.HeadingLemmas.{entry_of_row}
use Rattle.statements.proofs.entries.find_entry.Goals as goal

pub returns-in_default-clause-answer : goal.returns-in_default-clause-answer
returns-in_default-clause-answer g c clean w stands =
    let old = state g.S.Store c.args.conn.now in
    let seen = first_on w (map (λ s. s.now) c.args.shelves.now) c.args.path.now c.args.version.now in
    sym (subst (HasRow old.now.trees seen) c.in_default.is (c.in_ok-row.ensures.answer clean w stands))

pub returns-in_err-zip-clause-spares : goal.returns-in_err-zip-clause-spares
returns-in_err-zip-clause-spares g c = spares_then _ _ _ c.row_seen.ensures.spares c.find_zip.ensures.spares

pub returns-clause-spares : goal.returns-clause-spares
returns-clause-spares g c = spares_then _ _ _ c.row_seen.ensures.spares c.find_zip.ensures.spares

pub returns-clause-answer : goal.returns-clause-answer
returns-clause-answer g c clean w stands =
    let old = state g.S.Store c.args.conn.now in
    let mid = state g.S.Store c.row_seen.new.conn in
    let new = state g.S.Store c.find_zip.new.conn in
    let seen = first_on w (map (λ s. s.now) c.args.shelves.now) c.args.path.now c.args.version.now in
    let was = was_clean mid new c.find_zip.ensures.spares.clean clean in
    let range : SFits w64 c.in-Some.row.id = search rules in
    let z = rw (to_z-of_z {w = w64} {z = c.in-Some.row.id} range) at (c.in_ok-zip.ensures.answer clean w
    (c.row_seen.ensures.spares.stays w stands)) in
    let same = c.in_ok-row.ensures.same was w stands in
    let it = subst (HasRow old.now.trees seen) c.in-Some.is (c.in_ok-row.ensures.answer was w stands) in
    entry_of_row old.now.trees seen c.in-Some.row c.in_ok-zip.zip it
    (z.1 it.entry.zip (subst (λ (d : Database). IsZip d.trees c.in-Some.row.id it.entry.zip) (sym same) it.zip))
