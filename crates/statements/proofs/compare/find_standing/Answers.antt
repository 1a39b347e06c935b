use Rattle.std.proofs.Common.{map, true, false, sym, ap, subst, ◌∙◌, to_z-of_z, w64, SFits, rules}
use Rattle.sqlite.specs.Held.{state}
use Rattle.sqlite.specs.Effect.{Database}
use Rattle.world.specs.declared.entry.Entry.{Entry}
use Rattle.world.specs.World.{first_on}
use Rattle.statements.specs.Reading.{HasRow, IsZip}
use Rattle.tables.proofs.FailureLemmas.{was_clean}
use Rattle.statements.proofs.CallLemmas.{spares_then}
use Rattle.statements.proofs.StandingLemmas.{standing_whole, standing_other, standing_lacks}
use Rattle.statements.proofs.compare.find_standing.Goals as goal

pub returns-in_default-clause-answer : goal.returns-in_default-clause-answer
returns-in_default-clause-answer g c clean w stands =
    let old = state g.S.Store c.args.conn.now in
    let seen = first_on w (map (λ s. s.now) c.args.shelves.now) c.args.path.now c.args.version.now in
    standing_lacks seen c.args.entry.now
    (subst (HasRow old.now.trees seen) c.in_default.is (c.in_ok-row.ensures.answer clean w stands))

pub returns-then-not-is_same_heading-clause-answer : goal.returns-then-not-is_same_heading-clause-answer
returns-then-not-is_same_heading-clause-answer g c clean w stands =
    let old = state g.S.Store c.args.conn.now in
    let seen = first_on w (map (λ s. s.now) c.args.shelves.now) c.args.path.now c.args.version.now in
    let it = subst (HasRow old.now.trees seen) c.in-Some.is (c.in_ok-row.ensures.answer clean w stands) in
    standing_other old.now.trees seen c.in-Some.row c.args.entry.now it
    (sym c.is_same_heading.ensures ∙ c.if-not-is_same_heading.true)

pub returns-in_err-is_same_zip-clause-spares : goal.returns-in_err-is_same_zip-clause-spares
returns-in_err-is_same_zip-clause-spares g c = spares_then _ _ _ c.row_seen.ensures.spares c.is_same_zip.ensures.spares

pub returns-then-branch-clause-spares : goal.returns-then-branch-clause-spares
returns-then-branch-clause-spares g c = spares_then _ _ _ c.row_seen.ensures.spares c.is_same_zip.ensures.spares

pub returns-then-branch-clause-answer : goal.returns-then-branch-clause-answer
returns-then-branch-clause-answer g c clean w stands =
    let old = state g.S.Store c.args.conn.now in
    let mid = state g.S.Store c.row_seen.new.conn in
    let new = state g.S.Store c.is_same_zip.new.conn in
    let seen = first_on w (map (λ s. s.now) c.args.shelves.now) c.args.path.now c.args.version.now in
    let was = was_clean mid new c.is_same_zip.ensures.spares.clean clean in
    let range : SFits w64 c.in-Some.row.id = search rules in
    let z = rw (to_z-of_z {w = w64} {z = c.in-Some.row.id} range, ap (λ (x : Entry). x.zip) c.entry.view_is)
    at (c.in_ok-is_same_zip.ensures.answer clean w (c.row_seen.ensures.spares.stays w stands)) in
    let same = c.in_ok-row.ensures.same was w stands in
    let it = subst (HasRow old.now.trees seen) c.in-Some.is (c.in_ok-row.ensures.answer was w stands) in
    let zips = sym c.if-branch.true
    ∙ z.1 it.entry.zip (subst (λ (d : Database). IsZip d.trees c.in-Some.row.id it.entry.zip) (sym same) it.zip) in
    standing_whole old.now.trees seen c.in-Some.row c.args.entry.now it true
    (sym c.is_same_heading.ensures ∙ c.if-not-is_same_heading.false) zips

pub returns-clause-spares : goal.returns-clause-spares
returns-clause-spares g c = spares_then _ _ _ c.row_seen.ensures.spares c.is_same_zip.ensures.spares

pub returns-clause-answer : goal.returns-clause-answer
returns-clause-answer g c clean w stands =
    let old = state g.S.Store c.args.conn.now in
    let mid = state g.S.Store c.row_seen.new.conn in
    let new = state g.S.Store c.is_same_zip.new.conn in
    let seen = first_on w (map (λ s. s.now) c.args.shelves.now) c.args.path.now c.args.version.now in
    let was = was_clean mid new c.is_same_zip.ensures.spares.clean clean in
    let range : SFits w64 c.in-Some.row.id = search rules in
    let z = rw (to_z-of_z {w = w64} {z = c.in-Some.row.id} range, ap (λ (x : Entry). x.zip) c.entry.view_is)
    at (c.in_ok-is_same_zip.ensures.answer clean w (c.row_seen.ensures.spares.stays w stands)) in
    let same = c.in_ok-row.ensures.same was w stands in
    let it = subst (HasRow old.now.trees seen) c.in-Some.is (c.in_ok-row.ensures.answer was w stands) in
    let zips = sym c.if-branch.false
    ∙ z.1 it.entry.zip (subst (λ (d : Database). IsZip d.trees c.in-Some.row.id it.entry.zip) (sym same) it.zip) in
    standing_whole old.now.trees seen c.in-Some.row c.args.entry.now it false
    (sym c.is_same_heading.ensures ∙ c.if-not-is_same_heading.false) zips
