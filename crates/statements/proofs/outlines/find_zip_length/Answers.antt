use Rattle.std.proofs.Common.{sym, subst, to_z-of_z, w64, SFits, rules}
use Rattle.sqlite.specs.Held.{state}
use Rattle.sqlite.specs.Effect.{Database}
use Rattle.tables.proofs.FailureLemmas.{was_clean}
use Rattle.statements.specs.Outlines.{IsFound}
use Rattle.statements.specs.Reading.{IsZip}
use Rattle.statements.proofs.CallLemmas.{spares_then}
use Rattle.statements.proofs.OutlineLemmas.{none_length, whole_length}
use Rattle.statements.proofs.outlines.find_zip_length.Goals as goal

pub returns-in_default-clause-answer : goal.returns-in_default-clause-answer
returns-in_default-clause-answer g c clean w stands zip is =
    let range : SFits w64 c.args.id = search rules in
    let h = rw (to_z-of_z {w = w64} {z = c.args.id} range) at (c.in_ok-last.ensures.answer clean w stands) in
    none_length zip (subst (IsFound zip) c.in_default.is (h zip is))

pub returns-in_err-ends_with-clause-spares : goal.returns-in_err-ends_with-clause-spares
returns-in_err-ends_with-clause-spares g c = spares_then _ _ _ c.find_last.ensures.spares c.ends_with.ensures.spares

pub returns-then-not-branch-clause-spares : goal.returns-then-not-branch-clause-spares
returns-then-not-branch-clause-spares g c = spares_then _ _ _ c.find_last.ensures.spares c.ends_with.ensures.spares

pub returns-clause-spares : goal.returns-clause-spares
returns-clause-spares g c = spares_then _ _ _ c.find_last.ensures.spares c.ends_with.ensures.spares

pub returns-clause-answer : goal.returns-clause-answer
returns-clause-answer g c clean w stands zip is =
    let old = state g.S.Store c.args.conn.now in
    let mid = state g.S.Store c.find_last.new.conn in
    let new = state g.S.Store c.ends_with.new.conn in
    let was = was_clean mid new c.ends_with.ensures.spares.clean clean in
    let same = c.in_ok-last.ensures.same was w stands in
    let range : SFits w64 c.args.id = search rules in
    let id = to_z-of_z {w = w64} {z = c.args.id} range in
    let found = rw id at (c.in_ok-last.ensures.answer was w stands) in
    let ends = rw id at (c.in_ok-ends_with.ensures.answer clean w (c.find_last.ensures.spares.stays w stands)) in
    let own = subst (λ (d : Database). IsZip d.trees c.args.id zip) (sym same) is in
    let size = subst (IsFound zip) c.in-Some.is (found zip is) in
    whole_length zip c.in-Some.last size (ends c.if-not-branch.false zip own size)
