use Rattle.std.proofs.Common.{refl, subst, ◌∙◌}
use Rattle.sqlite.specs.Held.{state}
use Rattle.sqlite.specs.Effect.{Database}
use Rattle.world.specs.World.{first_on}
use Rattle.tables.proofs.FailureLemmas.{was_clean}
use Rattle.statements.specs.Reading.{IsRowOf, HasRow}
use Rattle.statements.proofs.CallLemmas.{spares_then}
use Rattle.statements.proofs.ExtractLemmas.{spares_itself}
use Rattle.statements.proofs.HeadingLemmas.{texts_of, found_next, none_next, none_left}
use Rattle.statements.proofs.entries.row_seen.Goals as goal

pub loop-shelf-init : goal.loop-shelf-init
loop-shelf-init g c = (spares_itself (state g.S.Store c.args.conn.now), λ clean w stands. (refl, refl))

pub loop-shelf-preserved : goal.loop-shelf-preserved
loop-shelf-preserved g c =
    let mid = state g.S.Store c.loop-shelf.conn in
    let new = state g.S.Store c.row_at.new.conn in
    let so_far = c.loop-shelf.invariant in (
      spares_then _ _ _ so_far.0 c.row_at.ensures.spares,
      λ clean w stands.
          let before = so_far.1 (was_clean mid new c.row_at.ensures.spares.clean clean) w stands in
          let there = so_far.0.stays w stands in
          let all = first_on w (texts_of c.args.shelves.now) c.args.path.now c.args.version.now in
          let none = subst (HasRow mid.now.trees _) c.in_default.is (c.in_ok-row.ensures.answer clean w there).2 in (
            c.in_ok-row.ensures.same clean w there
                ∙ before.0,
            none_next w c.args.shelves.now c.loop-shelf.shelf-index c.args.path.now c.args.version.now all
                before.1 c.loop-shelf-test.true none,
          ),
    )

pub returns-in_err-row-clause-spares : goal.returns-in_err-row-clause-spares
returns-in_err-row-clause-spares g c = spares_then _ _ _ c.loop-shelf.invariant.0 c.row_at.ensures.spares

pub returns-in-Some-clause-spares : goal.returns-in-Some-clause-spares
returns-in-Some-clause-spares g c = spares_then _ _ _ c.loop-shelf.invariant.0 c.row_at.ensures.spares

pub returns-in-Some-clause-same : goal.returns-in-Some-clause-same
returns-in-Some-clause-same g c clean w stands =
    let mid = state g.S.Store c.loop-shelf.conn in
    let new = state g.S.Store c.row_at.new.conn in
    let so_far = c.loop-shelf.invariant in
    c.in_ok-row.ensures.same clean w (so_far.0.stays w stands)
    ∙ (so_far.1 (was_clean mid new c.row_at.ensures.spares.clean clean) w stands).0

pub returns-in-Some-clause-answer : goal.returns-in-Some-clause-answer
returns-in-Some-clause-answer g c clean w stands =
    let mid = state g.S.Store c.loop-shelf.conn in
    let new = state g.S.Store c.row_at.new.conn in
    let so_far = c.loop-shelf.invariant in
    let all = first_on w (texts_of c.args.shelves.now) c.args.path.now c.args.version.now in
    let before = so_far.1 (was_clean mid new c.row_at.ensures.spares.clean clean) w stands in
    let found : IsRowOf mid.now.trees all c.in-Some.row =
    found_next w c.args.shelves.now c.loop-shelf.shelf-index c.args.path.now c.args.version.now all before.1
    c.loop-shelf-test.true mid.now.trees c.in-Some.row
    (subst (HasRow mid.now.trees _) c.in-Some.is (c.in_ok-row.ensures.answer clean w (so_far.0.stays w stands)).2) in
    subst (λ (d : Database). IsRowOf d.trees all c.in-Some.row) before.0 found

pub returns-clause-same : goal.returns-clause-same
returns-clause-same g c clean w stands = (c.loop-shelf.invariant.1 clean w stands).0

pub returns-clause-answer : goal.returns-clause-answer
returns-clause-answer g c clean w stands =
    let all = first_on w (texts_of c.args.shelves.now) c.args.path.now c.args.version.now in
    none_left w c.args.shelves.now c.loop-shelf.shelf-index c.args.path.now c.args.version.now all
    (c.loop-shelf.invariant.1 clean w stands).1 c.loop-shelf-test.false
