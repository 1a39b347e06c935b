use Rattle.std.proofs.Common.{true≢false, sym, ap, ◌∙◌}
use Rattle.sqlite.specs.Held.{state}
use Rattle.sqlite.specs.Effect.{Database}
use Rattle.tables.proofs.FailureLemmas.{was_clean}
use Rattle.statements.proofs.CallLemmas.{spares_then}
use Rattle.statements.proofs.ChangeLemmas.{weaker}
use Rattle.statements.proofs.NumberLemmas.{chosen_below}
use Rattle.statements.proofs.numbers.chosen_number.Goals as goal

pub returns-then-branch-clause-spares : goal.returns-then-branch-clause-spares
returns-then-branch-clause-spares g c = spares_then _ _ _ c.has_last.ensures.spares c.number_below_all.ensures.spares

pub returns-then-branch-clause-answer : goal.returns-then-branch-clause-answer
returns-then-branch-clause-answer g c clean w stands =
    let old = state g.S.Store c.args.conn.now in
    let mid = state g.S.Store c.has_last.new.conn in
    let new = state g.S.Store c.number_below_all.new.conn in
    let late = was_clean mid new c.number_below_all.ensures.spares.clean clean in
    let has = (c.in_ok-has_last.ensures.answer late w stands).2.0 c.if-branch.true in
    let same = c.in_ok-has_last.ensures.same late w stands in
    let below = c.number_below_all.ensures.answer clean w (c.has_last.ensures.spares.stays w stands) in
    weaker c.number_below_all.result
    (λ number it. (
      it.0,
      chosen_below (old.now.trees 6) number has
          (rw (ap (λ (d : Database). d.trees 6) same) at it.1),
    )) below

pub returns-else-branch-clause-answer : goal.returns-else-branch-clause-answer
returns-else-branch-clause-answer g c clean w stands =
    let h = c.in_ok-has_last.ensures.answer clean w stands in
    (h.1, λ has. absurd (true≢false (sym (h.2.1 has) ∙ c.if-branch.false)))
