use Rattle.std.proofs.Common.{sym, ◌∙◌, true≢false}
use Rattle.sqlite.specs.Held.{state}
use Rattle.tables.proofs.FailureLemmas.{was_clean}
use Rattle.tables.proofs.FitTests.{refused}
use Rattle.setup.proofs.BlankLemmas.{more_shelves, more_keys, blank_decides}
use Rattle.statements.proofs.CallLemmas.{spares_then}
use Rattle.setup.proofs.judge.is_blank.Goals as goal

pub returns-then-branch-clause-answer : goal.returns-then-branch-clause-answer
returns-then-branch-clause-answer g c clean x stands is =
    let first = c.in_ok-has_other_shelf.ensures.answer clean x stands in
    (first.0, refused (more_shelves x (first.1.0 c.if-branch.true)))

pub returns-in_err-has_key-clause-spares : goal.returns-in_err-has_key-clause-spares
returns-in_err-has_key-clause-spares g c = spares_then _ _ _ c.has_other_shelf.ensures.spares c.has_key.ensures.spares

pub returns-then-branch-2-clause-spares : goal.returns-then-branch-2-clause-spares
returns-then-branch-2-clause-spares g c = spares_then _ _ _ c.has_other_shelf.ensures.spares c.has_key.ensures.spares

pub returns-then-branch-2-clause-answer : goal.returns-then-branch-2-clause-answer
returns-then-branch-2-clause-answer g c clean x stands is =
    let second = c.in_ok-has_key.ensures.answer clean x (c.has_other_shelf.ensures.spares.stays x stands) in
    (second.0, refused (more_keys x (second.1.0 c.if-branch-2.true)))

pub returns-in_err-found-clause-spares : goal.returns-in_err-found-clause-spares
returns-in_err-found-clause-spares g c =
    spares_then _ _ _ (spares_then _ _ _ c.has_other_shelf.ensures.spares c.has_key.ensures.spares)
    c.has_entry.ensures.spares

pub returns-clause-spares : goal.returns-clause-spares
returns-clause-spares g c =
    spares_then _ _ _ (spares_then _ _ _ c.has_other_shelf.ensures.spares c.has_key.ensures.spares)
    c.has_entry.ensures.spares

pub returns-clause-answer : goal.returns-clause-answer
returns-clause-answer g c clean x stands is =
    let mid = state g.F.Store c.has_key.new.conn in
    let late = was_clean mid (state g.F.Store c.has_entry.new.conn) c.has_entry.ensures.spares.clean clean in
    let before = was_clean (state g.F.Store c.has_other_shelf.new.conn) mid c.has_key.ensures.spares.clean late in
    let one = c.has_other_shelf.ensures.spares.stays x stands in
    let first = c.in_ok-has_other_shelf.ensures.answer before x stands in
    let second = c.in_ok-has_key.ensures.answer late x one in
    let third = c.in_ok-found.ensures.answer clean x (c.has_key.ensures.spares.stays x one) in (
      third.0,
      blank_decides x is (λ o. true≢false (sym (first.1.1 o) ∙ c.if-branch.false))
          (λ k. true≢false (sym (second.1.1 k) ∙ c.if-branch-2.false)) c.in_ok-found.found third.1,
    )
