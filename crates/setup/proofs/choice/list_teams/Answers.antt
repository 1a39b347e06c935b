use Rattle.std.proofs.Common.{◌≡◌, ◌∙◌, ℕ, List, [], length, take_all, sym, ap, subst, arith, true≢false}
use Rattle.std.specs.Prelude.{◌==◌}
use Rattle.std.proofs.lemmas.List.{map_more}
use Rattle.std.specs.Borrow.{Bor}
use Rattle.sqlite.specs.Held.{state}
use Rattle.tables.proofs.FailureLemmas.{was_clean}
use Rattle.statements.proofs.CallLemmas.{spares_then}
use Rattle.statements.proofs.ExtractLemmas.{spares_itself}
use Rattle.setup.specs.Parts.{AddsTeam}
use Rattle.setup.proofs.PartLemmas.{SeenSoFar, none_so_far, one_so_far, all_so_far, not_all, has_named, some_named}
use Rattle.setup.proofs.PartLemmas.{past_none}
use Rattle.setup.proofs.choice.list_teams.Goals as goal

pub loop-team-init : goal.loop-team-init
loop-team-init g c = (
  spares_itself (state g.S.Store c.args.source.now),
  λ clean w stands. (
    (λ never. absurd (omega (arith, never))),
    λ is.
        subst (SeenSoFar w []) (sym c.in_ok-list.ensures) (none_so_far w),
  ),
)

pub loop-team-preserved : goal.loop-team-preserved
loop-team-preserved g c =
    let mid = state g.S.Store c.loop-team.source in
    let new = state g.S.Store c.add_team.new.source in
    let nothing : Bor (List ℕ) = record { ref_ptr = (0, 0); now = [] } in (
      spares_then _ _ _ c.loop-team.invariant.0 c.add_team.ensures.spares,
      λ clean w stands.
          let before = c.loop-team.invariant.1 (was_clean mid new c.add_team.ensures.spares.clean clean) w stands in
          let added = c.in_ok-longer.ensures.answer clean w (c.loop-team.invariant.0.stays w stands) in
          let more = map_more (λ (s : Bor (List ℕ)). s.now) c.args.teams.now c.loop-team.team-index nothing
          c.loop-team-test.true in (
            (λ _. added.0),
            λ is. rw more
                (one_so_far w is _ _ _ _ (subst (AddsTeam w _ _) c.in-Some.is added.1) (before.1 is)),
          ),
    )

pub returns-in_err-longer-clause-spares : goal.returns-in_err-longer-clause-spares
returns-in_err-longer-clause-spares g c = spares_then _ _ _ c.loop-team.invariant.0 c.add_team.ensures.spares

pub returns-in_default-clause-spares : goal.returns-in_default-clause-spares
returns-in_default-clause-spares g c = spares_then _ _ _ c.loop-team.invariant.0 c.add_team.ensures.spares

pub returns-in_default-clause-answer : goal.returns-in_default-clause-answer
returns-in_default-clause-answer g c clean w stands =
    let nothing : Bor (List ℕ) = record { ref_ptr = (0, 0); now = [] } in
    let added = c.in_ok-longer.ensures.answer clean w (c.loop-team.invariant.0.stays w stands) in
    let there = has_named (λ (s : Bor (List ℕ)). s.now) c.args.teams.now c.loop-team.team-index nothing
    c.loop-team-test.true in (
      (λ never. absurd (true≢false (sym never))),
      λ is.
          not_all w _ _ c.loop-team.list there (subst (AddsTeam w _ c.loop-team.list) c.in_default.is added.1),
    )

pub returns-clause-answer : goal.returns-clause-answer
returns-clause-answer g c clean w stands =
    let before = c.loop-team.invariant.1 clean w stands in
    let whole = take_all c.loop-team.team-index c.args.teams.now c.loop-team-test.false in
    let none : length c.args.teams.now ≡ 0 → ⊥ = λ e. true≢false (sym (c.if-is_empty.ensures ∙ ap (λ n. n == 0) e)) in
    let some = some_named (λ (s : Bor (List ℕ)). s.now) c.args.teams.now none in (
      (λ _. before.0 (past_none (length c.args.teams.now) c.loop-team.team-index none c.loop-team-test.false)),
      λ is.
          all_so_far w _ c.loop-team.list some (rw whole at (before.1 is)),
    )
