use Rattle.std.proofs.Common.{◌≡◌, ℕ, List, Bor, Option, Some, false, true, option_copied, unwrap_or, sym, ap, subst}
use Rattle.std.proofs.Common.{◌∙◌, rules}
use Rattle.sqlite.specs.Held.{state}
use Rattle.world.specs.declared.registry.RegistryReply.TheVariants.{Done}
use Rattle.world.specs.World.{common, with_shelf}
use Rattle.world.specs.Registry.{team_added}
use Rattle.statements.specs.Calls.{ChangesAt, Changes}
use Rattle.statements.specs.Views.{with_team_added}
use Rattle.tables.proofs.FailureLemmas.{was_clean}
use Rattle.statements.proofs.AddTeamLemmas.{lent_or, team_same, team_new, team_free}
use Rattle.statements.proofs.ChangeLemmas.{spared, refused, spares_changes, not_ok}
use Rattle.statements.proofs.registry.add_team.Goals as goal

pub returns-in_err-registered-clause-changes : goal.returns-in_err-registered-clause-changes
returns-in_err-registered-clause-changes g c =
    let old = state g.S.Store c.args.conn.now in
    let new = state g.S.Store c.judge_team.new.conn in
    let next = with_team_added c.args.name.now (option_copied c.args.group) in
    subst (λ b. Changes old new b next) (sym (not_ok c.from_residual.result c.from_residual.ensures.0))
    (spared old new next c.judge_team.ensures.spares)

pub returns-else-eq-clause-changes : goal.returns-else-eq-clause-changes
returns-else-eq-clause-changes g c =
    let old = state g.S.Store c.args.conn.now in
    let new = state g.S.Store c.judge_team.new.conn in
    let name = c.args.name.now in
    let group : Option (List ℕ) = option_copied c.args.group in
    let other : c.in_ok-registered.registered ≡ Done → ⊥ = search rules in
    refused old new (with_team_added name group) (g.met.S.Store.settled c.judge_team.new.conn.store)
    c.judge_team.ensures.spares
    (λ clean w stands. let h = c.in_ok-registered.ensures.answer clean w stands in
    (h.0, team_same w name group c.in_ok-registered.registered h.1 other))

pub returns-in_ok-insert_shelf-clause-changes : goal.returns-in_ok-insert_shelf-clause-changes
returns-in_ok-insert_shelf-clause-changes g c =
    let old = state g.S.Store c.args.conn.now in
    let mid = state g.S.Store c.judge_team.new.conn in
    let new = state g.S.Store c.insert_shelf.new.conn in
    let name = c.args.name.now in
    let group : Option (List ℕ) = option_copied c.args.group in
    let is : c.in_ok-registered.registered ≡ Done = search rules in
    let parent : c.unwrap_or.result.now ≡ unwrap_or group common = ap (λ (p : Bor (List ℕ)). p.now) c.unwrap_or.ensures
    ∙ lent_or c.args.group _ in
    spares_changes old mid new true (with_team_added name group) c.judge_team.ensures.spares
    c.insert_shelf.ensures.clean (λ w clean stands.
    let h = c.in_ok-registered.ensures.answer (was_clean mid new c.insert_shelf.ensures.clean clean) w stands in
    let free : team_added w name group ≡ Done = sym h.1 ∙ is in
    subst (ChangesAt mid new true w)
    (ap (λ (p : List ℕ). with_shelf w name (Some p)) parent ∙ sym (team_new w name group free))
    (c.in_ok-insert_shelf.ensures.changes (λ _. h.0) w (team_free w name group free)))

pub returns-in_err-insert_shelf-clause-changes : goal.returns-in_err-insert_shelf-clause-changes
returns-in_err-insert_shelf-clause-changes g c =
    let old = state g.S.Store c.args.conn.now in
    let mid = state g.S.Store c.judge_team.new.conn in
    let new = state g.S.Store c.insert_shelf.new.conn in
    let name = c.args.name.now in
    let group : Option (List ℕ) = option_copied c.args.group in
    let is : c.in_ok-registered.registered ≡ Done = search rules in
    let parent : c.unwrap_or.result.now ≡ unwrap_or group common = ap (λ (p : Bor (List ℕ)). p.now) c.unwrap_or.ensures
    ∙ lent_or c.args.group _ in
    subst (λ b. Changes old new b (with_team_added name group))
    (sym (not_ok c.from_residual-in_err-insert_shelf.result c.from_residual-in_err-insert_shelf.ensures.0))
    (spares_changes old mid new false (with_team_added name group) c.judge_team.ensures.spares
    c.insert_shelf.ensures.clean (λ w clean stands.
    let h = c.in_ok-registered.ensures.answer (was_clean mid new c.insert_shelf.ensures.clean clean) w stands in
    let free : team_added w name group ≡ Done = sym h.1 ∙ is in
    subst (ChangesAt mid new false w)
    (ap (λ (p : List ℕ). with_shelf w name (Some p)) parent ∙ sym (team_new w name group free))
    (c.in_err-insert_shelf.ensures.changes (λ _. h.0) w (team_free w name group free))))
