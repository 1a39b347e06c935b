use Rattle.std.specs.Prelude.{map as each}
use Rattle.std.proofs.Common.{true, false, sym, ap, subst, subst₂}
use Rattle.sqlite.specs.Held.{state}
use Rattle.world.specs.World.{World}
use Rattle.tables.proofs.FailureLemmas.{was_clean}
use Rattle.statements.specs.Calls.{ChangesAt}
use Rattle.setup.specs.Parts.{IsJudged, is_fit, part_of_teams}
use Rattle.statements.proofs.ChangeLemmas.{spares_at}
use Rattle.statements.proofs.ExtractLemmas.{stands_ready}
use Rattle.setup.proofs.PutLemmas.{spares_when, spared_at, not_written}
use Rattle.setup.proofs.copy.copy_teams.Goals as goal

pub returns-in_err-judged-clause-changes : goal.returns-in_err-judged-clause-changes
returns-in_err-judged-clause-changes g c clean good w x sw sx =
    let old = state g.F.Store c.args.fresh.now in
    let new = state g.F.Store c.judge.new.fresh in
    let next = part_of_teams (each (λ team. team.now) c.args.teams.now) w in
    subst (λ b. ChangesAt old new b x next) (sym (not_written c.from_residual.result c.from_residual.ensures.0))
    (spared_at old new x next c.judge.ensures.spares_too)

pub returns-in-NoTeam-clause-verdict : goal.returns-in-NoTeam-clause-verdict
returns-in-NoTeam-clause-verdict g c clean good w x sw sx =
    subst (IsJudged w x (each (λ team. team.now) c.args.teams.now)) c.in-NoTeam.is (c.in_ok-judged.ensures.verdict clean good w x sw sx).0

pub returns-in-NoTeam-clause-changes : goal.returns-in-NoTeam-clause-changes
returns-in-NoTeam-clause-changes g c clean good w x sw sx =
    spared_at (state g.F.Store c.args.fresh.now) (state g.F.Store c.judge.new.fresh) x (part_of_teams (each (λ team. team.now) c.args.teams.now) w)
    c.judge.ensures.spares_too

pub returns-in-NotEmpty-clause-verdict : goal.returns-in-NotEmpty-clause-verdict
returns-in-NotEmpty-clause-verdict g c clean good w x sw sx =
    subst (IsJudged w x (each (λ team. team.now) c.args.teams.now)) c.in-NotEmpty.is (c.in_ok-judged.ensures.verdict clean good w x sw sx).0

pub returns-in-NotEmpty-clause-changes : goal.returns-in-NotEmpty-clause-changes
returns-in-NotEmpty-clause-changes g c clean good w x sw sx =
    spared_at (state g.F.Store c.args.fresh.now) (state g.F.Store c.judge.new.fresh) x (part_of_teams (each (λ team. team.now) c.args.teams.now) w)
    c.judge.ensures.spares_too

pub returns-in_ok-write_part-in-Fit-clause-reads : goal.returns-in_ok-write_part-in-Fit-clause-reads
returns-in_ok-write_part-in-Fit-clause-reads g c =
    let mid = state g.S.Store c.judge.new.source in
    spares_when (state g.S.Store c.args.source.now) mid (state g.S.Store c.write_part.new.source) c.judge.ensures.spares
    c.write_part.ensures.clean
    (λ w stands. c.write_part.ensures.reads
    (stands_ready mid w (λ clean. c.in_ok-judged.ensures.ready clean w stands (ap is_fit c.in-Fit.is))
    (c.judge.ensures.spares.stays w stands)))

pub returns-in_ok-write_part-in-Fit-clause-verdict : goal.returns-in_ok-write_part-in-Fit-clause-verdict
returns-in_ok-write_part-in-Fit-clause-verdict g c clean good w x sw sx =
    let late = was_clean (state g.S.Store c.judge.new.source) (state g.S.Store c.write_part.new.source)
    c.write_part.ensures.clean clean in
    let late_too = was_clean (state g.F.Store c.judge.new.fresh) (state g.F.Store c.write_part.new.fresh)
    c.write_part.ensures.clean_too good in
    subst (IsJudged w x (each (λ team. team.now) c.args.teams.now)) c.in-Fit.is (c.in_ok-judged.ensures.verdict late late_too w x sw sx).0

pub returns-in_ok-write_part-in-Fit-clause-changes : goal.returns-in_ok-write_part-in-Fit-clause-changes
returns-in_ok-write_part-in-Fit-clause-changes g c clean good w x sw sx =
    let source = state g.S.Store c.judge.new.source in
    let old = state g.F.Store c.args.fresh.now in
    let mid = state g.F.Store c.judge.new.fresh in
    let new = state g.F.Store c.write_part.new.fresh in
    let next = part_of_teams (each (λ team. team.now) c.args.teams.now) w in
    let late = was_clean source (state g.S.Store c.write_part.new.source) c.write_part.ensures.clean clean in
    let late_too = was_clean mid new c.write_part.ensures.clean_too good in
    let verdict = c.in_ok-judged.ensures.verdict late late_too w x sw sx in
    let fit = subst (IsJudged w x (each (λ team. team.now) c.args.teams.now)) c.in-Fit.is verdict.0 in
    let still = c.judge.ensures.spares.stays w sw.0 in
    let ready = stands_ready source w (λ clean. c.in_ok-judged.ensures.ready clean w sw.0 (ap is_fit c.in-Fit.is))
    still in
    let change = c.in_ok-write_part-in-Fit.ensures.changes ready (λ _. verdict.1 (ap is_fit c.in-Fit.is)) clean w still
    sw.1 fit.1 in
    spares_at old mid new true x next c.judge.ensures.spares_too c.write_part.ensures.clean_too
    (subst₂ (λ (u v : World). ChangesAt mid new true u v) (sym fit.3) fit.2 change)

pub returns-in_err-write_part-in-Fit-clause-reads : goal.returns-in_err-write_part-in-Fit-clause-reads
returns-in_err-write_part-in-Fit-clause-reads g c =
    let mid = state g.S.Store c.judge.new.source in
    spares_when (state g.S.Store c.args.source.now) mid (state g.S.Store c.write_part.new.source) c.judge.ensures.spares
    c.write_part.ensures.clean
    (λ w stands. c.write_part.ensures.reads
    (stands_ready mid w (λ clean. c.in_ok-judged.ensures.ready clean w stands (ap is_fit c.in-Fit.is))
    (c.judge.ensures.spares.stays w stands)))

pub returns-in_err-write_part-in-Fit-clause-changes : goal.returns-in_err-write_part-in-Fit-clause-changes
returns-in_err-write_part-in-Fit-clause-changes g c clean good w x sw sx =
    let source = state g.S.Store c.judge.new.source in
    let old = state g.F.Store c.args.fresh.now in
    let mid = state g.F.Store c.judge.new.fresh in
    let new = state g.F.Store c.write_part.new.fresh in
    let next = part_of_teams (each (λ team. team.now) c.args.teams.now) w in
    let late = was_clean source (state g.S.Store c.write_part.new.source) c.write_part.ensures.clean clean in
    let late_too = was_clean mid new c.write_part.ensures.clean_too good in
    let verdict = c.in_ok-judged.ensures.verdict late late_too w x sw sx in
    let fit = subst (IsJudged w x (each (λ team. team.now) c.args.teams.now)) c.in-Fit.is verdict.0 in
    let still = c.judge.ensures.spares.stays w sw.0 in
    let ready = stands_ready source w (λ clean. c.in_ok-judged.ensures.ready clean w sw.0 (ap is_fit c.in-Fit.is))
    still in
    let change = c.in_err-write_part-in-Fit.ensures.changes ready (λ _. verdict.1 (ap is_fit c.in-Fit.is)) clean w still
    sw.1 fit.1 in
    subst (λ b. ChangesAt old new b x next)
    (sym (not_written c.from_residual-in_err-write_part-in-Fit.result
    c.from_residual-in_err-write_part-in-Fit.ensures.0))
    (spares_at old mid new false x next c.judge.ensures.spares_too c.write_part.ensures.clean_too
    (subst₂ (λ (u v : World). ChangesAt mid new false u v) (sym fit.3) fit.2 change))
