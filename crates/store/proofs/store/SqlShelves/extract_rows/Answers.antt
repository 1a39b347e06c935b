use Rattle.std.specs.Prelude.{map as each}
use Rattle.std.proofs.Common.{Ok, Err, ap, subst}
use Rattle.sqlite.specs.Held.{state}
use Rattle.tables.proofs.FailureLemmas.{was_clean}
use Rattle.statements.specs.Calls.{ChangesAt}
use Rattle.setup.specs.Parts.{AreTeams, IsJudged, is_fit, is_written, part_of_teams}
use Rattle.setup.specs.declared.judge.Judged.{Judged}
use Rattle.store_files.specs.declared.refusal.StoreRefusal.TheVariants as refusal
use Rattle.setup.proofs.PartLemmas.{chains_world}
use Rattle.store.proofs.ExtractedLemmas.{is_read, fills_at, fault_tells, done_is_fit, fault_is_fit}
use Rattle.store.proofs.store.SqlShelves.extract_rows.Goals as goal

pub returns-in-Ok-Fit-clause-extracts : goal.returns-in-Ok-Fit-clause-extracts
returns-in-Ok-Fit-clause-extracts g c =
    let ts = each (λ team. team.now) c.args.teams.now in
    let fresh = state g.F.Store c.args.fresh.now.conn in
    let end = state g.F.Store c.copy_teams.new.fresh in
    let is = c.in-Ok-Fit.field-0-is in
    record {
      reads = is_read (state g.S.Store c.args.self.now.conn) (state g.S.Store c.copy_teams.new.source)
          c.copy_teams.ensures.reads;
      honest = was_clean fresh end c.copy_teams.ensures.clean;
      spares = λ unfit. absurd (done_is_fit unfit);
      at = λ clean good w x sw sx.
          fills_at fresh end (AreTeams w ts) (part_of_teams ts w) x (Ok tt) good sx (chains_world w ts sw.1)
          (subst (λ (j : Judged). ChangesAt fresh end (is_written (Ok j)) x (part_of_teams ts w)) is
          (c.in-Ok-Fit.ensures.changes clean good w x sw sx))
          (let fit = subst (IsJudged w x ts) is (c.in-Ok-Fit.ensures.verdict clean good w x sw sx) in (fit.0, fit.3));
    }

pub returns-in-Ok-NoTeam-clause-extracts : goal.returns-in-Ok-NoTeam-clause-extracts
returns-in-Ok-NoTeam-clause-extracts g c =
    let ts = each (λ team. team.now) c.args.teams.now in
    let fresh = state g.F.Store c.args.fresh.now.conn in
    let end = state g.F.Store c.copy_teams.new.fresh in
    let is = c.in-Ok-NoTeam.field-0-is in
    record {
      reads = is_read (state g.S.Store c.args.self.now.conn) (state g.S.Store c.copy_teams.new.source)
          c.copy_teams.ensures.reads;
      honest = was_clean fresh end c.copy_teams.ensures.clean;
      spares = λ _. is_read fresh end (c.in-Ok-NoTeam.ensures.spares (ap is_fit is));
      at = λ clean good w x sw sx.
          fills_at fresh end (AreTeams w ts) (part_of_teams ts w) x (Err refusal.NoTeam) good sx
          (chains_world w ts sw.1)
          (subst (λ (j : Judged). ChangesAt fresh end (is_written (Ok j)) x (part_of_teams ts w)) is
          (c.in-Ok-NoTeam.ensures.changes clean good w x sw sx))
          (subst (IsJudged w x ts) is (c.in-Ok-NoTeam.ensures.verdict clean good w x sw sx));
    }

pub returns-in-Ok-NotEmpty-clause-extracts : goal.returns-in-Ok-NotEmpty-clause-extracts
returns-in-Ok-NotEmpty-clause-extracts g c =
    let ts = each (λ team. team.now) c.args.teams.now in
    let fresh = state g.F.Store c.args.fresh.now.conn in
    let end = state g.F.Store c.copy_teams.new.fresh in
    let is = c.in-Ok-NotEmpty.field-0-is in
    record {
      reads = is_read (state g.S.Store c.args.self.now.conn) (state g.S.Store c.copy_teams.new.source)
          c.copy_teams.ensures.reads;
      honest = was_clean fresh end c.copy_teams.ensures.clean;
      spares = λ _. is_read fresh end (c.in-Ok-NotEmpty.ensures.spares (ap is_fit is));
      at = λ clean good w x sw sx.
          fills_at fresh end (AreTeams w ts) (part_of_teams ts w) x (Err refusal.NotEmpty) good sx
          (chains_world w ts sw.1)
          (subst (λ (j : Judged). ChangesAt fresh end (is_written (Ok j)) x (part_of_teams ts w)) is
          (c.in-Ok-NotEmpty.ensures.changes clean good w x sw sx))
          (subst (IsJudged w x ts) is (c.in-Ok-NotEmpty.ensures.verdict clean good w x sw sx));
    }

pub returns-in-Err-Source-clause-extracts : goal.returns-in-Err-Source-clause-extracts
returns-in-Err-Source-clause-extracts g c =
    let ts = each (λ team. team.now) c.args.teams.now in
    let fresh = state g.F.Store c.args.fresh.now.conn in
    let end = state g.F.Store c.copy_teams.new.fresh in
    let named = c.refusal_of.ensures.named in
    record {
      reads = is_read (state g.S.Store c.args.self.now.conn) (state g.S.Store c.copy_teams.new.source)
          c.copy_teams.ensures.reads;
      honest = was_clean fresh end c.copy_teams.ensures.clean;
      spares = λ unfit. absurd (fault_is_fit c.refusal_of.result named.1 named.2 unfit);
      at = λ clean good w x sw sx.
          fills_at fresh end (AreTeams w ts) (part_of_teams ts w) x (Err c.refusal_of.result) good sx
          (chains_world w ts sw.1)
          (c.in-Err-Source.ensures.changes clean good w x sw sx)
          (fault_tells (AreTeams w ts) x c.refusal_of.result named.0 named.1 named.2);
    }

pub returns-clause-extracts : goal.returns-clause-extracts
returns-clause-extracts g c =
    let ts = each (λ team. team.now) c.args.teams.now in
    let fresh = state g.F.Store c.args.fresh.now.conn in
    let end = state g.F.Store c.copy_teams.new.fresh in
    let named = c.refusal_of-in-Err-Fresh.ensures.named in
    record {
      reads = is_read (state g.S.Store c.args.self.now.conn) (state g.S.Store c.copy_teams.new.source)
          c.copy_teams.ensures.reads;
      honest = was_clean fresh end c.copy_teams.ensures.clean;
      spares = λ unfit. absurd (fault_is_fit c.refusal_of-in-Err-Fresh.result named.1 named.2 unfit);
      at = λ clean good w x sw sx.
          fills_at fresh end (AreTeams w ts) (part_of_teams ts w) x (Err c.refusal_of-in-Err-Fresh.result) good sx
          (chains_world w ts sw.1) (c.in-Err-Fresh.ensures.changes clean good w x sw sx)
          (fault_tells (AreTeams w ts) x c.refusal_of-in-Err-Fresh.result named.0 named.1 named.2);
    }
