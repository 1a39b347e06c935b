use Rattle.std.specs.Prelude.{map as each}
use Rattle.std.proofs.Common.{sym, subst}
use Rattle.cache.specs.Caches.{IsNothing}
use Rattle.setup.specs.Parts.{AreTeams, part_of_teams}
use Rattle.store.proofs.ExtractedLemmas.{fills_kept}
use Rattle.store.proofs.store.SqlShelves.extract_teams.Goals as goal

pub returns-clause-extracts : goal.returns-clause-extracts
returns-clause-extracts g c =
    let ts = each (λ team. team.now) c.args.teams.now in
    fills_kept (λ w. AreTeams w ts) (part_of_teams ts) _ _ _ _ c.args.self.now.kept
    c.extract_rows.new.self.kept c.args.fresh.now.kept c.extract_rows.new.fresh.kept _ _ _ _ c.extract_rows.result
    c.extract_rows.ensures.same.0
    (subst IsNothing (sym c.extract_rows.ensures.same.1) c.new.ensures) c.extract_rows.ensures.extracts
