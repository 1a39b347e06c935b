-- A store of some teams' part writes for them what the whole writes.
use Rattle.std.proofs.Common.{◌≡◌, sym, subst}
use Rattle.std.specs.Prelude.{map}
use Rattle.world.specs.World.{World}
use Rattle.machine.specs.Machine.{answered, after_all, request_reply}
use Rattle.machine.specs.Parts.{IsNotFound}
use Rattle.machine.proofs.Parts.{run_leads}
use Rattle.engine.specs.Request.{request_of}
use Rattle.engine.specs.Exchange.{event_of, answer_of}
use Rattle.engine.specs.AnsweredEvent.{event_at, answer_at}
use Rattle.engine.proofs.PartLemmas.{answered_alike, written_alike, all_requested, not_found_or_unavailable}
use Rattle.engine.proofs.FaultlessLemmas.{faultless_events}
use Rattle.store.specs.Parts.{part_of, chains}
use Rattle.runner.specs.Parts.{AllOf}
use Rattle.runner.specs.Written.{TeamsAreWrittenTheSame, OthersOfTeamsAreWrittenNotFound}
use Rattle.runner.proofs.Parts.{teams_are_told_the_same, others_of_teams_are_not_found}

pub teams_are_written_the_same : TeamsAreWrittenTheSame
teams_are_written_the_same w new other ts xs ys is are run again same of =
    written_alike xs ys same
    (teams_are_told_the_same w new other ts (map event_at xs) (map event_at ys) (map answer_at xs) (map answer_at ys) is
    are run again (answered_alike xs ys same)
    (subst (AllOf w (chains w ts)) (sym (faultless_events xs)) of))

pub others_of_teams_are_written_not_found : OthersOfTeamsAreWrittenNotFound
others_of_teams_are_written_not_found w mid new ts k before x far by run last =
    let part : World = part_of w (chains w ts) in
    let es = answered (map event_of before) (map answer_of before) in
    let at : mid ≡ after_all part es = run_leads part mid (map event_of before) (map answer_of before) run in
    let found = others_of_teams_are_not_found w ts k es (request_of x.message) far by (all_requested before) in
    not_found_or_unavailable mid new x (subst (λ u. IsNotFound (request_reply u (request_of x.message))) (sym at) found)
    last
