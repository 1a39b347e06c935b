use Rattle.std.proofs.Common.{map, take, ◌<◌, IsTrue}
use Rattle.sqlite.specs.Held.{state}
use Rattle.world.specs.World.{IsWorld}
use Rattle.statements.specs.Calls.{InEachWorld, Spares}
use Rattle.setup.proofs.PartLemmas.{SeenSoFar}
use Rattle.setup.proofs.choice.list_teams.Given as goal

-- the shelves are those that the teams so far see
abbrev pub invariant-loop-team : goal.invariant-loop-team
invariant-loop-team g l =
    Spares (state g.S.Store l.fn.source) (state g.S.Store l.source)
    × InEachWorld (state g.S.Store l.fn.source) (state g.S.Store l.source) (λ _ new w.
    (0 < l.team-index → IsTrue new.is_open)
    × (IsWorld w → SeenSoFar w (map (λ team. team.now) (take l.team-index l.teams)) l.list))
