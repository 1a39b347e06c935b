use Rattle.commands.proofs.Openings.{team_stands}
use Rattle.commands.proofs.memory.add_first_team.Goals as goal

pub returns-in-Ok-clause-ok : goal.returns-in-Ok-clause-ok
returns-in-Ok-clause-ok c = team_stands _ _ c.args.team.now _ c.in-Ok.ensures.does c.requires.begins c.requires.named
