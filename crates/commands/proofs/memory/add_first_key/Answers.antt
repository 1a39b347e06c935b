use Rattle.commands.proofs.Openings.{key_stands}
use Rattle.commands.proofs.memory.add_first_key.Goals as goal

pub returns-in-Ok-clause-ok : goal.returns-in-Ok-clause-ok
returns-in-Ok-clause-ok c =
    key_stands _ _ c.args.team.now _ c.args.key.now c.in-Ok.ensures.does c.requires.begins c.requires.team_named
    c.requires.named
