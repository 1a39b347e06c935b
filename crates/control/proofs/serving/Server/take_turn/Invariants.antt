use Rattle.control.proofs.serving.Server.take_turn.Given as goal

abbrev pub ghosts-serve_watched : goal.ghosts-serve_watched
ghosts-serve_watched g a = record { name = a.noting.ghost_name }
