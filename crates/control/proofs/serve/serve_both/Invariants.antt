use Rattle.control.proofs.serve.serve_both.Given as goal

abbrev pub ghosts-serve_lent : goal.ghosts-serve_lent
ghosts-serve_lent g a = record { name = a.shelves.ghost_name }
