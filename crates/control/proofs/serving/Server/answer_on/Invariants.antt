use Rattle.control.proofs.serving.Server.answer_on.Given as goal

abbrev pub ghosts-answer_lent : goal.ghosts-answer_lent
ghosts-answer_lent g a = record {
  name = a.shelves.ghost_name;
  was = (g.S.Shelves.shown a.shelves.now).stands;
  held = a.is_held;
  before = a.traffic;
}
