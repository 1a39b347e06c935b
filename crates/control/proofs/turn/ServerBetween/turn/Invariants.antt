use Rattle.control.proofs.turn.ServerBetween.turn.Given as goal

abbrev pub ghosts-take_turn : goal.ghosts-take_turn
ghosts-take_turn g a = record {
  name = a.shelves.ghost_name;
  was = (g.S.Shelves.shown a.shelves.now).stands;
  before = a.news.now;
}
