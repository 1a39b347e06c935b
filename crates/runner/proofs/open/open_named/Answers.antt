use Rattle.runner.proofs.open.open_named.Goals as goal

pub returns-in-Ok-clause-begun : goal.returns-in-Ok-clause-begun
returns-in-Ok-clause-begun g c = record {
  world = c.in-Ok.ensures.begins;
  found = c.in-Ok.ensures.found;
  none_failed = c.in-Ok.ensures.none_failed;
}
