use Rattle.machine.proofs.Isolated.{marks_are_as_long, marks_are_at_their_moment, only_others_go, purge_is_the_same}
use Rattle.machine.proofs.laws.purge.Goals as goal

pub returns : goal.returns
returns c = record {
  length = marks_are_as_long;
  moment = marks_are_at_their_moment;
  others = only_others_go;
  same =
      purge_is_the_same;
}
