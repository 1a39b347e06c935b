use Rattle.machine.proofs.Latest.{latest_is_the_top, none_is_latest, latest_is_told, latest_is_not_found}
use Rattle.machine.proofs.laws.latest_version.Goals as goal

pub returns : goal.returns
returns c = record {
  top = latest_is_the_top;
  none = none_is_latest;
  told = latest_is_told;
  not_found =
      latest_is_not_found;
}
