use Rattle.world.proofs.Groups.{each_has_a_kind, sees_its_group, sees_itself_and_common}
use Rattle.world.proofs.laws.groups.Goals as goal

pub returns : goal.returns
returns c = record { kinds = each_has_a_kind; sight = sees_its_group; alone = sees_itself_and_common }
