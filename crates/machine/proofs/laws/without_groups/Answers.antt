use Rattle.machine.proofs.Ungrouped.{each_is_of_one, replies_without_groups, lists_without_groups}
use Rattle.machine.proofs.laws.without_groups.Goals as goal

pub returns : goal.returns
returns c = record { worlds = each_is_of_one; event = replies_without_groups; list = lists_without_groups }
