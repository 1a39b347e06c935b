use Rattle.commands.proofs.ImportLists.{field_is_there}
use Rattle.commands.proofs.import_list.field.Goals as goal

pub unreachable-requires : goal.unreachable-requires
unreachable-requires c = field_is_there _ _ c.requires c.in-None.ensures.value
