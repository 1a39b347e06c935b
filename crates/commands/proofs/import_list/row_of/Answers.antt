use Rattle.std.proofs.Common.{arith}
use Rattle.commands.proofs.ImportLists.{five_fields}
use Rattle.commands.proofs.import_list.row_of.Goals as goal

pub returns : goal.returns
returns c =
    five_fields _ _ _ _ _ _ (omega (arith, c.len.ensures)) c.field.ensures c.field-2.ensures c.field-3.ensures
    c.field-4.ensures c.field-5.ensures
