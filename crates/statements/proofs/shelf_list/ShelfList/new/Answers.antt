use Rattle.std.specs.Prelude.{string_bytes}
use Rattle.statements.proofs.ShelfListLemmas.{first_listed}
use Rattle.statements.proofs.shelf_list.ShelfList.new.Goals as goal

pub invariant_of-result : goal.invariant_of-result
invariant_of-result c = first_listed c.new.result.items c.insert.new.self c.new-names.result
    (string_bytes c.in_ok-from_str.field-0) c.new.ensures.items c.in_ok-insert.ensures.ok c.new-names.ensures
    c.in_ok-from_str.ensures.ok
