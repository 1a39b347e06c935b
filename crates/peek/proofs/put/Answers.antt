use Rattle.std.proofs.Common.{rules, get_or-take, get_or-drop}
use Rattle.std.proofs.lemmas.List.{places}
use Rattle.peek.proofs.put.Goals as goal

pub returns-then-start-end-clause-written : goal.returns-then-start-end-clause-written
returns-then-start-end-clause-written c i inside low high = let h = c.copy_from_slice.ensures in
    search (rules, places, get_or-take, get_or-drop)
