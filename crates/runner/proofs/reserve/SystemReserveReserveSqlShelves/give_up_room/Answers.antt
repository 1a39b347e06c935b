use Rattle.std.proofs.Common.{inl, inr}
use Rattle.runner.proofs.reserve.SystemReserveReserveSqlShelves.give_up_room.Goals as goal

pub returns-clause-others : goal.returns-clause-others
returns-clause-others g c = λ given s w x only db may.
    let it = only db may in (it.0, it.1, inr (elim it.2 [ inl e ↦ e | inr e ↦ e ]))
