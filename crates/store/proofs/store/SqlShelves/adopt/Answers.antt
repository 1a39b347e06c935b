use Rattle.std.proofs.Common.{inl, inr}
use Rattle.store.proofs.store.SqlShelves.adopt.Goals as goal

pub returns-in-Err-clause-left : goal.returns-in-Err-clause-left
returns-in-Err-clause-left g c clean opened db may = elim (c.in-Err.ensures.left clean db may) [
  | inl was ↦ inl (g.met.S.Store.settled c.args.conn.store db opened was)
  | inr first ↦ inr first
]
