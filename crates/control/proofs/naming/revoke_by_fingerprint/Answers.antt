use Rattle.control.proofs.NamingLemmas.{one_named, none_named, unread_named}
use Rattle.control.proofs.naming.revoke_by_fingerprint.Goals as goal

pub returns-in-Ok-Some-clause-revokes : goal.returns-in-Ok-Some-clause-revokes
returns-in-Ok-Some-clause-revokes g c =
    let reads = rw c.in-Ok-Some.field-0-is at c.in-Ok-Some.ensures in
    one_named _ _ _ _ _ _ c.as_str-key.result _ _ _ (rw c.as_str-key.ensures reads) c.carry_out_in-told.ensures.does
    c.outcome_of.ensures c.ordered.ensures c.carry_out_in-told.ensures.room

pub returns-in-Ok-None-clause-revokes : goal.returns-in-Ok-None-clause-revokes
returns-in-Ok-None-clause-revokes g c = none_named _ _ _ _ (rw c.in-Ok-None.field-0-is at c.in-Ok-None.ensures)

pub returns-in-Err-clause-revokes : goal.returns-in-Err-clause-revokes
returns-in-Err-clause-revokes g c = unread_named _ _ _ _ _ c.in-Err.ensures

pub returns-in-Ok-None-clause-rests : goal.returns-in-Ok-None-clause-rests
returns-in-Ok-None-clause-rests g c = g.met.K.CopyOrders.is_same _

pub returns-in-Err-clause-rests : goal.returns-in-Err-clause-rests
returns-in-Err-clause-rests g c = g.met.K.CopyOrders.is_same _
