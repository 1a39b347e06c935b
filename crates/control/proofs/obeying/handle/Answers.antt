use Rattle.std.proofs.Common.{◌∙◌, refl, ap, subst, sym}
use Rattle.orders.specs.Order.{IsLineOf, ordered}
use Rattle.control.specs.Health.{IsPinged}
use Rattle.control.specs.Copying.{ToPath}
use Rattle.control.specs.Hearing.{Carried, Made, Listed, Pinged, Named, Stop, NoOrder}
use Rattle.control.specs.Naming.{named_notice}
use Rattle.control.specs.Noted.{IsAbout, IsNoted}
use Rattle.control.specs.Notices as notice
use Rattle.control.specs.declared.control_reply.ControlReply.TheVariants as spoken
use Rattle.control.proofs.ListingLemmas.{list_only_reads}
use Rattle.control.proofs.PingLemmas.{tells_no_ping}
use Rattle.control.proofs.TaskLemmas.{tasks_none, tasks_read, tasks_ordered}
use Rattle.control.proofs.obeying.handle.Goals as goal

pub returns-in-Some-Stop-clause-heeds : goal.returns-in-Some-Stop-clause-heeds
returns-in-Some-Stop-clause-heeds g c = λ got is. record {
  heard = Stop;
  from = (
    subst (λ o. IsLineOf got (ordered o)) (rw c.in-Some-Stop.is at c.in-Some-Stop.field-0-is) (rw c.in-Some-Stop.is at is),
    λ said. c.reply.ensures.noted,
  );
  prints = refl;
  tells = c.reply.ensures.told;
  through = ((g.met.K.CopyOrders.is_same _, refl), tasks_none _);
  came = tt;
  lists = tt;
}

pub returns-in-Some-Ping-clause-heeds : goal.returns-in-Some-Ping-clause-heeds
returns-in-Some-Ping-clause-heeds g c = λ got is. record {
  heard = Pinged c.ping.ensures.pings.heard;
  from = (
    subst (λ o. IsLineOf got (ordered o)) (rw c.in-Some-Ping.is at c.in-Some-Ping.field-0-is) (rw c.in-Some-Ping.is at is),
    λ said. c.reply-in-Some-Ping.ensures.noted,
  );
  prints = refl;
  tells = c.reply-in-Some-Ping.ensures.told ∙ c.ping.ensures.pings.tells;
  through = ((g.met.K.CopyOrders.is_same _, refl), tasks_read _ _ c.ping.ensures.pings.reads);
  came = c.ping.ensures.pings.came;
  lists = tt;
}

pub returns-in-Some-Copy-clause-heeds : goal.returns-in-Some-Copy-clause-heeds
returns-in-Some-Copy-clause-heeds g c = λ got is. record {
  heard = Made (ToPath c.in-Some-Copy.path.now c.copy_to-told.result);
  from = (
    subst (λ o. IsLineOf got (ordered o)) (rw c.in-Some-Copy.is at c.in-Some-Copy.field-0-is) (rw c.in-Some-Copy.is at is),
    λ said. subst (IsAbout (notice.Copied c.in-Some-Copy.path.now c.copy_to-told.result))
        (sym c.reply_outcome.ensures.noted) c.copied.ensures,
  );
  prints = refl;
  tells = c.reply_outcome.ensures.told ∙ ap spoken.Outcome c.outcome_of_copy.ensures;
  through = c.copy_to-told.ensures.meanwhile;
  came = c.copy_to-told.ensures.came;
  lists = tt;
}

pub returns-in-Some-List-clause-heeds : goal.returns-in-Some-List-clause-heeds
returns-in-Some-List-clause-heeds g c = λ got is. record {
  heard = Listed c.in-Some-List.listing c.list.ensures.heard;
  from = (
    subst (λ o. IsLineOf got (ordered o)) (rw c.in-Some-List.is at c.in-Some-List.field-0-is) (rw c.in-Some-List.is at is),
    λ said. c.reply-in-Some-List.ensures.noted,
  );
  prints = refl;
  tells = c.reply-in-Some-List.ensures.told ∙ c.list.ensures.tells;
  through = ((g.met.K.CopyOrders.is_same _, refl), tasks_read _ _ (list_only_reads _ _ _ _ c.list.ensures.reads));
  came = tt;
  lists = c.list.ensures.reads;
}

pub returns-in-Some-RevokeByFingerprint-clause-heeds : goal.returns-in-Some-RevokeByFingerprint-clause-heeds
returns-in-Some-RevokeByFingerprint-clause-heeds g c = λ got is. record {
  heard = Named c.in-Some-RevokeByFingerprint.fingerprint.now c.revoke_by_fingerprint-done.ensures.revokes.naming;
  from = (
    subst (λ o. IsLineOf got (ordered o))
        (rw c.in-Some-RevokeByFingerprint.is at c.in-Some-RevokeByFingerprint.field-0-is)
        (rw c.in-Some-RevokeByFingerprint.is at is),
    λ said. subst (IsNoted (named_notice c.revoke_by_fingerprint-done.ensures.revokes.naming))
        (sym c.reply_outcome-in-Some-RevokeByFingerprint.ensures.noted) c.revoke_by_fingerprint-done.ensures.revokes.notes,
  );
  prints = refl;
  tells = c.reply_outcome-in-Some-RevokeByFingerprint.ensures.told ∙ ap spoken.Outcome c.revoke_by_fingerprint-done.ensures.revokes.tells;
  through = (
    (c.revoke_by_fingerprint-done.ensures.rests, c.revoke_by_fingerprint-done.ensures.revokes.room),
    c.revoke_by_fingerprint-done.ensures.revokes.through,
  );
  came = tt;
  lists = c.revoke_by_fingerprint-done.ensures.revokes.finds;
}

pub returns-in-Some-Registry-clause-heeds : goal.returns-in-Some-Registry-clause-heeds
returns-in-Some-Registry-clause-heeds g c = λ got is. record {
  heard = Carried c.in-Some-Registry.command c.carry_out_in-told.result;
  from = (
    subst (λ o. IsLineOf got (ordered o)) (rw c.in-Some-Registry.is at c.in-Some-Registry.field-0-is)
        (rw c.in-Some-Registry.is at is),
    λ said. subst (IsAbout (notice.Ordered c.in-Some-Registry.command c.carry_out_in-told.result))
        (sym c.reply_outcome-in-Some-Registry.ensures.noted) c.ordered.ensures,
  );
  prints = refl;
  tells = c.reply_outcome-in-Some-Registry.ensures.told ∙ ap spoken.Outcome c.outcome_of.ensures;
  through = (
    (c.carry_out_in-told.ensures.rests, c.carry_out_in-told.ensures.room),
    tasks_ordered _ _ _ _ c.carry_out_in-told.ensures.does,
  );
  came = tt;
  lists = tt;
}

pub returns-in-None-clause-heeds : goal.returns-in-None-clause-heeds
returns-in-None-clause-heeds g c = λ got is. record {
  heard = NoOrder;
  from = (rw c.in-None.is at is, λ said. c.reply-in-None.ensures.noted);
  prints = refl;
  tells = c.reply-in-None.ensures.told;
  through = ((g.met.K.CopyOrders.is_same _, refl), tasks_none _);
  came = tt;
  lists = tt;
}

pub returns-in-Some-Stop-clause-figures : goal.returns-in-Some-Stop-clause-figures
returns-in-Some-Stop-clause-figures g c = rw c.reply.ensures.told tt

pub returns-in-Some-Ping-clause-figures : goal.returns-in-Some-Ping-clause-figures
returns-in-Some-Ping-clause-figures g c = rw c.reply-in-Some-Ping.ensures.told c.ping.ensures.figures

pub returns-in-Some-Copy-clause-figures : goal.returns-in-Some-Copy-clause-figures
returns-in-Some-Copy-clause-figures g c = rw c.reply_outcome.ensures.told tt

pub returns-in-Some-List-clause-figures : goal.returns-in-Some-List-clause-figures
returns-in-Some-List-clause-figures g c =
    let s = g.S.Shelves in
    let k = g.K.CopyOrders in
    tells_no_ping (k.figured c.args.copies.now c.list.new.shelves)
    (IsPinged c.args.tally.now (s.shown c.args.shelves.now).failures (s.shown c.list.new.shelves).failures
    (k.counted c.args.shelves.now c.list.new.shelves)) _ _ (c.reply-in-Some-List.ensures.told ∙ c.list.ensures.tells)

pub returns-in-Some-RevokeByFingerprint-clause-figures : goal.returns-in-Some-RevokeByFingerprint-clause-figures
returns-in-Some-RevokeByFingerprint-clause-figures g c = rw c.reply_outcome-in-Some-RevokeByFingerprint.ensures.told tt

pub returns-in-Some-Registry-clause-figures : goal.returns-in-Some-Registry-clause-figures
returns-in-Some-Registry-clause-figures g c = rw c.reply_outcome-in-Some-Registry.ensures.told tt

pub returns-in-None-clause-figures : goal.returns-in-None-clause-figures
returns-in-None-clause-figures g c = rw c.reply-in-None.ensures.told tt
