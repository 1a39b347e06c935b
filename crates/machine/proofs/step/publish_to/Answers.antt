use Rattle.std.proofs.Common.{◌≡◌, ◌∙◌, sym, ap, subst, arith, IfOk, None, Some, inr}
use Rattle.std.specs.Result.{result_err}
use Rattle.world.proofs.Causes.{answers}
use Rattle.machine.specs.Machine.{offered, own_refusal}
use Rattle.machine.proofs.AfterRead.{decision_read, not_carried_out, carried_out, read_failed}
use Rattle.machine.proofs.Checks.{refused_alone, unchanged}
use Rattle.machine.proofs.Needs.{asks_on, handed_on, publish_in_turn, refused_in, refused_in_turn}
use Rattle.machine.proofs.step.publish_to.Goals as goal

pub returns-in-Err-clause-does : goal.returns-in-Err-clause-does
returns-in-Err-clause-does g c =
    let h = c.args.holder.now in
    let p = c.args.publish.now in
    let shown = g.S.TracedShelves.shown c.args.shelves.now in
    let refused : own_refusal p h.right ≡ Some c.in-Err.refused =
    sym c.in_ok-entry.ensures.refusal ∙ ap result_err c.in-Err.is in
    record {
      honest = λ honest. honest;
      at = λ honest w stands there.
          let stays = unchanged w h p c.in-Err.refused refused in
          record {
            answer = sym (refused_alone w h p c.in-Err.refused refused);
            ok = subst shown.stands (sym stays) stands;
            err = tt;
            crash = record {
              either = λ was. subst (shown.leaves w) (sym stays) was;
              alone = λ was. subst (λ x. shown.leaves x x) (sym stays) was;
              settled = inr (stays, λ x y left. left);
              failed = tt;
            };
          };
      cause = answers _ _ _ (omega arith);
    }

pub returns-in-Err-clause-needs : goal.returns-in-Err-clause-needs
returns-in-Err-clause-needs g c = λ h w stands.
    refused_in_turn _ w c.args.holder.now c.args.publish.now c.in-Err.refused
    (sym c.in_ok-entry.ensures.refusal ∙ ap result_err c.in-Err.is)

pub returns-in_err-decision-clause-does : goal.returns-in_err-decision-clause-does
returns-in_err-decision-clause-does g c =
    read_failed _ _ _ c.in_err-decision.field-0.0 c.from_residual-in_err-decision.result _ _ _
    (λ w x. g.met.S.TracedShelves.wider c.judge_by_shelf.new.shelves w x) c.from_residual-in_err-decision.ensures.1
    c.in_err-decision.ensures.reads

pub returns-in_err-decision-clause-needs : goal.returns-in_err-decision-clause-needs
returns-in_err-decision-clause-needs g c = λ honest w stands.
    let h = c.args.holder.now in
    let p = c.args.publish.now in
    let passes : own_refusal p h.right ≡ None = sym c.in_ok-entry.ensures.refusal ∙ ap result_err c.in-Ok.is in
    let handed : offered p ≡ Some c.in-Ok.entry =
    subst (λ r. IfOk r (λ e. offered p ≡ Some e)) c.in-Ok.is c.in_ok-entry.ensures.entry in
    handed_on _ _ _ c.in_err-decision.field-0.0 c.from_residual-in_err-decision.result
    c.from_residual-in_err-decision.ensures.1
    (refused_in _ _ _ _ _ (asks_on _ _ h p c.in-Ok.entry _ passes handed
    (rw c.as_str.ensures at c.in_err-decision.ensures.needs)))

pub returns-in_err-carry_out-clause-does : goal.returns-in_err-carry_out-clause-does
returns-in_err-carry_out-clause-does g c =
    let h = c.args.holder.now in
    let p = c.args.publish.now in
    let passes : own_refusal p h.right ≡ None = sym c.in_ok-entry.ensures.refusal ∙ ap result_err c.in-Ok.is in
    let handed : offered p ≡ Some c.in-Ok.entry =
    subst (λ r. IfOk r (λ e. offered p ≡ Some e)) c.in-Ok.is c.in_ok-entry.ensures.entry in
    not_carried_out _ _ _ h p c.in_ok-decision.decision c.in_err-carry_out.field-0.0
    c.from_residual-in_err-carry_out.result c.from_residual-in_err-carry_out.ensures.1
    (decision_read _ _ _ h p c.in-Ok.entry passes handed (rw c.as_str.ensures at c.in_ok-decision.ensures.reads))
    c.in_err-carry_out.ensures.does

pub returns-in_err-carry_out-clause-needs : goal.returns-in_err-carry_out-clause-needs
returns-in_err-carry_out-clause-needs g c = λ honest w stands.
    let h = c.args.holder.now in
    let p = c.args.publish.now in
    let passes : own_refusal p h.right ≡ None = sym c.in_ok-entry.ensures.refusal ∙ ap result_err c.in-Ok.is in
    let handed : offered p ≡ Some c.in-Ok.entry =
    subst (λ r. IfOk r (λ e. offered p ≡ Some e)) c.in-Ok.is c.in_ok-entry.ensures.entry in
    let read =
    decision_read _ _ _ h p c.in-Ok.entry passes handed (rw c.as_str.ensures at c.in_ok-decision.ensures.reads) in
    let does = c.in_err-carry_out.ensures.does in
    handed_on _ _ _ c.in_err-carry_out.field-0.0 c.from_residual-in_err-carry_out.result
    c.from_residual-in_err-carry_out.ensures.1
    (publish_in_turn _ _ _ w h p _ _ (sym ((read.at (does.honest honest) w stands).answer))
    (asks_on _ _ h p c.in-Ok.entry _ passes handed (rw c.as_str.ensures at c.in_ok-decision.ensures.needs))
    c.in_err-carry_out.ensures.needs)

pub returns-clause-does : goal.returns-clause-does
returns-clause-does g c =
    let h = c.args.holder.now in
    let p = c.args.publish.now in
    let passes : own_refusal p h.right ≡ None = sym c.in_ok-entry.ensures.refusal ∙ ap result_err c.in-Ok.is in
    let handed : offered p ≡ Some c.in-Ok.entry =
    subst (λ r. IfOk r (λ e. offered p ≡ Some e)) c.in-Ok.is c.in_ok-entry.ensures.entry in
    carried_out _ _ _ h p c.in_ok-decision.decision
    (decision_read _ _ _ h p c.in-Ok.entry passes handed (rw c.as_str.ensures at c.in_ok-decision.ensures.reads))
    c.in_ok-carry_out.ensures.does

pub returns-clause-needs : goal.returns-clause-needs
returns-clause-needs g c = λ honest w stands.
    let h = c.args.holder.now in
    let p = c.args.publish.now in
    let passes : own_refusal p h.right ≡ None = sym c.in_ok-entry.ensures.refusal ∙ ap result_err c.in-Ok.is in
    let handed : offered p ≡ Some c.in-Ok.entry =
    subst (λ r. IfOk r (λ e. offered p ≡ Some e)) c.in-Ok.is c.in_ok-entry.ensures.entry in
    let read =
    decision_read _ _ _ h p c.in-Ok.entry passes handed (rw c.as_str.ensures at c.in_ok-decision.ensures.reads) in
    let does = c.in_ok-carry_out.ensures.does in
    publish_in_turn _ _ _ w h p _ _ (sym ((read.at (does.honest honest) w stands).answer))
    (asks_on _ _ h p c.in-Ok.entry _ passes handed (rw c.as_str.ensures at c.in_ok-decision.ensures.needs))
    c.in_ok-carry_out.ensures.needs
