use Rattle.std.proofs.Common.{◌≡◌, refl}
use Rattle.commands.specs.declared.refusal.CommandRefusal.TheVariants.{Io}
use Rattle.commands.proofs.Actions.{accepted, not_accepted, registry_cause, revoked_cause}
use Rattle.commands.proofs.action.act_alone.Goals as goal

pub returns-in-AddNew-clause-acts : goal.returns-in-AddNew-clause-acts
returns-in-AddNew-clause-acts g c =
    rw c.in-AddNew.is (record {
      ended = c.add_new.result;
      adds = c.add_new.ensures.adds;
      told = c.acceptance-in-AddNew.ensures;
      came = refl;
      door = refl;
      read = refl;
    })

pub returns-in-AddNew-clause-whole : goal.returns-in-AddNew-clause-whole
returns-in-AddNew-clause-whole g c =
    rw c.in-AddNew.is (not_accepted c.add_new.result _ _ c.acceptance-in-AddNew.ensures c.add_new.ensures.whole)

pub returns-in-AddNew-clause-cause : goal.returns-in-AddNew-clause-cause
returns-in-AddNew-clause-cause g c =
    rw c.in-AddNew.is (not_accepted c.add_new.result _ _ c.acceptance-in-AddNew.ensures c.add_new.ensures.cause)

pub returns-in-AddNew-clause-flushed : goal.returns-in-AddNew-clause-flushed
returns-in-AddNew-clause-flushed g c =
    λ _. accepted c.add_new.result _ _ c.acceptance-in-AddNew.ensures c.add_new.ensures.flushed

pub returns-in-Register-clause-cause : goal.returns-in-Register-clause-cause
returns-in-Register-clause-cause g c =
    rw c.in-Register.is (not_accepted c.register.result _ (λ e. ¬ (e ≡ Io)) c.acceptance.ensures
    (registry_cause _ _ _ c.register.result c.register.ensures))

pub returns-in-RevokeByFingerprint-clause-cause : goal.returns-in-RevokeByFingerprint-clause-cause
returns-in-RevokeByFingerprint-clause-cause g c =
    rw c.in-RevokeByFingerprint.is (not_accepted c.revoke_by_fingerprint.result _ (λ e. ¬ (e ≡ Io))
    c.acceptance-in-RevokeByFingerprint.ensures
    (revoked_cause _ _ _ c.revoke_by_fingerprint.result c.revoke_by_fingerprint.ensures))

pub returns-in-Answer-clause-cause : goal.returns-in-Answer-clause-cause
returns-in-Answer-clause-cause g c =
    rw c.in-Answer.is (not_accepted c.answer_input.result _ _ c.acceptance-in-Answer.ensures c.answer_input.ensures.cause)

pub returns-in-Answer-clause-flushed : goal.returns-in-Answer-clause-flushed
returns-in-Answer-clause-flushed g c =
    λ _. accepted c.answer_input.result _ _ c.acceptance-in-Answer.ensures c.answer_input.ensures.flushed
