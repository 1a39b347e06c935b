use Rattle.std.proofs.Common.{◌≡◌, sym, subst, ◌∙◌, Some}
use Rattle.std.specs.FinMap as map
use Rattle.machine.specs.Machine.{decision, after_decision}
use Rattle.world.specs.Store.{DoesAt}
use Rattle.world.proofs.Causes.{in_turn}
use Rattle.machine.proofs.AfterRead.{after_read}
use Rattle.machine.proofs.Needs.{told_then}
use Rattle.machine.proofs.step.answer_publish.Goals as goal

pub returns-clause-does : goal.returns-clause-does
returns-clause-does g c =
    let shown = g.S.TracedShelves.shown in
    let read = c.in_ok-holder.ensures.reads in
    let does = c.publish_to.ensures.does in
    record {
      honest = λ h. read.honest (does.honest h);
      at = λ h w stands _.
          let key = read.at (does.honest h) w stands in
          let found : map.get w.keys c.args.key.now ≡ Some c.in-Some.holder = sym key.answer ∙ c.in-Some.is in
          let there = (g.met.S.TracedShelves.sound _ w stands).keys_stand _ _ found in
          let then =
          subst (λ o. DoesAt (shown c.key.new.self) (shown c.publish_to.new.shelves) w c.publish_to.result
          (decision w o c.args.publish.now) (after_decision w o c.args.publish.now (decision w o c.args.publish.now)))
          (sym found)
          (does.at h w key.stays there) in
          after_read _ _ _ w c.publish_to.result _ _ key.left then;
      cause = in_turn _ _ _ _ _ read.cause does.cause;
    }

pub returns-clause-needs : goal.returns-clause-needs
returns-clause-needs g c = λ h w stands.
    let does = c.publish_to.ensures.does in
    let key = c.in_ok-holder.ensures.reads.at (does.honest h) w stands in
    let found : map.get w.keys c.args.key.now ≡ Some c.in-Some.holder = sym key.answer ∙ c.in-Some.is in
    rw found (told_then _ _ _ _ _ _ c.in_ok-holder.ensures.asks (c.publish_to.ensures.needs h w key.stays))
