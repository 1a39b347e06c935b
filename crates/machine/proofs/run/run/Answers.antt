use Rattle.std.proofs.Common.{arith, inl, inr}
use Rattle.machine.proofs.Runs.{runs_begun, runs_push, met_before, grown_more, grown_before}
use Rattle.machine.proofs.run.run.Goals as goal

pub loop-event-init : goal.loop-event-init
loop-event-init g c =
    let made = c.in_ok-answers.ensures in
    record {
      runs = rw made.items (runs_begun (g.S.Shelves.shown c.args.shelves.now));
      no_fewer = omega arith;
      device = λ met. absurd (rw made.items at met);
      count = made.len;
      room = made.capacity;
    }

pub loop-event-preserved : goal.loop-event-preserved
loop-event-preserved g c =
    let so_far = c.loop-event.invariant in
    let given = c.answer-answer.ensures in
    let items = c.in_ok-push.ensures.items in
    record {
      runs = rw items (runs_push _ _ _ c.args.events.now c.loop-event.event-index c.event-item.result _ _
          c.loop-event-test.true c.event-item.is so_far.runs given.runs);
      no_fewer = omega arith;
      device = λ met. elim (met_before _ _ (rw items at met)) [
        | inl before ↦ grown_more _ _ _ (so_far.device before) given.no_fewer
        | inr here ↦ grown_before _ _ _ so_far.no_fewer (given.device here)
      ];
      count = omega (arith, c.in_ok-push.ensures.len, so_far.count);
      room = omega (arith, so_far.room, c.push.ensures.capacity);
    }
