use Rattle.std.proofs.Common.{arith, false, inr, refl, ◌∙◌}
use Rattle.control.proofs.NoticeLemmas.{notices_more, notices_none}
use Rattle.control.proofs.ServingLemmas.{serves_more, serves_none, serves_peer, serves_untaken}
use Rattle.control.proofs.serving.Server.serve_each.Goals as goal
use Rattle.control.proofs.serving.Server.serve_each.Goals.{in-Ok-Operator, in-Ok-Peer, in-Err}

pub loop-init : goal.loop-init
loop-init g c = record {
  some = omega arith;
  all = serves_none _ _ _ _ _ _ _ _ _ _ _ _ _ _;
  same = refl;
  same_errors = refl;
  notes = notices_none _;
}

pub loop-preserved : goal.loop-preserved
loop-preserved g c =
    let holds = c.loop.invariant in
    let going = c.is_over.ensures.goes c.if-is_over.false in
    elim c.match-next.branch [
      | in-Ok-Operator w ↦ rw (w.self-is, w.watched-is) (record {
        some = omega (arith, holds.some, w.obey_on.ensures.taken);
        all = serves_more _ _ _ _ _ _ _ _ false _ _ _ _ _ _ _ _ _ _ _ _ _ _ _ holds.all
            (w.obey_on.ensures.serves _
            (rw w.in-Ok-Operator.field-0-is at w.in-Ok-Operator.ensures.takes)
            (rw w.in-Ok-Operator.field-0-is at w.in-Ok-Operator.ensures.fresh));
        same = w.obey_on.ensures.same ∙ holds.same;
        same_errors = w.obey_on.ensures.same_errors ∙ holds.same_errors;
        notes = notices_more _ _ _ holds.notes w.obey_on.ensures.notes;
      })
      | in-Ok-Peer w ↦ rw (w.self-is, w.watched-is) (record {
        some = omega (arith, holds.some, w.answer.ensures.serves.taken);
        all = serves_more _ _ _ _ _ _ _ _ false _ _ _ _ _ _ _ _ _ _ _ _ _ _ _ holds.all
            (serves_peer _ _ _ _ _ _ _ _ false _ _ _ _ _ _ _ _ _ _ _ _
            (rw w.in-Ok-Peer.field-0-is at w.in-Ok-Peer.ensures.takes)
            (rw w.in-Ok-Peer.field-0-is at w.in-Ok-Peer.ensures.fresh) going.0 w.answer.ensures.serves
            w.answer.ensures.tells);
        same = w.answer.ensures.same ∙ holds.same;
        same_errors = w.answer.ensures.same_errors ∙ holds.same_errors;
        notes = notices_more _ _ _ holds.notes w.answer.ensures.notes;
      })
      | in-Err w ↦ rw (w.self-is, w.watched-is) (record {
        some = omega (arith, holds.some, w.count_untaken.ensures.taken);
        all = serves_more _ _ _ _ _ _ _ _ false _ _ _ _ _ _ _ _ _ _ _ _ _ _ _ holds.all
            (serves_untaken _ _ _ _ _ _ _ _ false _ _ _ _ _ _ _ _ _ _ w.in-Err.ensures.takes going.0
            w.count_untaken.ensures.tally w.count_untaken.ensures.left w.count_untaken.ensures.taken
            w.count_untaken.ensures.stops refl refl refl);
        same = holds.same;
        same_errors = holds.same_errors;
        notes = holds.notes;
      })
    ]

pub returns-then-is_over-clause-serves : goal.returns-then-is_over-clause-serves
returns-then-is_over-clause-serves g c = c.loop.invariant.all

pub returns-then-is_over-clause-same : goal.returns-then-is_over-clause-same
returns-then-is_over-clause-same g c = c.loop.invariant.same

pub returns-then-is_over-clause-same_errors : goal.returns-then-is_over-clause-same_errors
returns-then-is_over-clause-same_errors g c = c.loop.invariant.same_errors

pub returns-then-is_over-clause-notes : goal.returns-then-is_over-clause-notes
returns-then-is_over-clause-notes g c = c.loop.invariant.notes

pub returns-clause-serves : goal.returns-clause-serves
returns-clause-serves g c = c.loop.invariant.all

pub returns-clause-over : goal.returns-clause-over
returns-clause-over g c =
    inr (inr (omega (arith, c.loop.invariant.some, c.loop.auto.counter-end, c.loop.self.progress.fits)))

pub returns-clause-same : goal.returns-clause-same
returns-clause-same g c = c.loop.invariant.same

pub returns-clause-same_errors : goal.returns-clause-same_errors
returns-clause-same_errors g c = c.loop.invariant.same_errors

pub returns-clause-notes : goal.returns-clause-notes
returns-clause-notes g c = c.loop.invariant.notes
