use Rattle.std.proofs.Common.{refl, true, ◌∙◌}
use Rattle.control.proofs.NoticeLemmas.{notices_more, notices_none}
use Rattle.control.proofs.ServingLemmas.{serves_more, serves_none}
use Rattle.control.proofs.serving.Server.serve_waiting.Goals as goal

pub loop-init : goal.loop-init
loop-init g c = record {
  all = serves_none _ _ _ _ _ _ _ _ _ _ _ _ _ _;
  same = refl;
  same_errors = refl;
  notes = notices_none _;
}

pub loop-preserved : goal.loop-preserved
loop-preserved g c =
    let holds = c.loop.invariant in
    let next = c.serve_next.ensures in
    record {
      all = serves_more _ _ _ _ _ _ _ _ true _ _ _ _ _ _ _ _ _ _ _ _ _ _ _ holds.all
          (next.serves _ c.in-Some.ensures.takes c.in-Some.ensures.fresh);
      same = next.same ∙ holds.same;
      same_errors = next.same_errors ∙ holds.same_errors;
      notes = notices_more _ _ _ holds.notes next.notes;
    }
