use Rattle.histories.specs.declared.call.Call.TheVariants.{Shows, Unshown}
use Rattle.histories.proofs.StoppingLemmas.{waits_bounded, waits_more}
use Rattle.histories.proofs.TimingLemmas.{if_failed, blind, late, late_since, over, ready, unready, after}
use Rattle.histories.proofs.TimingLemmas.{ready_at_once}
use Rattle.histories.proofs.deadline_reader.DeadlineReader.bound.Goals as goal

pub invariant_of-self : goal.invariant_of-self
invariant_of-self g c = record {
  since = late_since _ _ _ _ (blind _ _ _ _ _ c.in_err-now.ensures.noted c.args.self.now.since);
  stops = waits_more Unshown _ _ tt c.in_err-now.ensures.noted c.args.self.now.stops;
}

pub returns-in_err-now-clause-late : goal.returns-in_err-now-clause-late
returns-in_err-now-clause-late g c = if_failed _ (blind _ _ _ _ _ c.in_err-now.ensures.noted c.args.self.now.since)

pub returns-in_err-left-clause-late : goal.returns-in_err-left-clause-late
returns-in_err-left-clause-late g c =
    if_failed _ (over _ _ _ _ _ _ _ c.left.ensures.begins c.left.ensures.moved c.in_ok-now.ensures.noted _
    c.in_err-left.ensures.over c.args.self.now.since)

pub returns-then-self-clause-late : goal.returns-then-self-clause-late
returns-then-self-clause-late g c =
    unready _ _ _ _ _ _ _ c.left.ensures.begins c.left.ensures.moved c.in_ok-now.ensures.noted c.in_ok-left.left
    c.in_ok-left.ensures.some c.in_ok-left.ensures.within _ _ c.bound.result
    c.bound.ensures.noted
    c.args.self.now.since

pub invariant_of-self-in-Break-branch-2 : goal.invariant_of-self-in-Break-branch-2
invariant_of-self-in-Break-branch-2 g c = record {
  since = late _ _ _ _ _ _ _ c.left.ensures.begins c.left.ensures.moved c.in_ok-now.ensures.noted _
      c.args.self.now.since;
  stops = waits_more (Shows c.in_ok-now.now) _ _ tt c.in_ok-now.ensures.noted c.args.self.now.stops;
}

pub invariant_of-self-then-self : goal.invariant_of-self-then-self
invariant_of-self-then-self g c = record {
  since = after _ _ _ _ _ _ _ c.left.ensures.begins c.left.ensures.moved c.in_ok-now.ensures.noted c.in_ok-left.left
      c.in_ok-left.ensures.some c.in_ok-left.ensures.within _ _ c.bound.result
      c.bound.ensures.noted
      c.args.self.now.since;
  stops = waits_bounded c.bound.result _ _ _ c.bound.ensures.noted
      (waits_more (Shows c.in_ok-now.now) _ _ tt c.in_ok-now.ensures.noted c.args.self.now.stops);
}

pub invariant_of-self-else-self : goal.invariant_of-self-else-self
invariant_of-self-else-self g c = record {
  since = late _ _ _ _ _ _ _ c.left.ensures.begins c.left.ensures.moved c.in_ok-now.ensures.noted _
      c.args.self.now.since;
  stops = waits_more (Shows c.in_ok-now.now) _ _ tt c.in_ok-now.ensures.noted c.args.self.now.stops;
}

pub returns-then-self-clause-ready : goal.returns-then-self-clause-ready
returns-then-self-clause-ready g c =
    ready _ _ _ _ _ _ _ c.left.ensures.begins c.left.ensures.moved c.in_ok-now.ensures.noted c.in_ok-left.left
    c.in_ok-left.ensures.some c.in_ok-left.ensures.within _ _ c.bound.result
    c.bound.ensures.noted
    c.args.self.now.since

pub returns-else-self-clause-ready : goal.returns-else-self-clause-ready
returns-else-self-clause-ready g c =
    ready_at_once _ _ _ _ _ _ _ c.left.ensures.begins c.left.ensures.moved c.in_ok-now.ensures.noted c.in_ok-left.left
    c.in_ok-left.ensures.some c.in_ok-left.ensures.within _ c.if-self.false c.args.self.now.since
