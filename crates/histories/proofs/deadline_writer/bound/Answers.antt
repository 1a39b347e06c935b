use Rattle.histories.proofs.TimingLemmas.{if_failed, blind, over, ready, unready}
use Rattle.histories.proofs.deadline_writer.bound.Goals as goal

pub returns-in_err-now-clause-late : goal.returns-in_err-now-clause-late
returns-in_err-now-clause-late g c = λ start since.
    if_failed _ (blind _ _ _ _ _ c.in_err-now.ensures.noted since)

pub returns-in_err-left-clause-late : goal.returns-in_err-left-clause-late
returns-in_err-left-clause-late g c = λ start since.
    if_failed _ (over _ _ _ _ _ _ _ c.left.ensures.begins c.left.ensures.moved c.in_ok-now.ensures.noted _
    c.in_err-left.ensures.over since)

pub returns-clause-ready : goal.returns-clause-ready
returns-clause-ready g c = λ start since.
    ready _ _ _ _ _ _ _ c.left.ensures.begins c.left.ensures.moved c.in_ok-now.ensures.noted c.in_ok-left.left
    c.in_ok-left.ensures.some c.in_ok-left.ensures.within _ _ c.bound.result
    c.bound.ensures.noted since

pub returns-clause-late : goal.returns-clause-late
returns-clause-late g c = λ start since.
    unready _ _ _ _ _ _ _ c.left.ensures.begins c.left.ensures.moved c.in_ok-now.ensures.noted c.in_ok-left.left
    c.in_ok-left.ensures.some c.in_ok-left.ensures.within _ _ c.bound.result
    c.bound.ensures.noted since
