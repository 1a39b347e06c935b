use Rattle.std.proofs.Common.{◌∙◌, ap}
use Rattle.control.proofs.ServeLemmas.{each_goes}
use Rattle.control.proofs.ServingLemmas.{ends_each, traces_each}
use Rattle.control.proofs.serve.serve_lent.Goals as goal

pub returns-clause-ends : goal.returns-clause-ends
returns-clause-ends g c =
    rw (c.into_inner.ensures.value, c.into_parts-callers.ensures.callers)
    (ends_each _ _ _ _ _ _ _ _ _ _ _ _ _ _ _ _ _ _ _ _
    (rw (c.new-watched.ensures.value, c.new-server.ensures.callers) at c.serve_each.ensures.serves)
    c.new-server.ensures.tally c.new-server.ensures.left c.new-server.ensures.taken c.new-server.ensures.stops
    c.serve_each.ensures.over)

pub returns-clause-traces : goal.returns-clause-traces
returns-clause-traces g c =
    rw (
      c.into_inner.ensures.value,
      c.into_parts-callers.ensures.callers,
      c.into_parts-callers.ensures.errors,
      c.into_parts-callers.ensures.reserve,
    )
    (traces_each _ _ _ _ _ _ _ _ _ _ _ _ _ _ _ _ _ _ _ _
    (rw (
      c.new-watched.ensures.value,
      c.new-server.ensures.callers,
      c.new-server.ensures.errors,
      c.new-server.ensures.reserve,
      c.new-server.ensures.room,
    ) at c.serve_each.ensures.serves)
    c.new-server.ensures.tally c.new-server.ensures.left c.new-server.ensures.taken c.new-server.ensures.stops
    c.serve_each.ensures.over c.new-server.ensures.faults)

pub returns-clause-notes : goal.returns-clause-notes
returns-clause-notes g c =
    rw c.into_parts-callers.ensures.errors (rw c.new-server.ensures.errors at c.serve_each.ensures.notes)

pub returns-clause-reads : goal.returns-clause-reads
returns-clause-reads g c = (returns-clause-ends g c).reads

pub returns-clause-each : goal.returns-clause-each
returns-clause-each g c = (returns-clause-ends g c).reads.each

pub returns-clause-goes : goal.returns-clause-goes
returns-clause-goes g c = each_goes _ _ _ _ _ _ _ _ _ _ _ _ _ _ (returns-clause-ends g c).reads

pub returns-clause-same_reserve : goal.returns-clause-same_reserve
returns-clause-same_reserve g c =
    c.into_parts-callers.ensures.same_reserve ∙ c.serve_each.ensures.serves.traces.0
    ∙ ap (λ r. r.ghost_name) c.new-server.ensures.reserve
