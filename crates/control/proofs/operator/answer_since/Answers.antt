use Rattle.std.proofs.Common.{inl, inr, subst}
use Rattle.orders.specs.Order.{IsLineOf, ordered}
use Rattle.control.specs.Health.{IsPinged}
use Rattle.control.proofs.PingLemmas.{tells_outcome}
use Rattle.control.proofs.operator.answer_since.Goals as goal

pub returns-in-Some-Catalog-clause-obeys : goal.returns-in-Some-Catalog-clause-obeys
returns-in-Some-Catalog-clause-obeys g c = λ came came_new reads.
    let line = subst (λ o. IsLineOf c.args.got.now (ordered o)) (rw c.in-Some-Catalog.is at c.in-Some-Catalog.field-0-is)
    (rw c.in-Some-Catalog.is at c.read_order-order.ensures) in
    rw c.into_inner.ensures.same (rw c.new-output.ensures at
    (c.print_for-told.ensures.obeys c.args.tally.now c.args.got.now came came_new reads line))

pub returns-in-Some-Catalog-clause-figures : goal.returns-in-Some-Catalog-clause-figures
returns-in-Some-Catalog-clause-figures g c =
    let s = g.S.Shelves in
    let k = g.K.CopyOrders in
    let new = c.print_for-told.new.shelves in
    tells_outcome (k.figured c.args.copies.now new)
    (IsPinged c.args.tally.now (s.shown c.args.shelves.now).failures (s.shown new).failures
    (k.counted c.args.shelves.now new)) c.print_for-told.result.told c.print_for-told.ensures.outcome

pub returns-in-Some-Catalog-clause-fails : goal.returns-in-Some-Catalog-clause-fails
returns-in-Some-Catalog-clause-fails g c =
    rw c.into_inner.ensures.same (rw c.new-output.ensures at c.print_for-told.ensures.fails)

pub returns-in-Some-Catalog-clause-flushed : goal.returns-in-Some-Catalog-clause-flushed
returns-in-Some-Catalog-clause-flushed g c = rw c.into_inner.ensures.same c.print_for-told.ensures.flushed

pub returns-in-Some-Catalog-clause-in_time : goal.returns-in-Some-Catalog-clause-in_time
returns-in-Some-Catalog-clause-in_time g c =
    let line = subst (λ o. IsLineOf c.args.got.now (ordered o)) (rw c.in-Some-Catalog.is at c.in-Some-Catalog.field-0-is)
    (rw c.in-Some-Catalog.is at c.read_order-order.ensures) in
    inr (c.in-Some-Catalog.key.now, line, c.into_inner.ensures.kept)

pub returns-clause-obeys : goal.returns-clause-obeys
returns-clause-obeys g c = λ came came_new reads.
    rw c.into_inner-2.ensures.same (rw c.new-outcome.ensures at
    (c.answer-told.ensures.obeys c.args.got.now came came_new c.read_order-order.ensures reads))

pub returns-clause-fails : goal.returns-clause-fails
returns-clause-fails g c = rw c.into_inner-2.ensures.same (rw c.new-outcome.ensures at c.answer-told.ensures.fails)

pub returns-clause-flushed : goal.returns-clause-flushed
returns-clause-flushed g c = rw c.into_inner-2.ensures.same c.answer-told.ensures.flushed

pub returns-clause-in_time : goal.returns-clause-in_time
returns-clause-in_time g c = inl c.into_inner-2.ensures.kept
