use Rattle.std.proofs.Common.{Err, refl, subst, sym}
use Rattle.std.specs.Io.KnownBytes.{Appends}
use Rattle.engine.specs.declared.fault.Io.TheVariants as io
use Rattle.control.specs.Outcome.{outcome_of_catalog}
use Rattle.control.specs.declared.control_reply.ControlReply.TheVariants as spoken
use Rattle.control.proofs.HearingLemmas.{hears_catalog, obeys_cut, obeys_told}
use Rattle.control.proofs.obeying.print_for.Goals as goal

pub returns-then-eq-clause-obeys : goal.returns-then-eq-clause-obeys
returns-then-eq-clause-obeys g c = λ tally got came came_new reads asks.
    obeys_cut _ _ _ _ _ _ came came_new _ _ c.catalog_to-told.ensures.came.0
    (outcome_of_catalog c.catalog_to-told.result) _ c.catalog_to-told.ensures.came.1
    (hears_catalog _ _ _ _ _ _ came came_new got c.args.key.now c.catalog_to-told.ensures.came.0
    c.catalog_to-told.result (outcome_of_catalog c.catalog_to-told.result) (Err io.Write) _ refl reads asks
    (c.catalog_to-told.ensures.meanwhile c.catalog_to-told.ensures.came.0) c.catalog_to-told.ensures.came.2
    c.catalogued-cut.ensures)

pub returns-clause-obeys : goal.returns-clause-obeys
returns-clause-obeys g c = λ tally got came came_new reads asks.
    obeys_told _ _ _ _ _ _ came came_new (g.W.Write.contents c.args.writer.now)
    (g.W.Write.contents c.restart.new.self) _ c.catalog_to-told.ensures.came.0
    (subst (λ v. Appends (g.W.Write.contents c.args.writer.now) v c.catalog_to-told.ensures.came.0)
    (sym c.restart.ensures.bytes) c.catalog_to-told.ensures.came.1) (spoken.Outcome c.outcome_of_catalog.result)
    c.tell-said.result _
    (hears_catalog _ _ _ _ _ _ came came_new got c.args.key.now c.catalog_to-told.ensures.came.0
    c.catalog_to-told.result c.outcome_of_catalog.result c.tell-said.result _ c.outcome_of_catalog.ensures reads asks
    (c.catalog_to-told.ensures.meanwhile c.catalog_to-told.ensures.came.0) c.catalog_to-told.ensures.came.2
    (rw c.ended_for.ensures at c.catalogued-noted.ensures)) c.tell-said.ensures.same c.tell-said.ensures.tells
