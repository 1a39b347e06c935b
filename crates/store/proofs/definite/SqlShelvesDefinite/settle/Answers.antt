use Rattle.std.proofs.Common.{◌≡◌, Ok, Err, IsTrue, refl}
use Rattle.std.specs.FinMap as map
use Rattle.sqlite.specs.Held.{state}
use Rattle.statements.proofs.ChangeLemmas.{weaker}
use Rattle.world.proofs.Causes.{answers, handed_on}
use Rattle.world.specs.World.{common}
use Rattle.store.proofs.BetweenLemmas.{one_world}
use Rattle.store.proofs.StoreLemmas.{counted_ok, no_answer, reads_counted}
use Rattle.store.proofs.definite.SqlShelvesDefinite.settle.Goals as goal

pub returns-in_err-counted-clause-reads : goal.returns-in_err-counted-clause-reads
returns-in_err-counted-clause-reads g c =
    let fault = c.in_err-counted.field-0.0 in
    let found = reads_counted (state g.S.Store c.args.self.now.conn) (state g.S.Store c.find_shelf.new.conn)
    c.args.self.now.kept c.args.self.now.failures _ c.find_shelf.result (Err fault)
    (λ w. map.get w.shelves common) c.find_shelf.ensures.spares c.in_err-counted.ensures
    (λ clean w stands. weaker c.find_shelf.result (λ _ it. it.2) (c.find_shelf.ensures.answer clean w stands)) in
    record {
      honest = found.honest;
      at = λ clean w stands. let here = found.at clean w stands in record {
        answer = no_answer (λ x. x ≡ tt) c.from_residual.result c.from_residual.ensures.0;
        stays = here.stays;
        left = here.left;
      };
      cause = handed_on _ _ fault c.from_residual.result c.from_residual.ensures.1 found.cause;
    }

pub returns-clause-reads : goal.returns-clause-reads
returns-clause-reads g c =
    let found = reads_counted (state g.S.Store c.args.self.now.conn) (state g.S.Store c.find_shelf.new.conn)
    c.args.self.now.kept c.args.self.now.failures _ c.find_shelf.result (Ok c.in_ok-counted.field-0)
    (λ w. map.get w.shelves common) c.find_shelf.ensures.spares c.in_ok-counted.ensures
    (λ clean w stands. weaker c.find_shelf.result (λ _ it. it.2) (c.find_shelf.ensures.answer clean w stands)) in
    record {
      honest = found.honest;
      at = λ clean w stands.
          let here = found.at clean w stands in record { answer = refl; stays = here.stays; left = here.left };
      cause = answers _ _ tt found.cause.no_fewer;
    }

pub returns-clause-one : goal.returns-clause-one
returns-clause-one g c = λ w stands clean a b first second.
    let new = state g.S.Store c.find_shelf.new.conn in
    let shown = counted_ok c.find_shelf.result (Ok c.in_ok-counted.field-0) (λ _. IsTrue new.is_open)
    c.in_ok-counted.ensures.ok
    (weaker c.find_shelf.result (λ _ it. it.1) (c.find_shelf.ensures.answer clean w stands.0.0)) in
    one_world new a b clean shown first.0.0 second.0.0
